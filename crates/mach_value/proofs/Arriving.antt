-- What is imported leaves as the lump that came.
use Rattle.std.proofs.Common.{◌≡◌, ℕ, zero, suc, ◌+◌, ◌-◌, ◌<◌, ◌≤◌, ◌^◌, pos, Bool, true, false, ◌==◌, nat_lt, if◌then◌else◌, List, [], ◌∷◌, ◌++◌, length, take, drop, Option, None, Some, refl, sym, ap, ◌∙◌, subst, arith, option_and_then, zero-add}
use Rattle.std.specs.Prelude.{slice_get, codes}
use Rattle.std.proofs.lemmas.Bool.{false≢true}
use Rattle.std.proofs.lemmas.Bool.Decides.{nat_tests}
use Rattle.std.proofs.lemmas.Int.{ints}
use Rattle.std.proofs.lemmas.List.{append_assoc, length-append}
use Rattle.kt_base.specs.declared.lumps.Node.{Node}
use Rattle.kt_base.specs.declared.lumps.Node.TheVariants as n
use Rattle.kt_base.specs.Lump.{field_count, are_lumps, IsPrefixForm}
use Rattle.mach_value.specs.declared.values.Value.{Value}
use Rattle.mach_value.specs.declared.values.Value.TheVariants as v
use Rattle.mach_value.specs.declared.values.FieldKind.{FieldKind}
use Rattle.mach_value.specs.declared.values.FieldKind.TheVariants as k
use Rattle.mach_value.specs.declared.values.Field.{Field}
use Rattle.mach_value.specs.declared.objects.Object.{Object}
use Rattle.mach_value.specs.declared.objects.Object.TheVariants as o
use Rattle.mach_value.specs.declared.heaps.Heap.{Heap}
use Rattle.mach_value.specs.declared.importing.Built.{Built}
use Rattle.mach_value.specs.Heaps.{object_at, address_behind}
use Rattle.mach_value.specs.Exports.{Opened, Opens, opened, opened_value, opened_at, opened_object, held, AreLumps, IsLump, is_true, unit_of}
use Rattle.mach_value.specs.Imported.{final_field, with_field, with_object, truth, received, built_on, built, box_of, top_of, with_box, top_value, IsUnit, AreUnits, imported, imported_value}
use Rattle.mach_value.proofs.Lumps.{begins, follows}

-- what stands at a place still stands there when more are made

got_before : (xs ys : List Object) (i : ℕ) (x : Object) → slice_get xs i ≡ Some x → slice_get (xs ++ ys) i ≡ Some x
got_before [] ys i x e = absurd (cc e)
got_before (y ∷ xs) ys zero x e = e
got_before (y ∷ xs) ys (suc i) x e = got_before xs ys i x e

got_behind : (xs : List Object) (x : Object) (ys : List Object) → slice_get (xs ++ x ∷ ys) (length xs) ≡ Some x
got_behind [] x ys = refl
got_behind (y ∷ xs) x ys = got_behind xs x ys

at_before : (xs ys : List Object) (a : ℕ) (x : Object) → object_at xs a ≡ Some x → object_at (xs ++ ys) a ≡ Some x
at_before xs ys a x e = of (nat_lt a 2) e
  where
    of : (t : Bool) → (if t then None else slice_get xs (a - 2)) ≡ Some x → (if t then None else slice_get (xs ++ ys) (a - 2)) ≡ Some x
    of true e = absurd (cc e)
    of false e = got_before xs ys (a - 2) x e

opened_at_before : (xs ys : List Object) (a : ℕ) (p : Opened) → opened_at xs a ≡ Some p → opened_at (xs ++ ys) a ≡ Some p
opened_at_before xs ys a p e = of (a == 0) (a == 1) (object_at xs a) refl e
  where
    of : (s t : Bool) (found : Option Object) → object_at xs a ≡ found
        → (if s then Some (record { node = n.UnitNode; fields = [] }) else (if t then Some (record { node = n.Object (codes "java/lang/Object") 0; fields = [] }) else option_and_then opened_object found)) ≡ Some p
        → (if s then Some (record { node = n.UnitNode; fields = [] }) else (if t then Some (record { node = n.Object (codes "java/lang/Object") 0; fields = [] }) else option_and_then opened_object (object_at (xs ++ ys) a))) ≡ Some p
    of true t found q e = e
    of false true found q e = e
    of false false None q e = absurd (cc e)
    of false false (Some object) q e = ap (option_and_then opened_object) (at_before xs ys a object q) ∙ e

opened_before : (xs ys : List Object) (x : Field) (p : Opened) → opened xs x ≡ Some p → opened (xs ++ ys) x ≡ Some p
opened_before xs ys x p e = of x.is_final x.value e
  where
    of : (t : Bool) (y : Value) → (if t then opened_value xs x.kind y else None) ≡ Some p → (if t then opened_value (xs ++ ys) x.kind y else None) ≡ Some p
    of false y e = absurd (cc e)
    of true (v.Int i) e = e
    of true (v.Long i) e = e
    of true v.Null e = e
    of true (v.Ref a) e = opened_at_before xs ys a p e

pub lumps_before : (xs ys : List Object) (nodes : List Node) (fields : List Field) → AreLumps xs nodes fields → AreLumps (xs ++ ys) nodes fields
lumps_before xs ys [] [] h = tt
lumps_before xs ys [] (x ∷ fields) h = absurd h
lumps_before xs ys (node ∷ nodes) [] h = absurd h
lumps_before xs ys (node ∷ nodes) (x ∷ fields) h =
    of (opened xs x) refl h (λ inside k. lumps_before xs ys nodes (inside ++ fields) k)
  where
    of : (p : Option Opened) → opened xs x ≡ p → Opens p node (λ inside. AreLumps xs nodes (inside ++ fields))
        → ((inside : List Field) → AreLumps xs nodes (inside ++ fields) → AreLumps (xs ++ ys) nodes (inside ++ fields))
        → AreLumps (xs ++ ys) (node ∷ nodes) (x ∷ fields)
    of None e h go = absurd h
    of (Some p) e h go =
        subst (λ m. AreLumps (xs ++ ys) (m ∷ nodes) (x ∷ fields)) h.0
        (follows (xs ++ ys) x fields p nodes (opened_before xs ys x p e) (go p.fields h.1))

-- an object is found by its address
found_at : (objects : List Object) (a : ℕ) (object : Object) → 2 ≤ a → slice_get objects (a - 2) ≡ Some object → opened_at objects a ≡ opened_object object
found_at objects a object le e =
    let z : (a == 0) ≡ false = grind (arith, nat_tests) in
    let o : (a == 1) ≡ false = grind (arith, nat_tests) in
    let t : nat_lt a 2 ≡ false = grind (arith, nat_tests) in
    rw (z, o, t, e) refl

made_last : (before made : List Object) (object : Object) → opened ((before ++ made) ++ object ∷ []) (held (v.Ref (2 + length before + length made))) ≡ opened_object object
made_last before made object =
    let place : (2 + length before + length made) - 2 ≡ length (before ++ made) = omega (arith, length-append before made) in
    found_at ((before ++ made) ++ object ∷ []) (2 + length before + length made) object (omega arith)
    (ap (λ a. slice_get ((before ++ made) ++ object ∷ []) a) place ∙ got_behind (before ++ made) object [])

-- what nodes at the end of a lump became: so many fields, which have these lumps
pub record Made (before : List Object) (nodes : List Node) (count : ℕ) (b : Built) : Type 0 where
  pub counts : length b.fields ≡ count
  pub lumps : AreLumps (before ++ b.objects) nodes b.fields

-- one more field, whose object is there
more_field : (before : List Object) (nodes : List Node) (count : ℕ) (b : Built) (x : Field) (node : Node)
    → opened (before ++ b.objects) x ≡ Some (record { node = node; fields = [] }) → Made before nodes count b
    → Made before (node ∷ nodes) (suc count) (with_field x b)
more_field before nodes count b x node e m =
    record { counts = ap suc m.counts; lumps = follows (before ++ b.objects) x b.fields (record { node = node; fields = [] }) nodes e m.lumps }

-- one more object
more_object : (before : List Object) (nodes : List Node) (count : ℕ) (b : Built) (object : Object) (p : Opened)
    → opened_object object ≡ Some p → AreLumps (before ++ b.objects) nodes (p.fields ++ b.fields) → length b.fields ≡ count
    → Made before (p.node ∷ nodes) (suc count) (with_object (2 + length before) object b)
more_object before nodes count b object p e h c =
    let all : List Object = before ++ (b.objects ++ object ∷ []) in
    let q : (before ++ b.objects) ++ object ∷ [] ≡ all = append_assoc before b.objects (object ∷ []) in
    let f : opened all (held (v.Ref (2 + length before + length b.objects))) ≡ Some p =
    ap (λ os. opened os (held (v.Ref (2 + length before + length b.objects)))) (sym q) ∙ made_last before b.objects object ∙ e in
    record {
      counts = ap suc c;
      lumps = follows all (held (v.Ref (2 + length before + length b.objects))) b.fields p nodes f
          (subst (λ os. AreLumps os nodes (p.fields ++ b.fields)) q (lumps_before (before ++ b.objects) (object ∷ []) nodes (p.fields ++ b.fields) h));
    }

-- a truth value is one again
opened_truth : (objects : List Object) (t : Bool) → opened objects (final_field k.Bool (truth t)) ≡ Some (record { node = n.Bool t; fields = [] })
opened_truth objects true = refl
opened_truth objects false = refl

-- a unit is one again
unit_back : (c : ℕ) → c < 2 ^ 16 → unit_of (pos c) ≡ c
unit_back c lt = grind (arith, ints)

take_some : {A : Type 0} (n m : ℕ) (xs : List A) → length xs ≡ n + m → length (take n xs) ≡ n
take_some zero m xs e = refl
take_some (suc n) m [] e = absurd (omega (arith, e))
take_some (suc n) m (x ∷ xs) e = ap suc (take_some n m xs (omega (arith, e)))

drop_some : {A : Type 0} (n m : ℕ) (xs : List A) → length xs ≡ n + m → length (drop n xs) ≡ m
drop_some zero m xs e = omega (arith, e)
drop_some (suc n) m [] e = absurd (omega (arith, e))
drop_some (suc n) m (x ∷ xs) e = drop_some n m xs (omega (arith, e))

parts : {A : Type 0} (n : ℕ) (xs : List A) → take n xs ++ drop n xs ≡ xs
parts zero xs = refl
parts (suc n) [] = refl
parts (suc n) (x ∷ xs) = ap (λ l. x ∷ l) (parts n xs)

more_instance : (before : List Object) (nodes : List Node) (count : ℕ) (class : List ℕ) (fields : ℕ) (b : Built)
    → Made before nodes (fields + count) b
    → Made before (n.Object class fields ∷ nodes) (suc count) (built_on (2 + length before) (n.Object class fields) b)
more_instance before nodes count class fields b m =
    let few = take_some fields count b.fields m.counts in
    let made = more_object before nodes count (record b { fields = drop fields b.fields }) (received class (take fields b.fields))
    (record { node = n.Object class (length (take fields b.fields)); fields = take fields b.fields }) refl
    (subst (λ fs. AreLumps (before ++ b.objects) nodes fs) (sym (parts fields b.fields)) m.lumps)
    (drop_some fields count b.fields m.counts) in
    subst (λ l. Made before (n.Object class l ∷ nodes) (suc count) (built_on (2 + length before) (n.Object class fields) b)) few made

plain : (before : List Object) (nodes : List Node) (count : ℕ) (b : Built) → Made before nodes (0 + count) b → Made before nodes count b
plain before nodes count b m = record { counts = m.counts ∙ zero-add count; lumps = m.lumps }

made_on : (before : List Object) (nodes : List Node) (count : ℕ) (node : Node) (b : Built) → IsUnit node
    → Made before nodes (field_count node + count) b → Made before (node ∷ nodes) (suc count) (built_on (2 + length before) node b)
made_on before nodes count (n.Int i) b u m = more_field before nodes count b (final_field k.Int (v.Int i)) (n.Int i) refl (plain before nodes count b m)
made_on before nodes count (n.Long i) b u m = more_field before nodes count b (final_field k.Long (v.Long i)) (n.Long i) refl (plain before nodes count b m)
made_on before nodes count (n.Bool t) b u m = more_field before nodes count b (final_field k.Bool (truth t)) (n.Bool t) (opened_truth (before ++ b.objects) t) (plain before nodes count b m)
made_on before nodes count (n.Char c) b u m =
    more_field before nodes count b (final_field k.Char (v.Int (pos c))) (n.Char c) (ap (λ d. Some (record { node = n.Char d; fields = [] })) (unit_back c u)) (plain before nodes count b m)
made_on before nodes count n.Null b u m = more_field before nodes count b (held v.Null) n.Null refl (plain before nodes count b m)
made_on before nodes count n.UnitNode b u m = more_field before nodes count b (held (v.Ref 0)) n.UnitNode refl (plain before nodes count b m)
made_on before nodes count (n.Text t) b u m = let p = plain before nodes count b m in more_object before nodes count b (o.Text t) (record { node = n.Text t; fields = [] }) refl p.lumps p.counts
made_on before nodes count (n.Cell c) b u m = let p = plain before nodes count b m in more_object before nodes count b (o.Cell c) (record { node = n.Cell c; fields = [] }) refl p.lumps p.counts
made_on before nodes count (n.Object class fields) b u m = more_instance before nodes count class fields b m

pub all_made : (before : List Object) (nodes : List Node) (count : ℕ) → are_lumps count nodes ≡ true → AreUnits nodes → Made before nodes count (built (2 + length before) nodes)
unfolding built
all_made before [] zero h u = record { counts = refl; lumps = tt }
all_made before [] (suc count) h u = absurd (false≢true h)
all_made before (node ∷ nodes) zero h u = absurd (false≢true h)
all_made before (node ∷ nodes) (suc count) h u =
    made_on before nodes count node (built (2 + length before) nodes) u.0 (all_made before nodes (field_count node + count) h u.1)

-- the one field of a whole lump, in a box where it is a number

unboxed : (objects : List Object) (x : Field) → box_of x.kind x.value ≡ None → x.is_final ≡ true → opened objects (held x.value) ≡ opened objects x
unboxed objects x e f = of x.kind x.value x.is_final e f
  where
    of : (kind : FieldKind) (y : Value) (t : Bool) → box_of kind y ≡ None → t ≡ true → opened_value objects k.Reference y ≡ (if t then opened_value objects kind y else None)
    of kind y false e f = absurd (false≢true f)
    of k.Int (v.Int i) true e f = absurd (cc e)
    of k.Long (v.Int i) true e f = refl
    of k.Bool (v.Int i) true e f = absurd (cc e)
    of k.Char (v.Int i) true e f = absurd (cc e)
    of k.Reference (v.Int i) true e f = refl
    of kind (v.Long i) true e f = refl
    of kind v.Null true e f = refl
    of kind (v.Ref a) true e f = refl

in_box : (objects : List Object) (x : Field) (box : Object) → box_of x.kind x.value ≡ Some box → x.is_final ≡ true → opened_object box ≡ opened objects x
in_box objects x box e f = of x.kind x.value x.is_final e f
  where
    same : (kind : FieldKind) (y : Value) (b : Object) → b ≡ box → opened_object b ≡ opened_value objects kind y → opened_object box ≡ opened_value objects kind y
    same kind y b q h = subst (λ b. opened_object b ≡ opened_value objects kind y) q h

    of : (kind : FieldKind) (y : Value) (t : Bool) → box_of kind y ≡ Some box → t ≡ true → opened_object box ≡ (if t then opened_value objects kind y else None)
    of kind y false e f = absurd (false≢true f)
    of k.Int (v.Int i) true e f = same k.Int (v.Int i) (o.Int i) (cc e) refl
    of k.Long (v.Int i) true e f = absurd (cc e)
    of k.Bool (v.Int i) true e f = same k.Bool (v.Int i) (o.Bool (is_true i)) (cc e) refl
    of k.Char (v.Int i) true e f = same k.Char (v.Int i) (o.Char (unit_of i)) (cc e) refl
    of k.Reference (v.Int i) true e f = absurd (cc e)
    of kind (v.Long i) true e f = same kind (v.Long i) (o.Long i) (cc e) refl
    of kind v.Null true e f = absurd (cc e)
    of kind (v.Ref a) true e f = absurd (cc e)

final_of : (objects : List Object) (x : Field) (p : Opened) → opened objects x ≡ Some p → x.is_final ≡ true
final_of objects x p e = of x.is_final e
  where
    of : (t : Bool) → (if t then opened_value objects x.kind x.value else None) ≡ Some p → t ≡ true
    of true e = refl
    of false e = absurd (cc e)

topped : (before made : List Object) (lump : List Node) (x : Field) (box : Option Object) → box_of x.kind x.value ≡ box
    → AreLumps (before ++ made) lump (x ∷ []) → IsLump (before ++ with_box box made) (top_value (2 + length before) box x.value made) lump
topped before made lump x None e h =
    let b = begins (before ++ made) x [] lump h in
    let f = unboxed (before ++ made) x e (final_of (before ++ made) x b.first b.is) in
    subst (λ l. IsLump (before ++ made) x.value l) (sym b.splits) (follows (before ++ made) (held x.value) [] b.first b.rest (f ∙ b.is) b.lumps)
topped before made lump x (Some box) e h =
    let all : List Object = before ++ (made ++ box ∷ []) in
    let b = begins (before ++ made) x [] lump h in
    let q : (before ++ made) ++ box ∷ [] ≡ all = append_assoc before made (box ∷ []) in
    let f : opened all (held (v.Ref (2 + length before + length made))) ≡ Some b.first =
    ap (λ os. opened os (held (v.Ref (2 + length before + length made)))) (sym q) ∙ made_last before made box ∙ in_box (before ++ made) x box e (final_of (before ++ made) x b.first b.is) ∙ b.is in
    subst (λ l. IsLump all (v.Ref (2 + length before + length made)) l) (sym b.splits)
    (follows all (held (v.Ref (2 + length before + length made))) [] b.first b.rest f
    (subst (λ os. AreLumps os b.rest (b.first.fields ++ [])) q (lumps_before (before ++ made) (box ∷ []) b.rest (b.first.fields ++ []) b.lumps)))

pub arrived : (heap : Heap) (lump : List Node) → IsPrefixForm lump → AreUnits lump → IsLump (imported heap lump).objects (imported_value heap lump) lump
arrived heap lump p u = of (built (2 + length heap.objects) lump) (all_made heap.objects lump 1 p u)
  where
    of : (b : Built) → Made heap.objects lump 1 b
        → IsLump (heap.objects ++ with_box (box_of (top_of b.fields).kind (top_of b.fields).value) b.objects)
        (top_value (2 + length heap.objects) (box_of (top_of b.fields).kind (top_of b.fields).value) (top_of b.fields).value b.objects) lump
    of b m = one b.fields m.counts m.lumps
      where
        one : (fields : List Field) → length fields ≡ 1 → AreLumps (heap.objects ++ b.objects) lump fields
            → IsLump (heap.objects ++ with_box (box_of (top_of fields).kind (top_of fields).value) b.objects)
            (top_value (2 + length heap.objects) (box_of (top_of fields).kind (top_of fields).value) (top_of fields).value b.objects) lump
        one [] c h = absurd (omega (arith, c))
        one (x ∷ []) c h = topped heap.objects b.objects lump x (box_of x.kind x.value) refl h
        one (x ∷ y ∷ xs) c h = absurd (omega (arith, c))

-- the same, of the parts that the code has
pub arrived_as : (heap : Heap) (lump : List Node) (first : ℕ) (b : Built) (top : Field) (after : List Object) (x : Value)
    → first ≡ address_behind heap.objects → b ≡ built first lump → top ≡ top_of b.fields
    → after ≡ heap.objects ++ with_box (box_of top.kind top.value) b.objects → x ≡ top_value first (box_of top.kind top.value) top.value b.objects
    → IsPrefixForm lump → AreUnits lump → IsLump after x lump
arrived_as heap lump first b top after x f m t a y p u =
    let q : b ≡ built (address_behind heap.objects) lump = m ∙ ap (λ n. built n lump) f in
    let objects : after ≡ (imported heap lump).objects =
    a ∙ ap (λ t. heap.objects ++ with_box (box_of t.kind t.value) b.objects) t
    ∙ ap (λ b. heap.objects ++ with_box (box_of (top_of b.fields).kind (top_of b.fields).value) b.objects) q in
    let value : x ≡ imported_value heap lump =
    y ∙ ap (λ n. top_value n (box_of top.kind top.value) top.value b.objects) f
    ∙ ap (λ t. top_value (address_behind heap.objects) (box_of t.kind t.value) t.value b.objects) t
    ∙ ap (λ b. top_value (address_behind heap.objects) (box_of (top_of b.fields).kind (top_of b.fields).value) (top_of b.fields).value b.objects) q in
    subst (λ xs. IsLump xs x lump) (sym objects) (subst (λ z. IsLump (imported heap lump).objects z lump) (sym value) (arrived heap lump p u))
