-- What a turn of an export keeps, and what it shows where it is refused.
use Rattle.std.proofs.Common.{◌≡◌, ℕ, ◌<◌, Bool, true, false, ◌==◌, if◌then◌else◌, List, [], ◌∷◌, ◌++◌, length, map, None, Some, refl, sym, ap, ◌∙◌, subst, arith}
use borrow.Author.Tests.{eqb-true}
use Rattle.std.proofs.lemmas.List.{append_assoc, append-nil, length-append}
use Rattle.std.proofs.lemmas.Bool.{false≢true}
use Rattle.kt_base.specs.declared.lumps.Node.{Node}
use Rattle.mach_value.specs.declared.values.Value.TheVariants as v
use Rattle.mach_value.specs.declared.values.Field.{Field}
use Rattle.mach_value.specs.declared.objects.Object.{Object}
use Rattle.mach_value.specs.declared.path.Path.{Path}
use Rattle.mach_value.specs.declared.exporting.Pending.{Pending}
use Rattle.mach_value.specs.declared.exporting.Pending.TheVariants.{Enter, Leave}
use Rattle.mach_value.specs.Exports.{Opened, opened, held, AreLumps, IsLump}
use Rattle.mach_value.specs.Exporting.{left, on_path, Once, EndsWith, AllInside, Stands}
use Rattle.mach_value.specs.Paths.{is_on, Enters, Leaves}
use Rattle.mach_value.proofs.Lumps.{begins, follows, split, one_list}

-- fields that are entered one after another

pub left_entered : (xs : List Field) (ps : List Pending) → left (map Enter xs ++ ps) ≡ xs ++ left ps
left_entered [] ps = refl
left_entered (x ∷ xs) ps = ap (λ l. x ∷ l) (left_entered xs ps)

pub on_entered : (xs : List Field) (ps : List Pending) (a : ℕ) → on_path (map Enter xs ++ ps) a ≡ on_path ps a
on_entered [] ps a = refl
on_entered (x ∷ xs) ps a = on_entered xs ps a

once_entered : (xs : List Field) (ps : List Pending) → Once ps → Once (map Enter xs ++ ps)
once_entered [] ps h = h
once_entered (x ∷ xs) ps h = once_entered xs ps h

inside_entered : (objects : List Object) (xs : List Field) (ps : List Pending) (above : List Field) → AllInside objects ps (above ++ xs) → AllInside objects (map Enter xs ++ ps) above
inside_entered objects [] ps above h = subst (λ fs. AllInside objects ps fs) (append-nil above) h
inside_entered objects (x ∷ xs) ps above h =
    inside_entered objects xs ps (above ++ x ∷ []) (subst (λ fs. AllInside objects ps fs) (sym (append_assoc above (x ∷ []) xs)) h)

-- the first field is written: what it holds stands in its place

longer : (front : List Node) (node : Node) → 0 < length (front ++ node ∷ [])
longer front node = omega (arith, length-append front (node ∷ []))

ends_within : (objects : List Object) (x : Field) (o : Opened) (all : List Node) (xs : List Field) → opened objects x ≡ Some o → EndsWith objects all (x ∷ xs) → EndsWith objects all (o.fields ++ xs)
ends_within objects x o all xs e h =
    let b = begins objects x xs h.rest h.lumps in
    let p : b.first ≡ o = cc (b.is, e) in
    record {
      front = h.front ++ b.first.node ∷ [];
      rest = b.rest;
      splits = h.splits ∙ ap (λ l. h.front ++ l) b.splits ∙ sym (append_assoc h.front (b.first.node ∷ []) b.rest);
      some = longer h.front b.first.node;
      lumps = subst (λ o. AreLumps objects b.rest (o.fields ++ xs)) p b.lumps;
    }

inside_within : (objects : List Object) (x : Field) (o : Opened) (ps : List Pending) (xs : List Field) → opened objects x ≡ Some o → AllInside objects ps (x ∷ xs) → AllInside objects ps (o.fields ++ xs)
inside_within objects x o [] xs e h = tt
inside_within objects x o (Enter y ∷ ps) xs e h =
    subst (λ fs. AllInside objects ps fs) (sym (append_assoc o.fields xs (y ∷ []))) (inside_within objects x o ps (xs ++ y ∷ []) e h)
inside_within objects x o (Leave a ∷ ps) xs e h =
    (λ all k. ends_within objects x o all xs e (h.0 all k), inside_within objects x o ps xs e h.1)

whole_within : (objects : List Object) (x : Field) (o : Opened) (ps : List Pending) (start : Field) (written : List Node) (path : Path)
    → opened objects x ≡ Some o → Stands objects start written (Enter x ∷ ps) path
    → (rest : List Node) → AreLumps objects rest (o.fields ++ left ps) → AreLumps objects ((written ++ o.node ∷ []) ++ rest) (start ∷ [])
whole_within objects x o ps start written path e s rest h =
    subst (λ l. AreLumps objects l (start ∷ [])) (sym (append_assoc written (o.node ∷ []) rest))
    (s.whole (o.node ∷ rest) (follows objects x (left ps) o rest e h))

part_within : (objects : List Object) (x : Field) (o : Opened) (ps : List Pending) (start : Field) (written : List Node) (path : Path)
    → opened objects x ≡ Some o → Stands objects start written (Enter x ∷ ps) path
    → (all : List Node) → AreLumps objects all (start ∷ []) → (rest : List Node) × (all ≡ (written ++ o.node ∷ []) ++ rest) × AreLumps objects rest (o.fields ++ left ps)
part_within objects x o ps start written path e s all h =
    let p = s.part all h in
    let b = begins objects x (left ps) p.0 p.2 in
    let q : b.first ≡ o = cc (b.is, e) in (
      b.rest,
      p.1 ∙ ap (λ l. written ++ l) b.splits ∙ ap (λ o. written ++ o.node ∷ b.rest) q ∙ sym (append_assoc written (o.node ∷ []) b.rest),
      subst (λ o. AreLumps objects b.rest (o.fields ++ left ps)) q b.lumps,
    )

-- a field that holds nothing is written
pub leaf_stands : (objects : List Object) (x : Field) (o : Opened) (ps : List Pending) (start : Field) (written : List Node) (path : Path)
    → opened objects x ≡ Some o → o.fields ≡ [] → Stands objects start written (Enter x ∷ ps) path
    → Stands objects start (written ++ o.node ∷ []) ps path
leaf_stands objects x o ps start written path e none s =
    record {
      whole = λ rest h. whole_within objects x o ps start written path e s rest (subst (λ fs. AreLumps objects rest (fs ++ left ps)) (sym none) h);
      part = λ all h. let p = part_within objects x o ps start written path e s all h in (p.0, p.1, subst (λ fs. AreLumps objects p.0 (fs ++ left ps)) none p.2);
      on = s.on;
      once = s.once;
      inside = subst (λ fs. AllInside objects ps (fs ++ [])) none (inside_within objects x o ps [] e s.inside);
    }

-- an object is entered
pub enter_stands : (objects : List Object) (x : Field) (a : ℕ) (o : Opened) (ps : List Pending) (start : Field) (written : List Node) (old new : Path)
    → opened objects x ≡ Some o → opened objects (held (v.Ref a)) ≡ Some o → is_on old a ≡ false → Enters old new a
    → Stands objects start written (Enter x ∷ ps) old
    → Stands objects start (written ++ o.node ∷ []) (map Enter o.fields ++ Leave a ∷ ps) new
enter_stands objects x a o ps start written old new e f off enters s =
    record {
      whole = λ rest h. whole_within objects x o ps start written old e s rest (subst (λ fs. AreLumps objects rest fs) (left_entered o.fields (Leave a ∷ ps)) h);
      part = λ all h. let p = part_within objects x o ps start written old e s all h in (p.0, p.1, subst (λ fs. AreLumps objects p.0 fs) (sym (left_entered o.fields (Leave a ∷ ps))) p.2);
      on = λ b. enters b ∙ ap (λ t. if a == b then true else t) (s.on b) ∙ sym (on_entered o.fields (Leave a ∷ ps) b);
      once = once_entered o.fields (Leave a ∷ ps) (sym (s.on a) ∙ off, s.once);
      inside = inside_entered objects o.fields (Leave a ∷ ps) [] (own, subst (λ fs. AllInside objects ps fs) (append-nil o.fields) (inside_within objects x o ps [] e s.inside));
    }
  where
    own : (all : List Node) → IsLump objects (v.Ref a) all → EndsWith objects all o.fields
    own all h =
        let b = begins objects (held (v.Ref a)) [] all h in
        let q : b.first ≡ o = cc (b.is, f) in
        record {
          front = b.first.node ∷ [];
          rest = b.rest;
          splits = b.splits;
          some = omega arith;
          lumps = subst (λ fs. AreLumps objects b.rest fs) (append-nil o.fields) (subst (λ o. AreLumps objects b.rest (o.fields ++ [])) q b.lumps);
        }

-- an object is left
pub leave_stands : (objects : List Object) (a : ℕ) (ps : List Pending) (start : Field) (written : List Node) (old new : Path)
    → Leaves old new a → Stands objects start written (Leave a ∷ ps) old → Stands objects start written ps new
leave_stands objects a ps start written old new leaves s =
    record {
      whole = s.whole;
      part = s.part;
      on = λ b. leaves b ∙ same b (a == b) refl (s.on b);
      once = s.once.1;
      inside = s.inside.1;
    }
  where
    same : (b : ℕ) (t : Bool) → (a == b) ≡ t → is_on old b ≡ (if t then true else on_path ps b) → (if t then false else is_on old b) ≡ on_path ps b
    same b true e h = sym s.once.0 ∙ ap (on_path ps) (eqb-true a b e)
    same b false e h = h

-- what can't be opened has no lump
pub closed_refuses : (objects : List Object) (x : Field) (ps : List Pending) (start : Field) (written : List Node) (path : Path)
    → opened objects x ≡ None → Stands objects start written (Enter x ∷ ps) path → (all : List Node) → AreLumps objects all (start ∷ []) → ⊥
closed_refuses objects x ps start written path e s all h =
    let p = s.part all h in
    let b = begins objects x (left ps) p.0 p.2 in
    cc (b.is, e)

-- an object that the export is inside of: what is left of it stands before its end
caught : (objects : List Object) (a : ℕ) (ps : List Pending) (above : List Field) → on_path ps a ≡ true → AllInside objects ps above
    → (more : List Field) × ((all : List Node) → IsLump objects (v.Ref a) all → EndsWith objects all (above ++ more))
caught objects a [] above on h = absurd (false≢true on)
caught objects a (Enter y ∷ ps) above on h =
    let c = caught objects a ps (above ++ y ∷ []) on h in
    (y ∷ c.0, λ all k. subst (λ fs. EndsWith objects all fs) (append_assoc above (y ∷ []) c.0) (c.1 all k))
caught objects a (Leave b ∷ ps) above on h = of (b == a) refl on (λ o. caught objects a ps above o h.1)
  where
    of : (t : Bool) → (b == a) ≡ t → (if t then true else on_path ps a) ≡ true
        → (on_path ps a ≡ true → (more : List Field) × ((all : List Node) → IsLump objects (v.Ref a) all → EndsWith objects all (above ++ more)))
        → (more : List Field) × ((all : List Node) → IsLump objects (v.Ref a) all → EndsWith objects all (above ++ more))
    of true e on go =
        let q : b ≡ a = eqb-true b a e in
        ([], λ all k. subst (λ fs. EndsWith objects all fs) (sym (append-nil above)) (h.0 all (subst (λ c. IsLump objects (v.Ref c) all) (sym q) k)))
    of false e on go = go on

-- an object can't stand inside of itself
too_long : (all front rest first back : List Node) → all ≡ front ++ rest → 0 < length front → rest ≡ first ++ back → first ≡ all → ⊥
too_long all front rest first back e some f g =
    absurd (omega (arith, ap length e, length-append front rest, ap length f, length-append first back, ap length g, some))

pub cycle_refuses : (objects : List Object) (x : Field) (a : ℕ) (ps : List Pending) (start : Field) (written : List Node) (path : Path)
    → opened objects x ≡ opened objects (held (v.Ref a)) → is_on path a ≡ true
    → Stands objects start written (Enter x ∷ ps) path → (all : List Node) → AreLumps objects all (start ∷ []) → ⊥
cycle_refuses objects x a ps start written path same on s all h =
    let p = s.part all h in
    let q = split objects p.0 (x ∷ []) (left ps) p.2 in
    let k : IsLump objects (v.Ref a) q.front = as_reference q.front q.first in
    let c = caught objects a ps (x ∷ []) (sym (s.on a) ∙ on) s.inside in
    let e = c.1 q.front k in
    let r = split objects e.rest (x ∷ []) c.0 e.lumps in
    too_long q.front e.front e.rest r.front r.back e.splits e.some r.splits (one_list objects (x ∷ []) r.front q.front r.first q.first)
  where
    as_reference : (nodes : List Node) → AreLumps objects nodes (x ∷ []) → IsLump objects (v.Ref a) nodes
    as_reference nodes h =
        let b = begins objects x [] nodes h in
        subst (λ l. IsLump objects (v.Ref a) l) (sym b.splits)
        (follows objects (held (v.Ref a)) [] b.first b.rest (sym same ∙ b.is) b.lumps)
