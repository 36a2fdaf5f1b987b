-- The turns of loops that count down, and what an export comes to.
use Rattle.std.proofs.Common.{◌≡◌, ℕ, zero, suc, ◌+◌, ◌-◌, ◌<◌, ◌≤◌, false, List, [], ◌∷◌, ◌++◌, length, map, take, drop, get_or, Result, Ok, Err, refl, sym, ap, ◌∙◌, subst, arith, add-one, drop-cons}
use Rattle.std.proofs.lemmas.List.{append_assoc, append-nil, map-append, take_more}
use Rattle.kt_base.specs.declared.lumps.Node.{Node}
use Rattle.kt_base.specs.Lump.{IsPrefixForm}
use Rattle.mach_value.specs.declared.values.Value.{Value}
use Rattle.mach_value.specs.declared.values.Field.{Field}
use Rattle.mach_value.specs.declared.objects.Object.{Object}
use Rattle.mach_value.specs.declared.path.Path.{Path}
use Rattle.mach_value.specs.declared.exporting.Pending.{Pending}
use Rattle.mach_value.specs.declared.exporting.Pending.TheVariants.{Enter}
use Rattle.mach_value.specs.Exports.{held, IsLump}
use Rattle.mach_value.specs.Exporting.{Stands}
use Rattle.mach_value.specs.Paths.{is_on}
use Rattle.mach_value.specs.Imported.{built, built_on, AreUnits, IsUnit}
use Rattle.mach_value.specs.declared.importing.Built.{Built}
use Rattle.mach_value.proofs.Lumps.{prefix_form}
use Rattle.std.specs.Result.{IsErr, IsErrAnd, IfErr}
use Rattle.mach_value.specs.declared.exports.ExportErr.{ExportErr}
use Rattle.mach_value.specs.declared.exports.ExportErr.TheVariants as error

-- nothing is written yet
pub started : (objects : List Object) (x : Field) (written : List Node) (pending : List Pending) (path : Path)
    → written ≡ [] → pending ≡ Enter x ∷ [] → ((a : ℕ) → is_on path a ≡ false) → Stands objects x written pending path
started objects x written pending path e f off =
    subst (λ ps. Stands objects x written ps path) (sym f)
    (subst (λ w. Stands objects x w (Enter x ∷ []) path) (sym e)
    (record {
      whole = λ rest h. h;
      part = λ all h. (all, refl, h);
      on = off;
      once = tt;
      inside = tt;
    }))

-- nothing is left
pub ended : (objects : List Object) (x : Value) (written : List Node) (pending : List Pending) (path : Path)
    → pending ≡ [] → Stands objects (held x) written pending path → IsLump objects x written
ended objects x written pending path e s =
    let t : Stands objects (held x) written [] path = subst (λ ps. Stands objects (held x) written ps path) e s in
    subst (λ all. IsLump objects x all) (append-nil written) (t.whole [] tt)

pub prefix_of : (objects : List Object) (x : Value) (nodes : List Node) → IsLump objects x nodes → IsPrefixForm nodes
prefix_of objects x nodes h = prefix_form objects nodes (held x ∷ []) h

-- one field more on top, from behind
pub entered_more : (fields : List Field) (n : ℕ) (x : Field) (pending more all : List Pending) → n < length fields → x ≡ get_or fields n x
    → map Enter (take (n + 1) fields) ++ pending ≡ all → more ≡ Enter x ∷ pending → map Enter (take n fields) ++ more ≡ all
entered_more fields n x pending more all lt e h f =
    ap (λ m. map Enter (take n fields) ++ m) f
    ∙ sym (append_assoc (map Enter (take n fields)) (Enter x ∷ []) pending)
    ∙ ap (λ l. l ++ pending) (sym (map-append Enter (take n fields) (x ∷ [])))
    ∙ ap (λ l. map Enter l ++ pending) (sym (take_more fields n x lt ∙ ap (λ y. take n fields ++ y ∷ []) (sym e)))
    ∙ h

-- one node more, from behind
pub drop_less : {A : Type 0} (xs : List A) (n : ℕ) (x : A) → n < length xs → x ≡ get_or xs n x → drop n xs ≡ x ∷ drop (n + 1) xs
drop_less xs n x lt e = rw (add-one, drop-cons xs n x) (ap (λ y. y ∷ drop (suc n) xs) (sym e))

pub built_more : (first : ℕ) (nodes : List Node) (n : ℕ) (node : Node) (made : Built) → n < length nodes → node ≡ get_or nodes n node
    → made ≡ built_on first node (built first (drop (n + 1) nodes)) → made ≡ built first (drop n nodes)
unfolding built
built_more first nodes n node made lt e f = f ∙ ap (built first) (sym (drop_less nodes n node lt e))

pub units_more : (nodes : List Node) (n : ℕ) (node : Node) → n < length nodes → node ≡ get_or nodes n node → IsUnit node → AreUnits (drop (n + 1) nodes) → AreUnits (drop n nodes)
units_more nodes n node lt e u us = subst AreUnits (sym (drop_less nodes n node lt e)) (u, us)

pub take_turn : {A : Type 0} (taken : List A) (n m : ℕ) (x : A) (old new : List A) → n ≡ suc m → old ≡ x ∷ new
    → ((taken ++ x ∷ []) ++ take m new ≡ taken ++ take n old) × (drop m new ≡ drop n old)
take_turn taken n m x old new e f = rw (e, f) (append_assoc taken (x ∷ []) (take m new), refl)

pub none_to_take : {A : Type 0} (n : ℕ) (xs : List A) → xs ≡ [] → (take n xs ≡ []) × (drop n xs ≡ [])
none_to_take zero xs e = (refl, e)
none_to_take (suc n) xs e = rw e (refl, refl)

drop_all : {A : Type 0} (xs : List A) → drop (length xs) xs ≡ []
drop_all [] = refl
drop_all (x ∷ xs) = drop_all xs

pub built_none : (first : ℕ) (nodes : List Node) (made : Built) → made.objects ≡ [] → made.fields ≡ []
    → (length nodes ≤ length nodes) × (made ≡ built first (drop (length nodes) nodes)) × AreUnits (drop (length nodes) nodes)
unfolding built
built_none first nodes made e f = (
  omega arith,
  ap (λ os. record { objects = os; fields = made.fields }) e ∙ ap (λ fs. record { objects = []; fields = fs }) f ∙ ap (built first) (sym (drop_all nodes)),
  subst AreUnits (sym (drop_all nodes)) tt,
)

pub built_turn : (first : ℕ) (nodes : List Node) (left : ℕ) (node : Node) (old new : Built)
    → 0 < left → left ≤ length nodes → node ≡ get_or nodes (left - 1) node → new ≡ built_on first node old → IsUnit node
    → old ≡ built first (drop left nodes) → AreUnits (drop left nodes)
    → (left - 1 ≤ length nodes) × (new ≡ built first (drop (left - 1) nodes)) × AreUnits (drop (left - 1) nodes)
built_turn first nodes left node old new some le is e u f us =
    let n : left ≡ (left - 1) + 1 = omega arith in (
      omega arith,
      built_more first nodes (left - 1) node new (omega arith) is (e ∙ ap (built_on first node) (f ∙ ap (λ l. built first (drop l nodes)) n)),
      units_more nodes (left - 1) node (omega arith) is u (subst (λ l. AreUnits (drop l nodes)) n us),
    )

-- where nothing may leave, the refusal is right
pub refusal : {A : Type 0} (P : Type 0) (r : Result A ExportErr) (x : ExportErr) → IsErr r × IsErrAnd r (λ e. e ≡ x) → (x ≡ error.NotShareable → P) → IfErr r (λ e. e ≡ error.NotShareable → P)
refusal P (Ok y) x h go = tt
refusal P (Err e) x h go = λ q. go (sym h.1 ∙ q)
