-- Turns of an export, as the code takes them.
use Rattle.std.proofs.Common.{◌≡◌, ℕ, zero, suc, ◌+◌, ◌-◌, ◌<◌, Bool, true, false, ◌==◌, nat_lt, if◌then◌else◌, List, [], ◌∷◌, ◌++◌, length, map, Option, None, Some, Ok, Err, refl, sym, ◌∙◌, subst, arith, option_and_then}
use borrow.Author.Tests.{eqb-true}
use Rattle.std.specs.Prelude.{slice_get, codes}
use Rattle.kt_base.specs.declared.lumps.Node.{Node}
use Rattle.kt_base.specs.declared.lumps.Node.TheVariants as n
use Rattle.mach_value.specs.declared.values.Value.{Value}
use Rattle.mach_value.specs.declared.values.Value.TheVariants as v
use Rattle.mach_value.specs.declared.values.Field.{Field}
use Rattle.mach_value.specs.declared.objects.Object.{Object}
use Rattle.mach_value.specs.declared.path.Path.{Path}
use Rattle.mach_value.specs.declared.exporting.Pending.{Pending}
use Rattle.mach_value.specs.declared.exporting.Pending.TheVariants.{Enter, Leave}
use Rattle.mach_value.specs.declared.exporting.Progress.{Progress}
use Rattle.mach_value.specs.declared.exports.ExportErr.{ExportErr}
use Rattle.mach_value.specs.declared.exports.ExportErr.TheVariants as error
use Rattle.mach_value.specs.Exports.{Opened, opened, opened_at, opened_value, opened_object, leaf, AreLumps}
use Rattle.mach_value.specs.Exporting.{Stands, Advances, weight}
use Rattle.mach_value.specs.Paths.{is_on, Enters, Leaves}
use Rattle.mach_value.proofs.Standing.{leaf_stands, enter_stands, leave_stands, closed_refuses, cycle_refuses}
use Rattle.mach_value.proofs.Weights.{leaf_lighter, enter_lighter, leave_lighter}

along : (objects : List Object) (x : Field) (w w2 : List Node) (p p2 : List Pending) (q q2 : Path) → w2 ≡ w → p2 ≡ p → q2 ≡ q → Stands objects x w p q → Stands objects x w2 p2 q2
along objects x w w2 p p2 q q2 e f g s =
    subst (λ w. Stands objects x w p2 q2) (sym e) (subst (λ p. Stands objects x w p q2) (sym f) (subst (λ q. Stands objects x w p q) (sym g) s))

lighter : (objects : List Object) (p p2 all : List Pending) → p2 ≡ p → weight objects p < weight objects all → weight objects p2 < weight objects all
lighter objects p p2 all e h = subst (λ p. weight objects p < weight objects all) (sym e) h

-- the object of a field that refers to it
pub opens_as : (objects : List Object) (x : Field) (a : ℕ) → x.value ≡ v.Ref a → x.is_final ≡ true → opened objects x ≡ opened_at objects a
opens_as objects x a e f = of x.is_final x.value e f
  where
    of : (t : Bool) (y : Value) → y ≡ v.Ref a → t ≡ true → (if t then opened_value objects x.kind y else None) ≡ opened_at objects a
    of t y e f = rw (f, e) refl

-- a field that no fields follow is written
pub leaf_advances : (objects : List Object) (x : Field) (node : Node) (fields : List Field) (old new : Progress)
    → opened objects x ≡ Some (record { node = node; fields = fields }) → fields ≡ []
    → new.nodes.items ≡ old.nodes.items ++ node ∷ [] → new.pending ≡ old.pending → new.path ≡ old.path
    → Advances objects (Ok tt) (Enter x) old new
unfolding Advances
leaf_advances objects x node fields old new e none nodes pending path =
    λ start s. (
      along objects start (old.nodes.items ++ node ∷ []) new.nodes.items old.pending new.pending old.path new.path nodes pending path
          (leaf_stands objects x (record { node = node; fields = fields }) old.pending start old.nodes.items old.path e none s),
      lighter objects old.pending new.pending (Enter x ∷ old.pending) pending (leaf_lighter objects x old.pending),
    )

-- an address that is opened is one of the heap's
opened_below : (objects : List Object) (a : ℕ) (o : Opened) → opened_at objects a ≡ Some o → a < 2 + length objects
opened_below objects a o e = of (a == 0) (a == 1) (nat_lt a 2) (slice_get objects (a - 2)) refl refl refl e
  where
    got : (xs : List Object) (i : ℕ) (x : Object) → slice_get xs i ≡ Some x → i < length xs
    got [] i x e = absurd (cc e)
    got (y ∷ xs) zero x e = omega arith
    got (y ∷ xs) (suc i) x e = let l = got xs i x e in omega arith

    of : (r s t : Bool) (found : Option Object) → (a == 0) ≡ r → (a == 1) ≡ s → slice_get objects (a - 2) ≡ found
        → (if r then leaf n.UnitNode else (if s then Some (record { node = n.Object (codes "java/lang/Object") 0; fields = [] }) else option_and_then opened_object (if t then None else found))) ≡ Some o
        → a < 2 + length objects
    of true s t found p q g e = omega (arith, eqb-true a 0 p)
    of false true t found p q g e = omega (arith, eqb-true a 1 q)
    of false false true found p q g e = absurd (cc e)
    of false false false None p q g e = absurd (cc e)
    of false false false (Some x) p q g e = omega (arith, got objects (a - 2) x g)

-- an object is entered
pub enter_advances : (objects : List Object) (x : Field) (a : ℕ) (o : Opened) (old new : Progress)
    → x.value ≡ v.Ref a → x.is_final ≡ true → Some o ≡ opened_at objects a → is_on old.path a ≡ false
    → new.nodes.items ≡ old.nodes.items ++ o.node ∷ [] → new.pending ≡ map Enter o.fields ++ Leave a ∷ old.pending → Enters old.path new.path a
    → Advances objects (Ok tt) (Enter x) old new
unfolding Advances
enter_advances objects x a o old new refers may found off nodes pending path =
    let e : opened objects x ≡ Some o = opens_as objects x a refers may ∙ sym found in
    λ start s. (
      along objects start (old.nodes.items ++ o.node ∷ []) new.nodes.items (map Enter o.fields ++ Leave a ∷ old.pending) new.pending new.path new.path nodes pending refl
          (enter_stands objects x a o old.pending start old.nodes.items old.path new.path e (sym found) off path s),
      lighter objects (map Enter o.fields ++ Leave a ∷ old.pending) new.pending (Enter x ∷ old.pending) pending
          (enter_lighter objects x a o old.pending e (opened_below objects a o (sym found)) (sym (s.on a) ∙ off)),
    )

-- an object is left
pub leave_advances : (objects : List Object) (a : ℕ) (old new : Progress)
    → new.nodes.items ≡ old.nodes.items → new.pending ≡ old.pending → Leaves old.path new.path a
    → Advances objects (Ok tt) (Leave a) old new
unfolding Advances
leave_advances objects a old new nodes pending path =
    λ start s. (
      along objects start old.nodes.items new.nodes.items old.pending new.pending new.path new.path nodes pending refl
          (leave_stands objects a old.pending start old.nodes.items old.path new.path path s),
      lighter objects old.pending new.pending (Leave a ∷ old.pending) pending (leave_lighter objects a old.pending),
    )

-- what is not opened refuses the whole
pub closed_advances : (objects : List Object) (x : Field) (old new : Progress) → opened objects x ≡ None → Advances objects (Err error.NotShareable) (Enter x) old new
unfolding Advances
closed_advances objects x old new e = λ start s. closed_refuses objects x old.pending start old.nodes.items old.path e s

-- so does an object that the export is inside of
pub cycle_advances : (objects : List Object) (x : Field) (a : ℕ) (old new : Progress)
    → x.value ≡ v.Ref a → x.is_final ≡ true → is_on old.path a ≡ true → Advances objects (Err error.NotShareable) (Enter x) old new
unfolding Advances
cycle_advances objects x a old new refers may on =
    λ start s. cycle_refuses objects x a old.pending start old.nodes.items old.path (opens_as objects x a refers may) on s

-- want of memory says nothing
pub short_advances : (objects : List Object) (next : Pending) (old new : Progress) (e : ExportErr) → e ≡ error.NoMemory → Advances objects (Err e) next old new
unfolding Advances
short_advances objects next old new e q = subst (λ e. Advances objects (Err e) next old new) (sym q) tt

-- what a turn comes to, for the whole

pub goes_on : (objects : List Object) (x : Field) (next : Pending) (old new : Progress) → Advances objects (Ok tt) next old new
    → Stands objects x old.nodes.items (next ∷ old.pending) old.path
    → Stands objects x new.nodes.items new.pending new.path × (weight objects new.pending < weight objects (next ∷ old.pending))
unfolding Advances
goes_on objects x next old new h s = h x s

pub is_refused : (objects : List Object) (x : Field) (next : Pending) (old new : Progress) (e : ExportErr) → e ≡ error.NotShareable → Advances objects (Err e) next old new
    → Stands objects x old.nodes.items (next ∷ old.pending) old.path → (all : List Node) → AreLumps objects all (x ∷ []) → ⊥
unfolding Advances
is_refused objects x next old new e q h s =
    let k : Advances objects (Err error.NotShareable) next old new = subst (λ e. Advances objects (Err e) next old new) q h in k x s

pub turned : (objects : List Object) (x : Field) (next : Pending) (pending : List Pending) (old new : Progress) → pending ≡ next ∷ old.pending → Advances objects (Ok tt) next old new
    → Stands objects x old.nodes.items pending old.path
    → Stands objects x new.nodes.items new.pending new.path × (weight objects new.pending < weight objects pending)
turned objects x next pending old new e h s =
    let g = goes_on objects x next old new h (subst (λ ps. Stands objects x old.nodes.items ps old.path) e s) in
    (g.0, subst (λ ps. weight objects new.pending < weight objects ps) (sym e) g.1)

pub refused : (objects : List Object) (x : Field) (next : Pending) (pending : List Pending) (old new : Progress) (e : ExportErr) → pending ≡ next ∷ old.pending
    → Advances objects (Err e) next old new → Stands objects x old.nodes.items pending old.path → e ≡ error.NotShareable → (all : List Node) → AreLumps objects all (x ∷ []) → ⊥
refused objects x next pending old new e f h s q = is_refused objects x next old new e q h (subst (λ ps. Stands objects x old.nodes.items ps old.path) f s)
