-- A change of an object in a heap.
use Rattle.std.proofs.Common.{◌≡◌, ℕ, zero, suc, ◌-◌, ◌<◌, ◌≤◌, List, [], ◌∷◌, length, Some, None, refl, arith}
use Rattle.std.specs.Prelude.{slice_get, slice_set}
use borrow.Author.Tests.{lt-ltb, le-ltb}
use Rattle.mach_value.specs.declared.objects.Object.{Object}
use Rattle.mach_value.specs.declared.accessing.Change.{Change}
use Rattle.mach_value.specs.Access.{changed_by, changed_at}

past : (xs : List Object) (i : ℕ) → length xs ≤ i → slice_get xs i ≡ None
past [] i h = refl
past (x ∷ xs) zero h = absurd (omega arith)
past (x ∷ xs) (suc i) h = past xs i (omega arith)

pub none_below : (change : Change) (a : ℕ) (objects : List Object) → a < 2 → changed_at change a objects ≡ objects
none_below change a objects lt = rw (lt-ltb a 2 lt) refl

pub none_past : (change : Change) (a : ℕ) (objects : List Object) → 2 ≤ a → length objects ≤ a - 2 → changed_at change a objects ≡ objects
none_past change a objects le h = rw (le-ltb a 2 le, past objects (a - 2) h) refl

pub one_changed : (change : Change) (a : ℕ) (objects : List Object) (o p : Object) → 2 ≤ a → slice_get objects (a - 2) ≡ Some o → p ≡ changed_by change o
    → slice_set objects (a - 2) p ≡ changed_at change a objects
one_changed change a objects o p le e f = rw (le-ltb a 2 le, e, f) refl
