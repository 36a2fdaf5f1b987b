-- One more slot, and the slots of all classes.
use Rattle.std.proofs.Common.{ℕ, zero, suc, ◌+◌, Bool, ◌≡◌, refl, sym, subst, List, [], ◌∷◌, ◌++◌, Option, None, Some}
use Rattle.std.proofs.Common.{length, arith}
use Rattle.std.specs.Prelude.{slice_get}
use Rattle.class_linked.specs.declared.methods.MethodPlace.{MethodPlace}
use Rattle.class_members.specs.declared.hierarchy.Hierarchy.{Hierarchy}
use Rattle.class_tables.specs.Dispatch.{AreOwnSlots, is_new, methods_at, new_before, own_slots, place_if, row_or_none}

pub new_next : (h : Hierarchy) (c n : ℕ) (old : List MethodPlace) (b : Bool) → old ≡ new_before h c n
    → b ≡ is_new h c (slice_get (methods_at h c) n) → old ++ place_if b c n ≡ new_before h c (n + 1)
unfolding new_before
new_next h c n old b e m =
    let next : suc n ≡ n + 1 = omega arith in
    subst (λ k. old ++ place_if b c n ≡ new_before h c k) next (rw (e, m) refl)

same_none : {A B : Type 0} (xs : List A) (ys : List B) (c : ℕ) → length xs ≡ length ys → slice_get xs c ≡ None
    → slice_get ys c ≡ None
same_none [] [] c l e = refl
same_none [] (y ∷ ys) c l e = absurd (omega (arith, l))
same_none (x ∷ xs) [] c l e = absurd (omega (arith, l))
same_none (x ∷ xs) (y ∷ ys) zero l e = absurd cc
same_none (x ∷ xs) (y ∷ ys) (suc c) l e = same_none xs ys c (omega (arith, l)) e

no_slots : (h : Hierarchy) (c : ℕ) → slice_get h.headers c ≡ None → own_slots h c ≡ []
unfolding new_before
no_slots h c e = rw e refl

pub all_slots : (h : Hierarchy) (rows : List (List MethodPlace)) → length rows ≡ length h.headers
    → ((c : ℕ) (row : List MethodPlace) → slice_get rows c ≡ Some row → row ≡ own_slots h c) → AreOwnSlots h rows
all_slots h rows long each c = by (slice_get rows c) refl
  where
    by : (found : Option (List MethodPlace)) → slice_get rows c ≡ found → row_or_none found ≡ own_slots h c
    by None e = sym (no_slots h c (same_none rows h.headers c long e))
    by (Some row) e = each c row e
