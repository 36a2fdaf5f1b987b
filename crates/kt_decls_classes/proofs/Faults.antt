-- Headers are judged one behind the other.
use Rattle.std.specs.Prelude.{ℕ, zero, suc, List, [], ◌∷◌, ◌++◌, ◌<◌, ◌≡◌, Option, Some, None, slice_get, refl}
use Rattle.std.proofs.Common.{arith, subst}
use Rattle.kt_base.specs.declared.refusals.Pos.{Pos}
use Rattle.kt_tree.specs.Declarations.{DeclarationTree}
use Rattle.kt_decls_rules.specs.Headers.{Header, place, IsFine, AreAllFine}
use Rattle.kt_decls_classes.specs.Faults.{AreJudged}

none_there : (n : ℕ) (h : Header) → slice_get [] n ≡ Some h → ⊥
none_there zero h e = absurd cc
none_there (suc n) h e = absurd cc

same_head : (a b : Header) (hs : List Header) → slice_get (a ∷ hs) zero ≡ Some b → a ≡ b
same_head a b hs d = cc

module _ (ds : List DeclarationTree) where
  pub no_header : AreJudged ds [] None
  no_header = λ n h e. absurd (none_there n h e)

  all_fine : (x : Header) (hs : List Header) → IsFine ds x → AreAllFine ds hs → AreAllFine ds (x ∷ hs)
  all_fine x hs is rest zero h e = subst (IsFine ds) (same_head x h hs e) is
  all_fine x hs is rest (suc n) h e = rest n h e

  earlier_fine : (x : Header) (hs : List Header) (k : ℕ) → IsFine ds x → ((n : ℕ) (h : Header) → n < k → slice_get hs n ≡ Some h → IsFine ds h) → (n : ℕ) (h : Header) → n < suc k → slice_get (x ∷ hs) n ≡ Some h → IsFine ds h
  earlier_fine x hs k is before zero h less e = subst (IsFine ds) (same_head x h hs e) is
  earlier_fine x hs k is before (suc n) h less e = before n h (omega arith) e

  -- a header that isn't well formed is the first such before those behind it
  pub fault_here : (x : Header) (hs : List Header) → (IsFine ds x → ⊥) → AreJudged ds (x ∷ hs) (Some (place x))
  fault_here x hs fails =
      record { number = zero; header = x; stands = refl; fails = fails; before = λ n h less e. absurd (omega arith); at = refl }

  -- one that is well formed changes nothing
  pub fine_here : (x : Header) (hs : List Header) (o : Option Pos) → IsFine ds x → AreJudged ds hs o → AreJudged ds (x ∷ hs) o
  fine_here x hs None is j = all_fine x hs is j
  fine_here x hs (Some p) is j =
      record { number = suc j.number; header = j.header; stands = j.stands; fails = j.fails; before = earlier_fine x hs j.number is j.before; at = j.at }

  -- those behind well formed ones
  pub fine_first : (xs hs : List Header) (o : Option Pos) → AreJudged ds xs None → AreJudged ds hs o → AreJudged ds (xs ++ hs) o
  fine_first [] hs o all j = j
  fine_first (x ∷ xs) hs o all j = fine_here x (xs ++ hs) o (all zero x refl) (fine_first xs hs o (λ n h e. all (suc n) h e) j)

  stands_still : (xs hs : List Header) (n : ℕ) (h : Header) → slice_get xs n ≡ Some h → slice_get (xs ++ hs) n ≡ Some h
  stands_still [] hs n h e = absurd (none_there n h e)
  stands_still (x ∷ xs) hs zero h e = e
  stands_still (x ∷ xs) hs (suc n) h e = stands_still xs hs n h e

  stood_before : (xs hs : List Header) (k n : ℕ) (x h : Header) → slice_get xs k ≡ Some x → n < k → slice_get (xs ++ hs) n ≡ Some h → slice_get xs n ≡ Some h
  stood_before [] hs k n x h s less e = absurd (none_there k x s)
  stood_before (y ∷ xs) hs zero n x h s less e = absurd (omega arith)
  stood_before (y ∷ xs) hs (suc k) zero x h s less e = e
  stood_before (y ∷ xs) hs (suc k) (suc n) x h s less e = stood_before xs hs k n x h s (omega arith) e

  -- what stands behind the first fault doesn't matter
  pub fault_first : (xs hs : List Header) (p : Pos) → AreJudged ds xs (Some p) → AreJudged ds (xs ++ hs) (Some p)
  fault_first xs hs p j =
      record {
        number = j.number;
        header = j.header;
        stands = stands_still xs hs j.number j.header j.stands;
        fails = j.fails;
        before = λ n h less e. j.before n h less (stood_before xs hs j.number n j.header h j.stands less e);
        at = j.at;
      }
