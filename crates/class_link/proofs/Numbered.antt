-- One more class, by its number.
use Rattle.std.proofs.Common.{ℕ, zero, suc, ◌+◌, ◌≡◌, refl, sym, ap, ◌∙◌, subst, List, [], ◌∷◌, ◌++◌, Some, None}
use Rattle.std.proofs.Common.{take, arith}
use Rattle.std.specs.Prelude.{slice_get}
use Rattle.class_headers.specs.declared.headers.Header.{Header}
use Rattle.class_linked.specs.declared.classes.LinkedClass.{LinkedClass}
use Rattle.class_members.specs.declared.hierarchy.Hierarchy.{Hierarchy}
use Rattle.class_link.specs.Classes.{own_class, own_classes}

from_number : (h : Hierarchy) (k : ℕ) (hs : List Header) (n : ℕ) (x : Header) → slice_get hs n ≡ Some x
    → own_classes h k (take n hs) ++ own_class h (k + n) x ∷ [] ≡ own_classes h k (take (suc n) hs)
from_number h k [] n x e = absurd cc
from_number h k (y ∷ ys) zero x e =
    let same : y ≡ x = some_is e in
    let number : k + 0 ≡ k = omega arith in
    rw (number, same) refl
  where
    some_is : {A : Type 0} {a b : A} → Some a ≡ Some b → a ≡ b
    some_is e = cc
from_number h k (y ∷ ys) (suc n) x e =
    let number : k + suc n ≡ (k + 1) + n = omega arith in
    ap (λ l. own_class h k y ∷ l) (rw number (from_number h (k + 1) ys n x e))

pub own_next : (h : Hierarchy) (hs : List Header) (n : ℕ) (x : Header) (old : List LinkedClass) → slice_get hs n ≡ Some x
    → old ≡ own_classes h 0 (take n hs) → old ++ own_class h n x ∷ [] ≡ own_classes h 0 (take (n + 1) hs)
own_next h hs n x old e o =
    let next : suc n ≡ n + 1 = omega arith in
    let number : n ≡ 0 + n = omega arith in
    let step : own_classes h 0 (take n hs) ++ own_class h (0 + n) x ∷ [] ≡ own_classes h 0 (take (suc n) hs) =
    from_number h 0 hs n x e in
    ap (λ (l : List LinkedClass). l ++ own_class h n x ∷ []) o
    ∙ ap (λ (k : ℕ). own_classes h 0 (take n hs) ++ own_class h k x ∷ []) number
    ∙ step ∙ ap (λ (m : ℕ). own_classes h 0 (take m hs)) next

none_more : (hs : List Header) (n : ℕ) → slice_get hs n ≡ None → take (suc n) hs ≡ take n hs
none_more [] zero e = refl
none_more [] (suc n) e = refl
none_more (y ∷ ys) zero e = absurd cc
none_more (y ∷ ys) (suc n) e = ap (λ l. y ∷ l) (none_more ys n e)

pub own_none : (h : Hierarchy) (hs : List Header) (n : ℕ) (old : List LinkedClass) → slice_get hs n ≡ None
    → old ≡ own_classes h 0 (take n hs) → old ≡ own_classes h 0 (take (n + 1) hs)
own_none h hs n old e o =
    let next : suc n ≡ n + 1 = omega arith in
    subst (λ m. old ≡ own_classes h 0 (take m hs)) next (o ∙ ap (own_classes h 0) (sym (none_more hs n e)))
