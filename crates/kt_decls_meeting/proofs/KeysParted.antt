-- What is so of the functions of both parts.
use Rattle.std.specs.Prelude.{ℕ, Bool, List, [], ◌∷◌, ◌++◌, ◌↔◌, IsTrue, length, Result, Ok, Err, IfOk}
use Rattle.std.proofs.Common.{◌≡◌, subst}
use Rattle.kt_base.specs.declared.errors.NoMemory.{NoMemory}
use Rattle.kt_tree.specs.Declarations.{FunctionTree}
use Rattle.kt_decls_meeting.specs.Keys.{AreKeys}

module _ (Fine : List ℕ → ℕ → Type 0) where
  both_parts : (fs gs : List FunctionTree) → AreKeys Fine fs → AreKeys Fine gs → AreKeys Fine (fs ++ gs)
  both_parts [] gs a b = b
  both_parts (f ∷ fs) gs a b = (a.0, both_parts fs gs a.1 b)

  first_part : (fs gs : List FunctionTree) → AreKeys Fine (fs ++ gs) → AreKeys Fine fs
  first_part [] gs a = tt
  first_part (f ∷ fs) gs a = (a.0, first_part fs gs a.1)

  second_part : (fs gs : List FunctionTree) → AreKeys Fine (fs ++ gs) → AreKeys Fine gs
  second_part [] gs a = a
  second_part (f ∷ fs) gs a = second_part fs gs a.1

  pub parted : {A : Type 0} (fs gs : List FunctionTree) → A ↔ AreKeys Fine (fs ++ gs) → A ↔ (AreKeys Fine fs × AreKeys Fine gs)
  parted fs gs r = ((λ a. let m = r.0 a in (first_part fs gs m, second_part fs gs m)), (λ p. r.1 (both_parts fs gs p.0 p.1)))

  pub one_key : (f : FunctionTree) (r : Result Bool NoMemory) → IfOk r (λ yes. IsTrue yes ↔ Fine f.name (length f.parameters)) → IfOk r (λ yes. IsTrue yes ↔ AreKeys Fine (f ∷ []))
  one_key f (Ok b) told = ((λ t. (told.0 t, tt)), (λ a. told.1 a.0))
  one_key f (Err z) told = tt

  pub renamed : {x y : List ℕ} {n m : ℕ} → x ≡ y → n ≡ m → (r : Result Bool NoMemory) → IfOk r (λ yes. IsTrue yes ↔ Fine x n) → IfOk r (λ yes. IsTrue yes ↔ Fine y m)
  renamed {x} {y} {n} {m} e d r told =
      subst (λ (k : ℕ). IfOk r (λ yes. IsTrue yes ↔ Fine y k)) d (subst (λ (z : List ℕ). IfOk r (λ yes. IsTrue yes ↔ Fine z n)) e told)
