-- Types have a meaning where those of both parts have.
use Rattle.std.specs.Prelude.{Bool, List, [], ◌∷◌, ◌++◌, ◌↔◌, IsTrue, Result, Ok, Err, IfOk}
use Rattle.kt_base.specs.declared.errors.NoMemory.{NoMemory}
use Rattle.kt_tree.specs.Types.{TypeTree}
use Rattle.kt_tree.specs.Declarations.{DeclarationTree}
use Rattle.kt_typed.specs.declared.headers.DeclaredTypeParameter.{DeclaredTypeParameter}
use Rattle.kt_decls_rules.specs.Rules.{AreMeant}

module _ (ds : List DeclarationTree) (scope : List DeclaredTypeParameter) where
  both_meant : (xs ys : List TypeTree) → AreMeant ds scope xs → AreMeant ds scope ys → AreMeant ds scope (xs ++ ys)
  both_meant [] ys m n = n
  both_meant (x ∷ xs) ys m n = (m.0, both_meant xs ys m.1 n)

  first_meant : (xs ys : List TypeTree) → AreMeant ds scope (xs ++ ys) → AreMeant ds scope xs
  first_meant [] ys m = tt
  first_meant (x ∷ xs) ys m = (m.0, first_meant xs ys m.1)

  second_meant : (xs ys : List TypeTree) → AreMeant ds scope (xs ++ ys) → AreMeant ds scope ys
  second_meant [] ys m = m
  second_meant (x ∷ xs) ys m = second_meant xs ys m.1

  pub parted : {A : Type 0} (xs ys : List TypeTree) → A ↔ AreMeant ds scope (xs ++ ys) → A ↔ (AreMeant ds scope xs × AreMeant ds scope ys)
  parted xs ys r = (
    λ a. let m = r.0 a in (first_meant xs ys m, second_meant xs ys m),
    λ p. r.1 (both_meant xs ys p.0 p.1),
  )

  pub together : {A : Type 0} (xs ys : List TypeTree) → A ↔ (AreMeant ds scope xs × AreMeant ds scope ys) → A ↔ AreMeant ds scope (xs ++ ys)
  together xs ys r = (
    λ a. let p = r.0 a in both_meant xs ys p.0 p.1,
    λ m. r.1 (first_meant xs ys m, second_meant xs ys m),
  )

  pub together_in : (xs ys : List TypeTree) (r : Result Bool NoMemory) → IfOk r (λ yes. IsTrue yes ↔ (AreMeant ds scope xs × AreMeant ds scope ys)) → IfOk r (λ yes. IsTrue yes ↔ AreMeant ds scope (xs ++ ys))
  together_in xs ys (Ok b) p = together xs ys p
  together_in xs ys (Err e) p = tt
