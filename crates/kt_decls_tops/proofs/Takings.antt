-- The two names that a class takes.
use Rattle.std.specs.Prelude.{ℕ, Bool, true, false, List, [], ◌∷◌, ◌++◌, ◌&&◌, ◌||◌, ◌≡◌, not, refl, Result, Ok, Err, IfOk, OnOk}
use Rattle.std.specs.List.{list_any}
use Rattle.std.proofs.Common.{ap, sym, ◌∙◌, subst}
use Rattle.std.proofs.lemmas.List.Folds.{list_any-append}
use Rattle.kt_base.specs.declared.errors.NoMemory.{NoMemory}
use Rattle.kt_decls_rules.specs.Names.{Taken, a_function, a_type, clash, clash_with_any, are_free}
use Rattle.kt_decls_members.specs.Known.{IsTakenBy}

neither : (a b : Bool) → (not a && not b) ≡ not (a || (b || false))
neither true b = refl
neither false true = refl
neither false false = refl

behind_two : (a b c : Bool) → (a || (b || c)) ≡ (c || (b || (a || false)))
behind_two true true true = refl
behind_two true true false = refl
behind_two true false true = refl
behind_two true false false = refl
behind_two false true true = refl
behind_two false true false = refl
behind_two false false true = refl
behind_two false false false = refl

-- u is taken first, which doesn't clash with v
module _ (old middle : Taken → Bool) (u v : Taken) (apart : clash v u ≡ false) (first : (t : Taken) → middle t ≡ (clash t u || old t)) where
  pub both_free : (free_u free_v : Bool) → free_u ≡ not (old u) → free_v ≡ not (middle v) → (earlier : List Taken) → IsTakenBy old earlier → (free_u && free_v) ≡ are_free earlier (u ∷ v ∷ [])
  both_free free_u free_v d e earlier known =
      (λ i. d i && e i)
      ∙ ((λ i. not (known u i) && not ((first v ∙ (ap (λ b. b || old v) apart ∙ known v)) i))
      ∙ neither (clash_with_any earlier u) (clash_with_any earlier v))

  pub both_taken : (new : Taken → Bool) → ((t : Taken) → new t ≡ (clash t v || middle t)) → (earlier : List Taken) → IsTakenBy old earlier → IsTakenBy new (earlier ++ u ∷ v ∷ [])
  both_taken new e earlier known t =
      e t
      ∙ (ap (λ b. clash t v || b) (first t ∙ ap (λ b. clash t u || b) (known t))
      ∙ (behind_two (clash t v) (clash t u) (list_any (clash t) earlier)
      ∙ sym (list_any-append (clash t) earlier (u ∷ v ∷ []))))

module _ (old middle : Taken → Bool) (x : List ℕ) {m n : ℕ} (number : m ≡ n) (first : (t : Taken) → middle t ≡ (clash t (a_type x) || old t)) where
  pub both_free_as : {free_type free_function free : Bool} → free_type ≡ not (old (a_type x)) → free_function ≡ not (middle (a_function x m)) → free ≡ (free_type && free_function) → (earlier : List Taken) → IsTakenBy old earlier → free ≡ are_free earlier (a_type x ∷ a_function x n ∷ [])
  both_free_as {free_type} {free_function} {free} d e both earlier known =
      subst (λ (k : ℕ). free ≡ are_free earlier (a_type x ∷ a_function x k ∷ [])) number
      (both ∙ both_free old middle (a_type x) (a_function x m) refl first free_type free_function d e earlier known)

  pub both_taken_as : (new : Taken → Bool) → ((t : Taken) → new t ≡ (clash t (a_function x m) || middle t)) → (earlier : List Taken) → IsTakenBy old earlier → IsTakenBy new (earlier ++ a_type x ∷ a_function x n ∷ [])
  both_taken_as new e earlier known =
      subst (λ (k : ℕ). IsTakenBy new (earlier ++ a_type x ∷ a_function x k ∷ [])) number
      (both_taken old middle (a_type x) (a_function x m) refl first new e earlier known)
