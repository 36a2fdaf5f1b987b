-- What a called name means.
use Rattle.std.proofs.Common.{ℕ, Bool, true, false, List, [], ◌∷◌, ◌+◌, Option, Some, None, ◌≡◌, refl, ap, sym, subst, ◌∙◌}
use Rattle.std.specs.Prelude.{Result, ◌==◌, ◌&&◌, length, if◌then◌else◌}
use Rattle.kt_tree.specs.Types.{TypeTree}
use Rattle.kt_typed.specs.Headers.{FunctionForm}
use Rattle.kt_check_rules.specs.Calls.{Callable, calling, function_named}
use Rattle.kt_check_rules.specs.Choices.{then_on, or_else}
use Rattle.kt_check_rules.specs.States.{Context, is_name}
use Rattle.kt_check_deciding.specs.Outcomes.{Outcome, found, none, unbuilt, there}
use Rattle.kt_check_names.specs.declared.why.Why.{Why}
use Rattle.kt_check_names.specs.Answers.{Answers}
use Rattle.kt_check_calls.specs.Lists.{NumberedForm, numbered, first_named}

abbrev called_so : Context → List TypeTree → NumberedForm → Option Callable
called_so K ts f = calling K f.number f.function ts

pub function_is : (K : Context) (n : ℕ) (fs : List FunctionForm) (x : List ℕ) (ts : List TypeTree) (k : ℕ) →
    function_named K n fs x ts k ≡ then_on (first_named n fs x k) (called_so K ts)
function_is K n [] x ts k = refl
function_is K n (f ∷ fs) x ts k = by_test (is_name f.name x && length f.parameters == k) (function_is K (n + 1) fs x ts k)
  where
    by_test : (b : Bool) → function_named K (n + 1) fs x ts k ≡ then_on (first_named (n + 1) fs x k) (called_so K ts) →
        (if b then calling K n f ts else function_named K (n + 1) fs x ts k)
        ≡ then_on (if b then Some (numbered n f) else first_named (n + 1) fs x k) (called_so K ts)
    by_test true e = refl
    by_test false e = e

there_some : {A : Type 0} (o : Option A) (a : A) → there o ≡ found a → o ≡ Some a
there_some None a e = cc
there_some (Some b) a e = let f : b ≡ a = cc in ap (λ a. Some a) f

there_none : {A : Type 0} (o : Option A) → there o ≡ none → o ≡ None
there_none None e = refl
there_none (Some b) e = cc

module _ (K : Context) (fs : List FunctionForm) (x : List ℕ) (ts : List TypeTree) (k : ℕ) where
  found_so : (f : NumberedForm) → first_named 0 fs x k ≡ Some f →
      function_named K 0 fs x ts k ≡ calling K f.number f.function ts
  found_so f e = function_is K 0 fs x ts k ∙ ap (λ o. then_on o (called_so K ts)) e

  pub named_is : (f : NumberedForm) (b : Option Callable) (c : Callable) → first_named 0 fs x k ≡ Some f →
      there (calling K f.number f.function ts) ≡ found c → there (or_else (function_named K 0 fs x ts k) b) ≡ found c
  named_is f b c e is = ap (λ o. there (or_else o b)) (found_so f e ∙ there_some (calling K f.number f.function ts) c is)

  -- where it can't be called so, a built-in function counts
  pub not_named : {A : Type 0} (view : A → Callable) (r : Result A Why) (f : NumberedForm) (b : Option Callable) →
      first_named 0 fs x k ≡ Some f → there (calling K f.number f.function ts) ≡ none →
      Answers view r (there b) → Answers view r (there (or_else (function_named K 0 fs x ts k) b))
  not_named view r f b e is answer =
      subst (λ o. Answers view r (there (or_else o b)))
      (sym (found_so f e ∙ there_none (calling K f.number f.function ts) is)) answer

  pub none_named : {A : Type 0} (view : A → Callable) (r : Result A Why) (b : Option Callable) →
      first_named 0 fs x k ≡ None →
      Answers view r (there b) → Answers view r (there (or_else (function_named K 0 fs x ts k) b))
  none_named view r b e answer =
      subst (λ o. Answers view r (there (or_else o b)))
      (sym (function_is K 0 fs x ts k ∙ ap (λ o. then_on o (called_so K ts)) e)) answer

  pub never_unbuilt : (f : NumberedForm) (o : Outcome Callable) → there (calling K f.number f.function ts) ≡ unbuilt →
      o ≡ unbuilt
  never_unbuilt f o e = by_cases (calling K f.number f.function ts) e
    where
      by_cases : (p : Option Callable) → there p ≡ unbuilt → o ≡ unbuilt
      by_cases None e = cc
      by_cases (Some c) e = cc
