-- Conditions of an entry of a `when` in order.
use Rattle.std.proofs.Common.{◌≡◌, Bool, true, false, cond, Option, Some, None, refl, sym, ap, subst, ◌∙◌}
use Rattle.kt_typed.specs.Bodies.{ConditionForm, ConditionForms, condition_then}
use Rattle.kt_values.specs.Values as v
use Rattle.kt_values.specs.Values.{Value, as_truth}
use Rattle.kt_values.specs.Runs.{Store, Gives, Run, gave, stopped, unfit, then_do, give, or_unfit}
use Rattle.kt_meaning.specs.Activations.{Activation}
use Rattle.kt_meaning.specs.Conditionals.{branch}
use Rattle.kt_meaning.specs.Eval.{is_any_met, is_met}
use Rattle.kt_direct_frames.specs.declared.frames.Next.{Next}
use Rattle.kt_direct_frames.specs.Frames.{Leads}
use Rattle.kt_direct_frames.proofs.Binding.{then_same, then_then}

-- a truth value that is asked twice
twice : (o : Option Bool) (met unmet rest : Run Value) (s : Store)
    → then_do (then_do (or_unfit o s) (λ b. cond b (give (v.truth true)) rest)) (branch met unmet)
    ≡ then_do (or_unfit o s) (λ b. cond b met (λ s. then_do (rest s) (branch met unmet)))
twice None met unmet rest s = refl
twice (Some true) met unmet rest s = refl
twice (Some false) met unmet rest s = refl

-- the first condition, then the others
pub any_first : (here : Activation) (c : ConditionForm) (cs : ConditionForms) (subject : Value) (met unmet : Run Value) (s : Store)
    → then_do (is_any_met here (condition_then c cs) subject s) (branch met unmet)
    ≡ then_do (is_met here c subject s) (branch met (λ s. then_do (is_any_met here cs subject s) (branch met unmet)))
any_first here c cs subject met unmet s =
    then_then (is_met here c subject s) (branch (give (v.truth true)) (is_any_met here cs subject)) (branch met unmet)
    ∙ then_same (is_met here c subject s)
    (λ x s. then_do (branch (give (v.truth true)) (is_any_met here cs subject) x s) (branch met unmet))
    (branch met (λ s. then_do (is_any_met here cs subject s) (branch met unmet)))
    (λ x s. twice (as_truth x) met unmet (is_any_met here cs subject) s)

-- what the first condition leads to, the whole leads to
pub when_leads : (here : Activation) (n : Next) (c : ConditionForm) (cs all : ConditionForms) (subject : Value)
    (met unmet : Run Value) (s : Store) → all ≡ condition_then c cs
    → Leads here n s (then_do (is_met here c subject s)
    (branch met (λ s. then_do (is_any_met here cs subject s) (branch met unmet))))
    → Leads here n s (then_do (is_any_met here all subject s) (branch met unmet))
when_leads here n c cs all subject met unmet s is leads =
    subst (λ all. Leads here n s (then_do (is_any_met here all subject s) (branch met unmet))) (sym is)
    (subst (Leads here n s) (sym (any_first here c cs subject met unmet s)) leads)
