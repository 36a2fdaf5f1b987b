-- The code that is pushed for an expression is that of the definition.
use Rattle.std.proofs.Common.{◌≡◌, List, [], ◌∷◌, ◌++◌, Option, Some, None, Result, Ok, Err, refl, sym, ap, ◌∙◌}
use Rattle.std.proofs.lemmas.List.{append_assoc}
use Rattle.std.specs.Prelude.{option_map}
use Rattle.kt_base.specs.declared.stack_code.Plain.{Plain}
use Rattle.kt_first.specs.declared.reading.FirstErr.{FirstErr}
use Rattle.kt_first.specs.declared.reading.FirstErr.TheVariants.{NotBuilt, NoMemory}
use Rattle.kt_first.specs.Programs.{Operation, Expression, step_of, expression_code}
use Rattle.kt_first.specs.Trees.{combined}
use Rattle.kt_first.specs.Answers.{Pushes, with_step}

-- the code of an expression behind other code
abbrev pushed : List Plain → Option Expression → Option (List Plain)
pushed old a = option_map (λ (code : List Plain). old ++ code) (option_map expression_code a)

-- the operands were pushed one after the other, and then the step
both : (o : Operation) (a b : Expression) (step : Plain) (old mid new : List Plain) → step_of o ≡ step → old ++ expression_code a ≡ mid → mid ++ with_step step b ≡ new
    → old ++ (expression_code a ++ (expression_code b ++ step_of o ∷ [])) ≡ new
both o a b step old mid new x y z =
    sym (append_assoc old (expression_code a) (expression_code b ++ step_of o ∷ []))
    ∙ ap (λ (l : List Plain). l ++ (expression_code b ++ step_of o ∷ [])) y
    ∙ ap (λ (s : Plain). mid ++ (expression_code b ++ s ∷ [])) x ∙ z

-- what the right operand answers is the answer of the whole
pub right_pushed : (r : Result Unit FirstErr) (o : Option Operation) (a b : Option Expression) (step : Plain) (old mid new : List Plain)
    → option_map step_of o ≡ Some step → pushed old a ≡ Some mid → Pushes r mid new (option_map (with_step step) b) → Pushes r old new (option_map expression_code (combined o a b))
right_pushed (Ok u) (Some o) (Some a) (Some b) step old mid new x y z =
    let step_is : step_of o ≡ step = cc in
    let left : old ++ expression_code a ≡ mid = cc in
    let right : mid ++ with_step step b ≡ new = cc in
    ap (λ (l : List Plain). Some l) (both o a b step old mid new step_is left right)
right_pushed (Ok u) (Some o) (Some a) None step old mid new x y z = absurd cc
right_pushed (Err NotBuilt) (Some o) (Some a) (Some b) step old mid new x y z = absurd cc
right_pushed (Err NotBuilt) (Some o) (Some a) None step old mid new x y z = refl
right_pushed (Err NoMemory) (Some o) (Some a) b step old mid new x y z = tt
right_pushed r None a b step old mid new x y z = absurd cc
right_pushed r (Some o) None b step old mid new x y z = absurd cc

-- a step is pushed behind an expression
pub step_pushed : (a : Option Expression) (step : Plain) (old mid : List Plain) → pushed old a ≡ Some mid → option_map (λ (code : List Plain). old ++ code) (option_map (with_step step) a) ≡ Some (mid ++ step ∷ [])
step_pushed (Some a) step old mid x =
    let is : old ++ expression_code a ≡ mid = cc in
    ap (λ (l : List Plain). Some l) (sym (append_assoc old (expression_code a) (step ∷ [])) ∙ ap (λ (l : List Plain). l ++ step ∷ []) is)
step_pushed None step old mid x = absurd cc
