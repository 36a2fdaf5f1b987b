use Rattle.std.proofs.Common.{◌&&◌, ap₂, ◌∙◌}
use Rattle.kt_limits.proofs.notes.is_fine_lambda.Goals as goal

pub returns : goal.returns
returns c =
    c.both-3.ensures
    ∙ ap₂ (λ a b. a && b) c.is_light-is_light.ensures
    (c.both-2.ensures
    ∙ ap₂ (λ a b. a && b) c.has_few_parameters-few_parameters.ensures
    (c.both.ensures ∙ ap₂ (λ a b. a && b) c.has_few_captures-few_captures.ensures c.has_short_names-are_short.ensures))
