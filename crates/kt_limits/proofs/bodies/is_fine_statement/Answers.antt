use Rattle.std.proofs.Common.{◌&&◌, ap₂, ◌∙◌}
use Rattle.kt_typed.specs.Bodies.{fun_form}
use Rattle.kt_limits.specs.Noted.{noted_in_statement}
use Rattle.kt_limits.specs.Walking.{behind}
use Rattle.kt_limits.proofs.Lights.{seen_fine, kept_locals}
use Rattle.kt_limits.proofs.bodies.is_fine_statement.Goals as goal

pub returns : goal.returns
returns c = λ s x is so noted.
    c.both-2.ensures
    ∙ ap₂ (λ a b. a && b) (c.is_light-is_light.ensures (behind s x) so)
    (c.both.ensures
    ∙ ap₂ (λ a b. a && b)
    (c.are_locals_short-are_short.ensures s.locals (behind s x).locals (kept_locals s c.args.before is) (kept_locals (behind s x) c.args.so_far so))
    (seen_fine c.args.notes (noted_in_statement x) noted))
