use Rattle.std.proofs.Common.{refl, ap, ◌∙◌}
use Rattle.kt_flow.specs.Rows.{form_of}
use Rattle.kt_flow.proofs.Rows.{grown}
use Rattle.kt_flow.proofs.facts.Facts.grow.Goals as goal

pub loop-self-preserved : goal.loop-self-preserved
loop-self-preserved c =
    ap form_of c.in_ok-push.ensures.ok ∙ grown _ _ c.new.ensures refl refl ∙ c.loop-self.invariant
