use Rattle.std.proofs.Common.{◌≡◌, sym, subst}
use Rattle.kt_values.specs.Values as v
use Rattle.kt_meaning.specs.Equality as equality
use Rattle.kt_direct_values.specs.Forms.{value_form}
use Rattle.kt_direct_frames.specs.Frames.{Leads}
use Rattle.kt_direct_frames.specs.Results.{as_truth_value}
use Rattle.kt_direct_expressions.specs.Called.{IsDecided}
use Rattle.kt_direct_expressions.proofs.comparisons.equal.Goals as goal

pub returns-in-Object : goal.returns-in-Object
returns-in-Object c =
    let is : value_form c.args.x ≡ v.reference (v.instance c.in-Object.c) c.in-Object.place =
    subst (λ k. IsDecided k (value_form c.args.x)) c.in-Object.is c.decided_by.ensures in
    λ here s unit.
    subst (λ x. Leads here c.object_equals.result s (as_truth_value (equality.equal here x (value_form c.args.y)) s))
    (sym is) (c.object_equals.ensures here s unit)
