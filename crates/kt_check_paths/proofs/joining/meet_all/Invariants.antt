use Rattle.std.proofs.Common.{◌≡◌, map, drop}
use Rattle.kt_flow.specs.Facts as spec
use Rattle.kt_flow.specs.Rows.{facts_form}
use Rattle.kt_check_paths.proofs.joining.meet_all.Given as goal

abbrev pub invariant-loop-each : goal.invariant-loop-each
invariant-loop-each l =
    spec.meet_all (facts_form l.all) (map facts_form (drop l.each-index l.others))
    ≡ spec.meet_all (facts_form l.fn.first) (map facts_form l.others)
