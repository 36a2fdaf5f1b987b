use Rattle.std.specs.Prelude.{◌≡◌, map, drop}
use Rattle.std.specs.List.{list_any}
use Rattle.kt_decls_inherited.specs.Sights.{sight_form}
use Rattle.kt_decls_meeting.proofs.agreeing.has_any_body.Given as goal

abbrev pub invariant-loop-each : goal.invariant-loop-each
invariant-loop-each l =
    list_any (λ s. s.has_body) (map sight_form l.all) ≡ list_any (λ s. s.has_body) (map sight_form (drop l.each-index l.all))
