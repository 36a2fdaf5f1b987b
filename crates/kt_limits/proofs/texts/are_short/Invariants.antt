use Rattle.std.specs.Prelude.{◌≡◌, map, drop}
use Rattle.std.specs.List.{list_all}
use Rattle.kt_typed.specs.Operators.{local_form}
use Rattle.kt_limits.specs.Limits.{local_names}
use Rattle.kt_limits.specs.Noting.{is_short}
use Rattle.kt_limits.proofs.texts.are_short.Given as goal

abbrev pub invariant-loop-local : goal.invariant-loop-local
invariant-loop-local l =
    list_all is_short (local_names (map local_form l.locals))
    ≡ list_all is_short (local_names (map local_form (drop l.local-index l.locals)))
