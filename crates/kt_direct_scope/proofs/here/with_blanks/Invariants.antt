use Rattle.std.proofs.Common.{◌≡◌, ◌++◌, map, drop}
use Rattle.kt_meaning.specs.Classes as classes
use Rattle.kt_typed.specs.Operators.{local_form}
use Rattle.kt_direct_values.specs.Forms.{value_form}
use Rattle.kt_direct_scope.proofs.here.with_blanks.Given as goal

abbrev pub invariant-loop-local : goal.invariant-loop-local
invariant-loop-local l =
    map value_form l.all.items ++ map (λ d. classes.blank d.declared) (map local_form (drop l.local-index l.locals))
    ≡ map value_form l.initial.all.items ++ map (λ d. classes.blank d.declared) (map local_form l.locals)
