use Rattle.std.proofs.Common.{◌≡◌, ◌++◌, map, drop}
use Rattle.kt_meaning.specs.Classes as spec
use Rattle.kt_typed.specs.Headers.{property_form}
use Rattle.kt_direct_values.specs.Forms.{value_form}
use Rattle.kt_direct_objects.proofs.slots.put_blanks.Given as goal

abbrev pub invariant-loop-property : goal.invariant-loop-property
invariant-loop-property l =
    map value_form l.into ++ map (λ p. spec.blank p.annotation) (map property_form (drop l.property-index l.properties))
    ≡ map value_form l.fn.into ++ map (λ p. spec.blank p.annotation) (map property_form l.properties)
