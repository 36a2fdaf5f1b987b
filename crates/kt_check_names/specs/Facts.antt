-- What a row of facts says.
use Rattle.std.specs.Prelude.{Bool, List, map}
use Rattle.kt_types_tree.specs.Types.{TypeForm, type_form}
use Rattle.kt_flow.specs.declared.facts.LocalFacts.{LocalFacts}

pub record Shown : Type 0 where
  pub types : List TypeForm
  pub surely : Bool
  pub maybe : Bool

abbrev pub shown : LocalFacts → Shown
shown r = record { types = map type_form r.types; surely = r.surely_assigned; maybe = r.maybe_assigned }
