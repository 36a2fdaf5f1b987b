-- Facts as they are kept: one row for each local, by its number. A local without a row has no facts and isn't assigned.
use Rattle.std.specs.Prelude.{Bool, false, List, [], Option, Some, None, map, slice_get}
use Rattle.kt_types_tree.specs.Types.{TypeForm, type_form}
use Rattle.kt_flow.specs.declared.facts.LocalFacts.{LocalFacts}
use Rattle.kt_flow.specs.declared.facts.Facts.{Facts}
use Rattle.kt_flow.specs.Facts.{FactsForm}

abbrev pub types_in : Option LocalFacts → List TypeForm
types_in None = []
types_in (Some r) = map type_form r.types

abbrev pub surely_in : Option LocalFacts → Bool
surely_in None = false
surely_in (Some r) = r.surely_assigned

abbrev pub maybe_in : Option LocalFacts → Bool
maybe_in None = false
maybe_in (Some r) = r.maybe_assigned

abbrev pub form_of : List LocalFacts → FactsForm
form_of rows =
    record {
      types = λ x. types_in (slice_get rows x);
      surely_assigned = λ x. surely_in (slice_get rows x);
      maybe_assigned = λ x. maybe_in (slice_get rows x);
    }

abbrev pub facts_form : Facts → FactsForm
facts_form f = form_of f.rows
