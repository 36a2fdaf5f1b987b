-- Facts whose parts come from several.
use Rattle.kt_flow.specs.Facts.{FactsForm}

-- the types of the first, what is surely assigned of the second, and what is maybe assigned of the third
abbrev pub parts_from : FactsForm → FactsForm → FactsForm → FactsForm
parts_from f g h =
    record { types = f.types; surely_assigned = g.surely_assigned; maybe_assigned = h.maybe_assigned }
