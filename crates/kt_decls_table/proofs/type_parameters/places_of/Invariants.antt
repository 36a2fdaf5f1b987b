use Rattle.std.specs.Prelude.{◌≡◌, ◌++◌, map, drop}
use Rattle.kt_types_tree.specs.Types.{type_form}
use Rattle.kt_decls_table.specs.TypeParameters.{bound_places}
use Rattle.kt_decls_table.proofs.type_parameters.places_of.Given as goal

abbrev pub invariant-loop-bound : goal.invariant-loop-bound
invariant-loop-bound l =
    l.graph ++ map bound_places (map type_form (drop l.bound-index l.bounds)) ≡ map bound_places (map type_form l.bounds)
