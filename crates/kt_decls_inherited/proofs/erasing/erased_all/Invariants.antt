use Rattle.std.specs.Prelude.{◌≡◌, ◌++◌, map, drop}
use Rattle.kt_types_tree.specs.Hierarchy.{hierarchy_form}
use Rattle.kt_types_tree.specs.Types.{type_form}
use Rattle.kt_decls_rules.specs.Erasure.{erased}
use Rattle.kt_decls_inherited.specs.Erased.{erased_form}
use Rattle.kt_decls_inherited.proofs.erasing.erased_all.Given as goal

abbrev pub invariant-loop-t : goal.invariant-loop-t
invariant-loop-t l =
    map erased_form l.done ++ map (erased (hierarchy_form l.h).bounds) (map type_form (drop l.t-index l.types)) ≡ map (erased (hierarchy_form l.h).bounds) (map type_form l.types)
