use Rattle.std.specs.Prelude.{◌≡◌, ◌++◌, map, drop}
use Rattle.kt_types_tree.specs.Hierarchy.{super_form}
use Rattle.kt_decls_hierarchy.proofs.hierarchies.copies_of.Given as goal

abbrev pub invariant-loop-supertype : goal.invariant-loop-supertype
invariant-loop-supertype l =
    map super_form l.done ++ map super_form (drop l.supertype-index l.supertypes) ≡ map super_form l.supertypes
