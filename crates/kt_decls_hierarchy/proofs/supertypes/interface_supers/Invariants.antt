use Rattle.std.specs.Prelude.{◌≡◌, ◌++◌, map, drop}
use Rattle.kt_tree.specs.Types.{type_tree}
use Rattle.kt_types_tree.specs.Hierarchy.{super_form}
use Rattle.kt_decls_types.specs.Scopes.{class_named}
use Rattle.kt_decls_hierarchy.specs.Drafts.{supers_in}
use Rattle.kt_decls_hierarchy.proofs.supertypes.interface_supers.Given as goal

abbrev pub invariant-loop-each : goal.invariant-loop-each
invariant-loop-each l =
    map super_form l.done ++ supers_in (class_named l.classes) l.scope (map type_tree (drop l.each-index l.written)) ≡ supers_in (class_named l.classes) l.scope (map type_tree l.written)
