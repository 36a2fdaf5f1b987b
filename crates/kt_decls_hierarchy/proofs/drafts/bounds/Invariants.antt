use Rattle.std.specs.Prelude.{◌≡◌, ◌++◌, map, drop}
use Rattle.kt_tree.specs.Declarations.{declaration_tree}
use Rattle.kt_types_tree.specs.Types.{type_form}
use Rattle.kt_decls_types.specs.Scopes.{class_named}
use Rattle.kt_decls_hierarchy.specs.Drafts.{bounds_from}
use Rattle.kt_decls_hierarchy.proofs.drafts.bounds.Given as goal

abbrev pub invariant-loop-declaration : goal.invariant-loop-declaration
invariant-loop-declaration l =
    map type_form l.done ++ bounds_from (class_named l.classes) l.first (map declaration_tree (drop l.declaration-index l.declarations)) ≡ bounds_from (class_named l.classes) 0 (map declaration_tree l.declarations)
