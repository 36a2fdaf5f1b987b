use Rattle.std.specs.Prelude.{◌≡◌, ◌++◌, map, drop}
use Rattle.kt_tree.specs.Declarations.{declaration_tree}
use Rattle.kt_types_tree.specs.Hierarchy.{header_form}
use Rattle.kt_types_builtins.specs.Throwables.{throwables}
use Rattle.kt_decls_types.specs.Scopes.{class_named}
use Rattle.kt_decls_hierarchy.specs.Drafts.{drafts_from, throwable_draft}
use Rattle.kt_decls_hierarchy.proofs.drafts.class_drafts.Given as goal

abbrev pub invariant-loop-declaration : goal.invariant-loop-declaration
invariant-loop-declaration l =
    map header_form l.done ++ drafts_from (class_named l.classes) l.first (map declaration_tree (drop l.declaration-index l.declarations)) ≡ map throwable_draft throwables ++ drafts_from (class_named l.classes) 0 (map declaration_tree l.declarations)
