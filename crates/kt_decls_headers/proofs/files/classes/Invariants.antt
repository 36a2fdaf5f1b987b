use Rattle.std.specs.Prelude.{◌≡◌, ◌++◌, length, map, drop}
use Rattle.kt_decls_types.specs.Scopes.{class_named}
use Rattle.kt_types_tree.specs.Hierarchy.{hierarchy_form}
use Rattle.kt_tree.specs.Declarations.{declaration_tree}
use Rattle.kt_typed.specs.Headers.{class_form}
use Rattle.kt_types_builtins.specs.Throwables.{throwables}
use Rattle.kt_decls_headers.specs.Classes.{throwable_in}
use Rattle.kt_decls_headers.specs.Files.{classes_from}
use Rattle.kt_decls_headers.proofs.files.classes.Given as goal

abbrev pub invariant-loop-declaration : goal.invariant-loop-declaration
invariant-loop-declaration l =
    map class_form l.done ++ classes_from (class_named l.facts.classes) (hierarchy_form l.facts.hierarchy) (map declaration_tree l.file) l.places l.row l.first (map declaration_tree (drop l.declaration-index l.file)) ≡ map throwable_in throwables ++ classes_from (class_named l.facts.classes) (hierarchy_form l.facts.hierarchy) (map declaration_tree l.file) l.places (length throwables) 0 (map declaration_tree l.file)
