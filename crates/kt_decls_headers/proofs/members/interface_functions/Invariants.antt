use Rattle.std.specs.Prelude.{◌≡◌, ◌++◌, true, map, drop}
use Rattle.kt_decls_types.specs.Scopes.{class_named}
use Rattle.kt_types_tree.specs.Hierarchy.{hierarchy_form}
use Rattle.kt_tree.specs.Declarations.{declaration_tree, function_tree}
use Rattle.kt_typed.specs.Headers.{function_form}
use Rattle.kt_decls_headers.specs.Classes.{method_in}
use Rattle.kt_decls_headers.proofs.members.interface_functions.Given as goal

abbrev pub invariant-loop-function : goal.invariant-loop-function
invariant-loop-function l =
    map function_form l.done ++ map (method_in (class_named l.facts.classes) (hierarchy_form l.facts.hierarchy) (map declaration_tree l.file) l.places l.row l.scope true) (map function_tree (drop l.function-index l.functions)) ≡ map (method_in (class_named l.facts.classes) (hierarchy_form l.facts.hierarchy) (map declaration_tree l.file) l.places l.row l.scope true) (map function_tree l.functions)
