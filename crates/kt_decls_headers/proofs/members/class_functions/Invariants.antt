use Rattle.std.specs.Prelude.{◌≡◌, ◌++◌, false, map, drop}
use Rattle.std.specs.List.{flat_map}
use Rattle.kt_decls_types.specs.Scopes.{class_named}
use Rattle.kt_types_tree.specs.Hierarchy.{hierarchy_form}
use Rattle.kt_tree.specs.Declarations.{declaration_tree, member_tree}
use Rattle.kt_typed.specs.Headers.{function_form}
use Rattle.kt_decls_rules.specs.Members.{method_of}
use Rattle.kt_decls_headers.specs.Classes.{method_in}
use Rattle.kt_decls_headers.proofs.members.class_functions.Given as goal

abbrev pub invariant-loop-member : goal.invariant-loop-member
invariant-loop-member l =
    map function_form l.done ++ map (method_in (class_named l.facts.classes) (hierarchy_form l.facts.hierarchy) (map declaration_tree l.file) l.places l.row l.scope false) (flat_map method_of (map member_tree (drop l.member-index l.members))) ≡ map (method_in (class_named l.facts.classes) (hierarchy_form l.facts.hierarchy) (map declaration_tree l.file) l.places l.row l.scope false) (flat_map method_of (map member_tree l.members))
