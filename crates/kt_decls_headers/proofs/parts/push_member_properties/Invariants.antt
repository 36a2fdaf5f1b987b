use Rattle.std.specs.Prelude.{◌≡◌, ◌++◌, map, drop}
use Rattle.std.specs.List.{flat_map}
use Rattle.kt_decls_types.specs.Scopes.{class_named}
use Rattle.kt_tree.specs.Declarations.{member_tree}
use Rattle.kt_typed.specs.Headers.{property_form}
use Rattle.kt_decls_headers.specs.Classes.{member_property}
use Rattle.kt_decls_headers.proofs.parts.push_member_properties.Given as goal

abbrev pub invariant-loop-member : goal.invariant-loop-member
invariant-loop-member l =
    map property_form l.done ++ flat_map (member_property (class_named l.classes) l.scope) (map member_tree (drop l.member-index l.members)) ≡ map property_form l.fn.done ++ flat_map (member_property (class_named l.classes) l.scope) (map member_tree l.members)
