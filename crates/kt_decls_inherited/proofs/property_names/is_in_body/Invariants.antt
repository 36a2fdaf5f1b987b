use Rattle.std.specs.Prelude.{◌≡◌, map, drop}
use Rattle.std.specs.List.{flat_map, list_any}
use Rattle.kt_tree.specs.Declarations.{member_tree}
use Rattle.kt_decls_rules.specs.Members.{property_name}
use Rattle.kt_decls_rules.specs.Names.{is_name}
use Rattle.kt_decls_inherited.proofs.property_names.is_in_body.Given as goal

abbrev pub invariant-loop-member : goal.invariant-loop-member
invariant-loop-member l =
    list_any (is_name l.name) (flat_map property_name (map member_tree l.members)) ≡ list_any (is_name l.name) (flat_map property_name (map member_tree (drop l.member-index l.members)))
