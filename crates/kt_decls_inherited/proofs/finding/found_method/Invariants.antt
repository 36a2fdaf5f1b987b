use Rattle.std.specs.Prelude.{◌≡◌, find, map, drop}
use Rattle.std.specs.List.{flat_map}
use Rattle.kt_tree.specs.Declarations.{member_tree}
use Rattle.kt_decls_rules.specs.Members.{method_of}
use Rattle.kt_decls_rules.specs.Tables.{is_function}
use Rattle.kt_decls_inherited.proofs.finding.found_method.Given as goal

abbrev pub invariant-loop-member : goal.invariant-loop-member
invariant-loop-member l =
    find (is_function l.name l.count) (flat_map method_of (map member_tree l.members)) ≡ find (is_function l.name l.count) (flat_map method_of (map member_tree (drop l.member-index l.members)))
