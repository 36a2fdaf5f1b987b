use Rattle.std.specs.Prelude.{◌≡◌, ◌≤◌, map, drop}
use Rattle.std.specs.List.{flat_map}
use Rattle.kt_tree.specs.Declarations.{member_tree}
use Rattle.kt_decls_rules.specs.Members.{method_of}
use Rattle.kt_decls_headers.specs.Overridden.{place_from}
use Rattle.kt_decls_headers.proofs.overridden.place_in_members.Given as goal

abbrev pub invariant-loop-member : goal.invariant-loop-member
invariant-loop-member l =
    (l.place ≤ l.member-index) × (place_from l.name l.count 0 (flat_map method_of (map member_tree l.members)) ≡ place_from l.name l.count l.place (flat_map method_of (map member_tree (drop l.member-index l.members))))
