use Rattle.std.specs.Prelude.{◌≡◌, map, drop}
use Rattle.std.specs.List.{list_any}
use Rattle.kt_tree.specs.Declarations.{member_tree}
use Rattle.kt_decls_rules.specs.Tables.{is_method}
use Rattle.kt_decls_hierarchy.proofs.drafts.has_method.Given as goal

abbrev pub invariant-loop-member : goal.invariant-loop-member
invariant-loop-member l =
    list_any (is_method l.name l.count) (map member_tree l.members) ≡ list_any (is_method l.name l.count) (map member_tree (drop l.member-index l.members))
