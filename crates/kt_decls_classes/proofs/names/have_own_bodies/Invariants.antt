use Rattle.std.specs.Prelude.{◌≡◌, map, drop}
use Rattle.std.specs.List.{flat_map, list_all}
use Rattle.kt_tree.specs.Declarations.{member_tree}
use Rattle.kt_decls_rules.specs.Members.{is_some_body, method_of}
use Rattle.kt_decls_classes.proofs.names.have_own_bodies.Given as goal

abbrev pub invariant-loop-member : goal.invariant-loop-member
invariant-loop-member l =
    list_all (λ f. is_some_body f.body) (flat_map method_of (map member_tree l.members)) ≡ list_all (λ f. is_some_body f.body) (flat_map method_of (map member_tree (drop l.member-index l.members)))
