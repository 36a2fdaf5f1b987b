use Rattle.std.specs.Prelude.{◌≡◌, ◌++◌, map, drop}
use Rattle.kt_tree.specs.Declarations.{member_tree}
use Rattle.kt_decls_headers.specs.Classes.{numbers_from}
use Rattle.kt_decls_headers.proofs.parts.member_numbers.Given as goal

abbrev pub invariant-loop-member : goal.invariant-loop-member
invariant-loop-member l =
    l.done ++ numbers_from l.function l.property (map member_tree (drop l.member-index l.members)) ≡ numbers_from 0 l.properties (map member_tree l.members)
