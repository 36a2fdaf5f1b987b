use Rattle.std.specs.Prelude.{◌≡◌, drop}
use Rattle.std.specs.List.{list_any}
use Rattle.kt_types.specs.Kinds.{flag}
use Rattle.kt_decls_hierarchy.proofs.marks.any_marked.Given as goal

abbrev pub invariant-loop-row : goal.invariant-loop-row
invariant-loop-row l = list_any (flag l.marks) l.links ≡ list_any (flag l.marks) (drop l.row-index l.links)
