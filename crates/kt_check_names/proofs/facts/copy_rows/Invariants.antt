use Rattle.std.proofs.Common.{◌≡◌, ◌++◌, map, drop}
use Rattle.kt_check_names.specs.Facts.{shown}
use Rattle.kt_check_names.proofs.facts.copy_rows.Given as goal

abbrev pub invariant-loop-row : goal.invariant-loop-row
invariant-loop-row l = map shown l.rows ≡ map shown l.copies ++ map shown (drop l.row-index l.rows)
