use Rattle.std.specs.Prelude.{◌≡◌, map, drop}
use Rattle.kt_limits.specs.Parts.{entry_header}
use Rattle.kt_limits.specs.Walking.{walk}
use Rattle.kt_limits.proofs.headers.entry_headers.Given as goal

abbrev pub invariant-loop-entry : goal.invariant-loop-entry
invariant-loop-entry l =
    walk l.count (map entry_header (drop l.entry-index l.entries)) ≡ walk l.start (map entry_header l.entries)
