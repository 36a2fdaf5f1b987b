use Rattle.std.proofs.Common.{◌≡◌, ◌++◌, ℕ, List, length}
use Rattle.kt_base.specs.Text.{utf8_of}
use Rattle.kt_base.proofs.texts.put_units.Given as goal

abbrev pub invariant-loop-rest : goal.invariant-loop-rest
invariant-loop-rest l = record {
  written : l.into.items ++ utf8_of l.rest ≡ l.initial.into.items ++ utf8_of l.units;
  kept : (written : List ℕ) × (l.into.items ≡ l.initial.into.items ++ written);
}

abbrev pub decreases-loop-rest : goal.decreases-loop-rest
decreases-loop-rest l = length l.rest
