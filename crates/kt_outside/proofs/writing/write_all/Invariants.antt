use Rattle.std.proofs.Common.{◌≡◌, ℕ, List, ◌++◌, length}
use Rattle.std.specs.Io.KnownBytes.{Appends}
use Rattle.kt_outside.proofs.writing.write_all.Given as goal

abbrev pub invariant-loop-rest : goal.invariant-loop-rest
invariant-loop-rest g l = record {
  place : (front : List ℕ) × (l.bytes ≡ front ++ l.rest) × Appends (g.S.Sink.taken l.initial.sink) (g.S.Sink.taken l.sink) front;
  unfailed : g.S.Sink.faults l.sink ≡ g.S.Sink.faults l.initial.sink;
}

abbrev pub decreases-loop-rest : goal.decreases-loop-rest
decreases-loop-rest g l = length l.rest
