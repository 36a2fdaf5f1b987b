use Rattle.std.proofs.Common.{◌≡◌, ◌++◌, drop}
use Rattle.ktrun.specs.FirstRuns.{text_of}
use Rattle.ktrun.proofs.machine.text_of.Given as goal

abbrev pub invariant-loop-n : goal.invariant-loop-n
invariant-loop-n l = l.text.items ++ text_of (drop l.n-index l.fn.values) ≡ text_of l.fn.values
