use Rattle.std.proofs.Common.{take}
use Rattle.class_headers.specs.Indexed.{FindsNames}
use Rattle.class_headers.proofs.indexing.index_names.Given as goal

abbrev pub invariant-loop-class : goal.invariant-loop-class
invariant-loop-class l = FindsNames (take l.class l.headers) l.numbers
