use Rattle.std.proofs.Common.{take}
use Rattle.class_headers.specs.Indexed.{FindsMethods}
use Rattle.class_index.specs.Members.{IsWhole}
use Rattle.class_headers.proofs.indexing.index_methods.Given as goal

abbrev pub invariant-loop-class : goal.invariant-loop-class
invariant-loop-class l = IsWhole l.index × FindsMethods (take l.class l.headers) l.index
