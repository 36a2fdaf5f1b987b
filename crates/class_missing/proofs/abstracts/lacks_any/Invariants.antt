use Rattle.std.proofs.Common.{◌≡◌, take, false}
use Rattle.std.specs.List.{list_any}
use Rattle.class_missing.specs.Missing.{lacks_one}
use Rattle.class_missing.proofs.abstracts.lacks_any.Given as goal

abbrev pub invariant-loop-above : goal.invariant-loop-above
invariant-loop-above l = list_any (lacks_one l.h l.class) (take l.above-index l.above-items) ≡ false
