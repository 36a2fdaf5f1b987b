use Rattle.std.proofs.Common.{◌≡◌, take, false}
use Rattle.std.specs.List.{list_any}
use Rattle.class_missing.specs.Missing.{lacks}
use Rattle.class_missing.proofs.abstracts.lacks_method_of.Given as goal

abbrev pub invariant-loop-method : goal.invariant-loop-method
invariant-loop-method l = list_any (lacks l.h l.class) (take l.method-index l.method-items) ≡ false
