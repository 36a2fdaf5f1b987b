use Rattle.std.proofs.Common.{◌≡◌, take}
use Rattle.class_constants.specs.Fields.{fields_declared}
use Rattle.class_constants.proofs.fields.fields_declared.Given as goal

abbrev pub invariant-loop-class : goal.invariant-loop-class
invariant-loop-class l = l.count ≡ fields_declared l.headers (take l.class-index l.classes)
