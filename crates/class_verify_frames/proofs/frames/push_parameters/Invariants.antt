use Rattle.std.proofs.Common.{◌≡◌, ◌++◌, drop, map}
use Rattle.class_verify_rules.specs.Kinds.{kind_of, spread}
use Rattle.class_verify_frames.proofs.frames.push_parameters.Given as goal

abbrev pub invariant-loop-parameter : goal.invariant-loop-parameter
invariant-loop-parameter l = l.locals.items ++ spread (map kind_of (drop l.parameter-index l.parameters)) ≡ l.fn.locals.items ++ spread (map kind_of l.parameters)
