use Rattle.std.proofs.Common.{◌≡◌, ◌++◌, replicate}
use Rattle.class_linked.specs.declared.kinds.Kind.TheVariants.{Top}
use Rattle.class_verify_frames.proofs.frames.push_tops.Given as goal

abbrev pub invariant-loop : goal.invariant-loop
invariant-loop l = l.locals.items ≡ l.fn.locals.items ++ replicate l.counter Top
