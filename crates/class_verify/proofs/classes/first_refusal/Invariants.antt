use Rattle.class_verify.specs.Refusals.{KeepsBelow}
use Rattle.class_verify.proofs.classes.first_refusal.Given as goal

abbrev pub invariant-loop-class : goal.invariant-loop-class
invariant-loop-class l = KeepsBelow l.program l.class
