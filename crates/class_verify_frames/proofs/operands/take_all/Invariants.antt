use Rattle.std.proofs.Common.{◌≡◌, drop, length}
use Rattle.std.specs.Prelude.{◌↔◌}
use Rattle.class_verify_rules.specs.Kinds.{TopFits}
use Rattle.class_verify_frames.proofs.operands.take_all.Given as goal

abbrev pub invariant-loop-kind : goal.invariant-loop-kind
invariant-loop-kind l = record {
  fits : TopFits l.program l.wanted l.fn.stack ↔ TopFits l.program (drop l.kind-index l.wanted) l.stack;
  rest : drop (length l.wanted) l.fn.stack ≡ drop (length (drop l.kind-index l.wanted)) l.stack;
}
