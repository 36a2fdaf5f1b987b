use Rattle.std.proofs.Common.{sym, ap, ◌∙◌, arith}
use Rattle.std.specs.Prelude.{drop, ◌+◌, max, option_map}
use Rattle.jvm_class_first.specs.Heights.{highest_from}
use Rattle.jvm_class_first.proofs.Stacks.{counted_at}
use Rattle.jvm_class_first.proofs.heights.max_stack.Goals as goal

pub loop-step-preserved : goal.loop-step-preserved
loop-step-preserved c =
    let l = c.loop-step in
    record {
      greatest =
          ap (λ m. option_map (max m) (highest_from (drop (l.step-index + 1) c.args.code.now) c.in_ok-height.height)) c.greater-highest.ensures
          ∙ counted_at c.args.code.now l.step-index _ l.highest l.height c.in_ok-height.height (omega arith) l.invariant.reached (sym c.in_ok-height.ensures.value)
          ∙ l.invariant.greatest;
      most = omega (arith, c.in_ok-height.ensures.most);
      reached = omega (arith, c.greater-highest.ensures);
    }
