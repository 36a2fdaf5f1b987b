use Rattle.std.proofs.Common.{◌≡◌, ◌+◌, true, false, sym, ◌∙◌}
use Rattle.class_verify_rules.specs.Kinds.{is_fresh}
use Rattle.class_verify_frames.proofs.Pairs.{any_true, any_next}
use Rattle.class_verify_frames.proofs.operands.has_fresh.Goals as goal

pub returns-then-is_fresh_at : goal.returns-then-is_fresh_at
returns-then-is_fresh_at c =
    sym (c.loop-depth.invariant ∙ any_true (is_fresh c.args.offset) c.args.stack.now c.loop-depth.depth c.kind_at.result c.kind_at.ensures
    (sym c.is_fresh_at.ensures ∙ c.if-is_fresh_at.true))

pub loop-depth-preserved : goal.loop-depth-preserved
loop-depth-preserved c =
    c.loop-depth.invariant ∙ any_next (is_fresh c.args.offset) c.args.stack.now c.loop-depth.depth c.kind_at.result c.kind_at.ensures
    (sym c.is_fresh_at.ensures ∙ c.if-is_fresh_at.false)
