use Rattle.std.proofs.Common.{◌≡◌, drop}
use Rattle.std.specs.List.{list_any}
use Rattle.class_verify_rules.specs.Kinds.{is_fresh}
use Rattle.class_verify_frames.proofs.operands.has_fresh.Given as goal

abbrev pub invariant-loop-depth : goal.invariant-loop-depth
invariant-loop-depth l = list_any (is_fresh l.offset) l.stack ≡ list_any (is_fresh l.offset) (drop l.depth l.stack)
