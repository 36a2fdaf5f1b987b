use Rattle.class_verify_flow.proofs.Deciding.{never, refused}
use Rattle.class_verify_turns.proofs.timing.is_timed.Goals as goal

pub returns-then-not-is_as_fixed : goal.returns-then-not-is_as_fixed
returns-then-not-is_as_fixed c = never (λ t. refused c.is_as_fixed.result c.is_as_fixed.ensures c.if-not-is_as_fixed.true t.fixed)
