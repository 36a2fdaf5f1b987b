use Rattle.jvm_code.specs.Decoding.{rows}
use Rattle.jvm_code.proofs.Theorem.{follows_ascend}
use Rattle.jvm_code.proofs.layout.laid.Goals as goal

pub bad_target-requires : goal.bad_target-requires
bad_target-requires c = follows_ascend 0 (rows c.args.code.now) (c.follows.ensures.0 c.if-not-follows.false)
