use Rattle.class_verify.proofs.verified.Verified.has_frames.Goals as goal

pub returns : goal.returns
returns c = c.each_is_typed.ensures c.args.self.now c.linked-linked.ensures.verified
