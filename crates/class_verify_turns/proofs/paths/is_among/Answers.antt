use Rattle.class_verify_frames.proofs.Offsets.{none_stands}
use Rattle.class_verify_flow.proofs.Deciding.{never}
use Rattle.class_verify_turns.proofs.paths.is_among.Goals as goal

pub returns-in-Err : goal.returns-in-Err
returns-in-Err c = never (λ s. none_stands c.args.places.now c.args.place c.in-Err.field-0 c.requires c.in-Err.ensures.position s.0 s.1)
