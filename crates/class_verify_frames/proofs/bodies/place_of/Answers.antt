use Rattle.class_verify_frames.proofs.Offsets.{none_stands}
use Rattle.class_verify_frames.proofs.bodies.place_of.Goals as goal

pub returns-in-Err : goal.returns-in-Err
returns-in-Err c = none_stands c.args.starts.now c.args.offset c.in-Err.field-0 c.requires c.in-Err.ensures.position
