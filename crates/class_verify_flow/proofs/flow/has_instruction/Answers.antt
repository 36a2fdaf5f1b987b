use Rattle.class_verify_frames.specs.Views.{body}
use Rattle.class_verify_flow.proofs.Deciding.{always, never}
use Rattle.class_verify_flow.proofs.Starting.{starts_there, nothing_there}
use Rattle.class_verify_flow.proofs.flow.has_instruction.Goals as goal

pub returns-in-None : goal.returns-in-None
returns-in-None c = never (nothing_there (body c.args.method.now) c.args.method.now.starts.now c.args.offset c.requires.starts c.in-None.ensures)

pub returns-in-Some : goal.returns-in-Some
returns-in-Some c = always (starts_there (body c.args.method.now) c.args.method.now.starts.now c.in-Some.field-0 c.args.offset c.requires.starts c.requires.ascending c.in-Some.ensures)
