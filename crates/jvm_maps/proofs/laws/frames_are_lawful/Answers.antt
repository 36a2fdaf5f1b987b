use Rattle.jvm_maps.proofs.FrameLaws.{frames_are_lawful}
use Rattle.jvm_maps.proofs.laws.frames_are_lawful.Goals as goal

pub returns : goal.returns
returns c = frames_are_lawful
