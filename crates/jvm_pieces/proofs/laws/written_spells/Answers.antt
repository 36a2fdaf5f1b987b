use Rattle.jvm_pieces.proofs.Drafts as drafts
use Rattle.jvm_pieces.proofs.laws.written_spells.Goals as goal

pub returns : goal.returns
returns c = drafts.written_spells
