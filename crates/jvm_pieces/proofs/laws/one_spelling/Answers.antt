use Rattle.jvm_pieces.proofs.Drafts as drafts
use Rattle.jvm_pieces.proofs.laws.one_spelling.Goals as goal

pub returns : goal.returns
returns c = drafts.one_spelling
