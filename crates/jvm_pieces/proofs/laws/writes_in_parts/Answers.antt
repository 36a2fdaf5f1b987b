use Rattle.jvm_pieces.proofs.Drafts as drafts
use Rattle.jvm_pieces.proofs.laws.writes_in_parts.Goals as goal

pub returns : goal.returns
returns c = drafts.writes_in_parts
