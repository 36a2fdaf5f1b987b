use Rattle.kt_lexer.proofs.Whole as whole
use Rattle.kt_lexer.proofs.laws.tokens_or_refused.Goals as goal

pub returns : goal.returns
returns c = whole.tokens_or_refused
