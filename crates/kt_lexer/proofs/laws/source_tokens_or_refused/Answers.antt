use Rattle.kt_lexer.proofs.SourcesDecided.{source_tokens_or_refused}
use Rattle.kt_lexer.proofs.laws.source_tokens_or_refused.Goals as goal

pub returns : goal.returns
returns c = source_tokens_or_refused
