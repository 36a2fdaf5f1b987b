use Rattle.kt_grammar.proofs.declarations.FileLaws as laws
use Rattle.kt_grammar.proofs.laws.one_tree.Goals as goal

-- src/laws.rt:48:1
pub returns : goal.returns
returns c = laws.one_tree
