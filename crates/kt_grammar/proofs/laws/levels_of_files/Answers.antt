use Rattle.kt_grammar.proofs.declarations.FileLaws as laws
use Rattle.kt_grammar.proofs.laws.levels_of_files.Goals as goal

pub returns : goal.returns
returns c = laws.file_has_levels
