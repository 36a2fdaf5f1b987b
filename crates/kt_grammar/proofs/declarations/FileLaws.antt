-- The laws on files.
use Rattle.std.proofs.Common.{[], refl}
use Rattle.kt_grammar_parsers.specs.Parsers.{cursor}
use Rattle.kt_grammar.specs.Declarations.{OneTree, most_levels}
use Rattle.kt_grammar.specs.Laws.{FileHasLevels, FileIsRead, FileIsRefused, FileReadsFiles}
use Rattle.kt_grammar.proofs.declarations.FunctionsRead.{Expressions, Statements}
use Rattle.kt_grammar.proofs.declarations.FilesRead.{
  expressions_are_read,
  file_is_read_over,
  file_is_refused_over,
  one_tree_over,
  read_is_file_over,
  statements_are_read,
}
use Rattle.kt_grammar.proofs.statements.LevelsRead.{levels_read}
use Rattle.kt_grammar.proofs.levels.FileLevels.{file_fits}

abbrev E : Expressions
E = expressions_are_read (levels_read most_levels)

abbrev S : Statements
S = statements_are_read (levels_read most_levels)

pub one_tree : OneTree
one_tree = one_tree_over E S

pub file_is_read : FileIsRead
file_is_read = file_is_read_over E S

pub file_reads_files : FileReadsFiles
file_reads_files ts file far e = read_is_file_over E S ts file (cursor [] far) e refl

pub file_is_refused : FileIsRefused
file_is_refused = file_is_refused_over E S

pub file_has_levels : FileHasLevels
unfolding most_levels
file_has_levels ts file l = file_fits.value file ts [] l
