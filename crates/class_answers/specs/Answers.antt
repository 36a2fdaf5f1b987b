-- The status and the line of an answer.
use Rattle.std.specs.Prelude.{ℕ, List, [], ◌++◌, codes, string_bytes}
use Rattle.std.specs.Fmt.{decimal}
use Rattle.kt_base.specs.Report.{line}
use Rattle.class_answers.specs.declared.answers.Answer.{Answer}
use Rattle.class_answers.specs.declared.answers.Answer.TheVariants as answer

-- 9 is the status of all classes that aren't accepted
abbrev pub status_of : Answer → ℕ
status_of answer.Fine = 0
status_of (answer.Altered file) = 1
status_of answer.Usage = 2
status_of answer.NoMemory = 6
status_of (answer.CannotRead file) = 7
status_of (answer.BadBytes file offset) = 9
status_of (answer.Missing class) = 9
status_of (answer.Cyclic class) = 9
status_of answer.NoMain = 9
status_of (answer.Rejected class method offset) = 9

-- the line on the output
abbrev pub out_line : Answer → List ℕ
out_line answer.Fine = line (codes "ok")
out_line _ = []

-- the line on the stream of errors
abbrev pub err_line : Answer → List ℕ
err_line answer.Fine = []
err_line (answer.Altered file) = line (string_bytes file ++ codes ": written otherwise")
err_line answer.Usage = line (codes "usage: FILE..")
err_line answer.NoMemory = line (codes "out of memory")
err_line (answer.CannotRead file) = line (codes "cannot read " ++ string_bytes file)
err_line (answer.BadBytes file offset) = line (string_bytes file ++ (codes ": bad bytes at " ++ decimal offset))
err_line (answer.Missing class) = line (codes "missing class " ++ class)
err_line (answer.Cyclic class) = line (codes "cyclic class " ++ class)
err_line answer.NoMain = line (codes "no main")
err_line (answer.Rejected class method offset) =
    line (class ++ (codes ".class: method " ++ (decimal method ++ (codes " rejected at " ++ decimal offset))))
