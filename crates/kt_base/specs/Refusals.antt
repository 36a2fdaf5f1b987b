-- How a place and a refusal are printed.
use Rattle.std.specs.Prelude.{ℕ, List, ◌++◌, codes}
use Rattle.std.specs.Fmt.{decimal}
use Rattle.kt_base.specs.declared.refusals.Kind.{Kind}
use Rattle.kt_base.specs.declared.refusals.Kind.TheVariants as kind
use Rattle.kt_base.specs.declared.refusals.Pos.{Pos}
use Rattle.kt_base.specs.declared.refusals.Refusal.{Refusal}
use Rattle.kt_base.specs.declared.refusals.FrontErr.{FrontErr}
use Rattle.kt_base.specs.declared.refusals.FrontErr.TheVariants as front_err

-- LINE:COLUMN
abbrev pub pos_text : Pos → List ℕ
pos_text at = decimal at.line ++ codes ":" ++ decimal at.column

abbrev pub kind_text : Kind → List ℕ
kind_text kind.Lex = codes "Lex"
kind_text kind.Syntax = codes "Syntax"
kind_text kind.Typing = codes "Type"
kind_text kind.Share = codes "Share"
kind_text kind.Size = codes "Size"

-- LINE:COLUMN: KIND
abbrev pub refusal_text : Refusal → List ℕ
refusal_text r = pos_text r.pos ++ codes ": " ++ kind_text r.kind

-- the refusal, or that memory was refused
abbrev pub front_err_text : FrontErr → List ℕ
front_err_text (front_err.Refused r) = refusal_text r
front_err_text front_err.NoMemory = codes "out of memory"
