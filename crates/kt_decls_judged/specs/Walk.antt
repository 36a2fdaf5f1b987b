-- The walk over the declarations of a file.
use Rattle.std.specs.Prelude.{ℕ, Bool, List, ◌∷◌, ◌≡◌, Option}
use Rattle.std.specs.List.{flat_map}
use Rattle.kt_base.specs.declared.refusals.Pos.{Pos}
use Rattle.kt_tree.specs.Declarations.{DeclarationTree}
use Rattle.kt_decls_rules.specs.Names.{Taken, taken_by}
use Rattle.kt_decls_rules.specs.Tables.{row_count}
use Rattle.kt_decls_rules.specs.ClassRules.{row_behind}
use Rattle.kt_decls_rules.specs.Headers.{Header, top, headers, headers_from, headers_of_members}
use Rattle.kt_decls_classes.specs.Faults.{AreJudged}
use Rattle.kt_decls_members.specs.Known.{IsTakenBy}

-- the headers of one declaration
abbrev pub headers_of : List DeclarationTree → DeclarationTree → List Header
headers_of before d = top before d ∷ headers_of_members before d

-- Where it stands before the rest of the file: the names that are taken, the row of the next class and of the next type
-- parameter, and that the rest decides what the whole file decides.
pub record IsFileWalk (ds : List DeclarationTree) (taken : Taken → Bool) (row first : ℕ)
    (before rest : List DeclarationTree) : Type 0 where
  pub names : IsTakenBy taken (flat_map taken_by before)
  pub class_row : row ≡ row_behind before
  pub first_row : first ≡ row_count before
  pub judged : (o : Option Pos) → AreJudged ds (headers_from before rest) o → AreJudged ds (headers ds) o
