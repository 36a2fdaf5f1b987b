-- The walk over the members of a declaration.
use Rattle.std.specs.Prelude.{Bool, List, Option}
use Rattle.kt_base.specs.declared.refusals.Pos.{Pos}
use Rattle.kt_tree.specs.Declarations.{DeclarationTree, MemberTree}
use Rattle.kt_decls_rules.specs.Names.{Taken}
use Rattle.kt_decls_rules.specs.Headers.{members_from}
use Rattle.kt_decls_classes.specs.Faults.{AreJudged}
use Rattle.kt_decls_members.specs.Known.{IsTakenBy}

-- Where it stands before the rest of the members: which names are taken, and that the rest decides what all decide.
pub record IsMemberWalk (ds before : List DeclarationTree) (d : DeclarationTree) (earlier : List Taken)
    (all : List MemberTree) (taken : Taken → Bool) (rest : List MemberTree) : Type 0 where
  pub passed : List Taken
  pub names : IsTakenBy taken passed
  pub judged :
      (o : Option Pos) → AreJudged ds (members_from before d passed rest) o →
      AreJudged ds (members_from before d earlier all) o
