use Rattle.std.proofs.Common.{◌≡◌, ◌-◌, ◌⊎◌}
use Rattle.kt_tree.specs.declared.tokens.Token.{Token}
use Rattle.kt_grammar_parsers.specs.Parsers.{Parser, loop, repeat}
use Rattle.kt_parser_declarations.specs.StepTurns.{EachStepTurns}
use Rattle.kt_parser_declarations.proofs.lists.repeat_steps.Given as goal

-- the turns that are left give the result
abbrev pub invariant-loop-turn : goal.invariant-loop-turn
invariant-loop-turn g l = (t : g.S.Node.Tree → Parser Token (g.S.Node.Tree ⊎ g.B.Node.Tree)) → EachStepTurns g.S.Node.tree g.B.Node.tree t (goal.F-post g l.turn)
    → repeat t (g.S.Node.tree l.fn.start) l.fn.tokens ≡ loop t (l._turn-end - l._turn) (g.S.Node.tree l.state) l.tokens
