use Rattle.std.proofs.Common.{◌≡◌, ◌-◌, ◌⊎◌}
use Rattle.kt_tree.specs.declared.tokens.Token.{Token}
use Rattle.kt_grammar_parsers.specs.Parsers.{Parser, loop, repeat}
use Rattle.kt_parser_steps.specs.Steps.{EachTurns}
use Rattle.kt_parser_steps.proofs.loops.repeat.Given as goal

-- the turns that are left give the result
abbrev pub invariant-loop-turn : goal.invariant-loop-turn
invariant-loop-turn g l = (t : g.S.Node.Tree → Parser Token (g.S.Node.Tree ⊎ g.B.Node.Tree)) → EachTurns g.S.Node.tree g.B.Node.tree t (goal.F-post g l.turn)
    → repeat t (g.S.Node.tree l.fn.start) l.fn.tokens ≡ loop t (l._turn-end - l._turn) (g.S.Node.tree l.state) l.tokens
