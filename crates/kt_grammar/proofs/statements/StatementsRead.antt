-- Statements are read exactly, over what has one level less.
use Rattle.std.proofs.Common.{
  ◌≡◌,
  ℕ,
  suc,
  ◌<◌,
  Bool,
  true,
  false,
  ◌&&◌,
  List,
  [],
  ◌∷◌,
  ◌++◌,
  length,
  Option,
  None,
  Some,
  refl,
  sym,
  ap,
  subst,
  ◌∙◌,
  inl,
  inr,
  ◌⊎◌,
}
use Rattle.std.specs.Prelude.{nat_lt}
use Rattle.kt_tree.specs.declared.tokens.Token.{Token}
use Rattle.kt_tree.specs.declared.tokens.TokenKind.{TokenKind}
use Rattle.kt_tree.specs.declared.tokens.TokenKind.TheVariants as kind
use Rattle.kt_tree.specs.declared.tokens.Sign.TheVariants as sign
use Rattle.kt_tree.specs.declared.tokens.Keyword.TheVariants as word
use Rattle.kt_tree.specs.declared.bodies.AssignmentOperator.{AssignmentOperator}
use Rattle.kt_tree.specs.declared.bodies.AssignmentOperator.TheVariants as assignment
use Rattle.kt_tree.specs.declared.bodies.StepOperator.{StepOperator}
use Rattle.kt_tree.specs.declared.bodies.StepOperator.TheVariants as step
use Rattle.kt_tree.specs.Tokens.{same_sign, kind_is_sign, is_sign, is_new_line, is_identifier}
use Rattle.kt_tree.specs.Bodies as e
use Rattle.kt_tree.specs.Bodies.{ExpressionTree, StatementTree, maybe_expression}
use Rattle.kt_tree.specs.Types.{TypeTree}
use Rattle.kt_tree.specs.Levels.{levels}
use Rattle.kt_grammar_parsers.specs.Parsers.{Parser, first, some_levels, ◌>>=◌, ◌>>◌, pure, on, attempt_if}
use Rattle.kt_grammar_parsers.specs.Phrases.{IsNothing, IsToken, Seq, Either, FirstOf, WhereRoom}
use Rattle.kt_grammar.specs.Words.{IsMeant, IsPast, Maybe}
use Rattle.kt_grammar.specs.Terminals.{assignment_of, step_of, variable_of, name_of}
use Rattle.kt_grammar.specs.Types.{IsType}
use Rattle.kt_grammar.specs.Levels.{Phrases, place, is_target}
use Rattle.kt_grammar.specs.declared.context.Context.{Context}
use Rattle.kt_grammar.specs.Expressions.{IsDisjunction}
use Rattle.kt_grammar.specs.Statements.{IsInitializer, IsLocal, IsSimple}
use Rattle.kt_grammar.specs.Readers.{meant, lines, on_if, maybe, type_parser}
use Rattle.kt_grammar.specs.ExpressionParser.{Parsers, disjunction_parser}
use Rattle.kt_grammar.specs.StatementParser.{initializer, local_rest, assigns, simple}
use Rattle.kt_grammar_parsers.proofs.Correct.{Correct, below, correct}
use Rattle.kt_grammar_parsers.proofs.Steps.{truth}
use Rattle.kt_grammar.proofs.types.TypesRead.{a_sign, a_name}
use Rattle.kt_grammar.proofs.tokens.Closing.{closed_no}
use Rattle.kt_grammar.proofs.parts.Sequences.{Part, Anything, Closes, then, any_part, made, one, room_part}
use Rattle.kt_grammar.proofs.parts.Choices.{past_then, room_stops, room_goes}
use Rattle.kt_grammar.proofs.tokens.Begins.{kind_begins_expression, begins_no}
use Rattle.kt_grammar.proofs.parts.Below.{Halts, ReadsBelow}
use Rattle.kt_grammar.proofs.tokens.Meanings.{closes_halts, meant_part, meant_absent, IsOperator}
use Rattle.kt_grammar.proofs.parts.Optionals.{on_room_part, maybe_part, ending}
use Rattle.kt_grammar.proofs.tokens.Distinct.{no_new_line}
use Rattle.kt_grammar.proofs.parts.Productions.{Production, as_part, begins_no_line, goes, from_read}
use Rattle.kt_grammar.proofs.expressions.PrefixesRead.{room_left}
use Rattle.kt_grammar.proofs.types.TypeParts.{type_part}

assignment_alone : IsOperator assignment_of
unfolding same_sign
assignment_alone = (λ at. refl, λ at. refl, λ at. refl, λ at. refl, λ at. refl, λ at. refl, λ at. refl, λ at. refl)

assignment_part : Part (meant assignment_of) (IsMeant assignment_of) Anything (λ _. Anything)
unfolding same_sign
assignment_part = meant_part assignment_of (a_sign sign.Assign) assignment.Set refl (λ tail h. tt)

step_alone : IsOperator step_of
unfolding same_sign
step_alone = (λ at. refl, λ at. refl, λ at. refl, λ at. refl, λ at. refl, λ at. refl, λ at. refl, λ at. refl)

step_part : Part (meant step_of) (IsMeant step_of) Anything (λ _. Anything)
unfolding same_sign
step_part = meant_part step_of (a_sign sign.Increment) step.Increment refl (λ tail h. tt)

no_assign : (tail : List Token) → Closes tail → first (is_sign sign.Assign) tail ≡ false
unfolding same_sign
no_assign = closed_no (kind_is_sign sign.Assign) refl refl refl refl refl refl

no_colon : (tail : List Token) → Closes tail → first (is_sign sign.Colon) tail ≡ false
unfolding same_sign
no_colon = closed_no (kind_is_sign sign.Colon) refl refl refl refl refl refl

is-assign : is_sign sign.Assign (a_sign sign.Assign) ≡ true
unfolding same_sign
is-assign = refl

is-colon : is_sign sign.Colon (a_sign sign.Colon) ≡ true
unfolding same_sign
is-colon = refl

second_true : (a b : Bool) → a && b ≡ true → b ≡ true
second_true true b h = h
second_true false b h = absurd (let i : false ≡ true = h in cc)

module _ (below : Parsers) (under : Phrases) (R : ReadsBelow below under) (at : Context) where
  -- an expression of one level less, where there is a level
  abbrev inner : some_levels below.levels ≡ true → Part (below.disjunction at) (under.disjunction at) Anything (λ _. Closes)
  inner h = from_read (R.disjunction at) h

  abbrev inner_no_line : (a : ExpressionTree) (u rest : List Token) → under.disjunction at a u rest → first is_new_line (u ++ rest) ≡ false
  inner_no_line = begins_no kind_begins_expression is_new_line (no_new_line kind_begins_expression refl) (R.disjunction at).begins

  -- ('=' n expr)?
  initial_part : Part (initializer (suc below.levels) below at) (WhereRoom (some_levels below.levels) (IsToken (is_sign sign.Assign)) (λ _. Seq (IsPast (under.disjunction at)) (λ a. IsNothing (Some a))) (IsNothing None)) Closes (λ _. Closes)
  initial_part = on_room_part (some_levels below.levels) (is_sign sign.Assign) (a_sign sign.Assign) is-assign (λ h t. past_then inner_no_line (inner h) (λ a. made (Some a) (λ tail c. c))) (made None (λ tail c. c)) no_assign

  initializer_part : Part (initializer (suc below.levels) below at) (IsInitializer (suc below.levels) under at) Closes (λ _. Closes)
  initializer_part = subst (λ (m : ℕ). Part (initializer (suc below.levels) below at) (WhereRoom (some_levels m) (IsToken (is_sign sign.Assign)) (λ _. Seq (IsPast (under.disjunction at)) (λ a. IsNothing (Some a))) (IsNothing None)) Closes (λ _. Closes)) R.same initial_part

  -- behind 'val' or 'var'
  pub local_part : (var : Token × Bool) → Part (local_rest (suc below.levels) below at var) (Seq (IsToken is_identifier) (λ name. Seq (Maybe (is_sign sign.Colon) (IsType (suc below.levels))) (λ t. Seq (IsInitializer (suc below.levels) under at) (λ a. IsNothing (e.local var.0.pos var.1 (name_of name) t (maybe_expression a)))))) Anything (λ _. Closes)
  local_part var = then (one is_identifier a_name refl (λ tail h. tt)) (λ name. any_part (then (maybe_part (is_sign sign.Colon) (a_sign sign.Colon) is-colon (type_part below.levels) no_colon) (λ t. then initializer_part (λ a. made (e.local var.0.pos var.1 (name_of name) t (maybe_expression a)) (λ tail h. h)))))

  -- an assignment, a step or an expression
  module _ (D : Production kind_begins_expression (disjunction_parser (suc below.levels) below at) (IsDisjunction (suc below.levels) under at)) where
    abbrev Stepped : ExpressionTree → StatementTree → List Token → List Token → Type 0
    Stepped a = WhereRoom (assigns (suc below.levels) below at a) (IsMeant step_of) (λ o. IsNothing (e.step (place a) a o.1)) (IsNothing (e.evaluate (place a) a))

    stepped_part : (a : ExpressionTree) → Part (attempt_if (assigns (suc below.levels) below at a) (meant step_of) (λ o. pure (e.step (place a) a o.1)) (pure (e.evaluate (place a) a))) (Stepped a) Closes (λ _. Closes)
    stepped_part a = room_part {D = Anything} (assigns (suc below.levels) below at a) step_part (λ h o. made (e.step (place a) a o.1) (λ tail c. tt)) (made (e.evaluate (place a) a) (λ tail c. c)) (λ tail h. meant_absent step_of step_alone tail (closes_halts tail h))

    stepped_stops : (a : ExpressionTree) (tail : List Token) → Halts tail → Stepped a (e.evaluate (place a) a) [] tail
    stepped_stops a tail h = room_stops (assigns (suc below.levels) below at a) (e.evaluate (place a) a) tail (meant_absent step_of step_alone tail h)

    pub simple_part : Production kind_begins_expression (simple (suc below.levels) below at) (IsSimple (suc below.levels) under at)
    simple_part = goes D
        (λ a. room_part {D = Anything} (assigns (suc below.levels) below at a) assignment_part (λ h o. past_then inner_no_line (inner (room_left below.levels a (second_true (is_target a) (nat_lt (levels a) (suc below.levels)) h))) (λ b. made (e.assign (place a) a o.1 b) (λ tail c. c)))
        (ending (e.evaluate (place a) a) (stepped_part a).correct (λ tail h. stepped_stops a tail (closes_halts tail h))) (λ tail h. meant_absent assignment_of assignment_alone tail (closes_halts tail h)))
        (λ a. e.evaluate (place a) a) (λ a tail h. room_goes (Stepped a) (assigns (suc below.levels) below at a) (e.evaluate (place a) a) tail (stepped_stops a tail h) (meant_absent assignment_of assignment_alone tail h))
