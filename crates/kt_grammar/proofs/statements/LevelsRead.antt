-- What may be held is read exactly, at each number of levels.
use Rattle.std.proofs.Common.{◌≡◌, ℕ, zero, suc, Bool, true, false, List, refl, sym, ap, subst, ◌∙◌}
use Rattle.kt_tree.specs.declared.tokens.Token.{Token}
use Rattle.kt_tree.specs.declared.tokens.TokenKind.{TokenKind}
use Rattle.kt_tree.specs.declared.tokens.Sign.TheVariants as sign
use Rattle.kt_tree.specs.Tokens.{kind_is_sign}
use Rattle.kt_tree.specs.Bodies.{ExpressionTree}
use Rattle.kt_grammar_parsers.specs.Parsers.{Parser, some_levels}
use Rattle.kt_grammar.specs.Words.{Empty}
use Rattle.kt_grammar.specs.Readers.{refuse}
use Rattle.kt_grammar.specs.Levels.{Phrases, none}
use Rattle.kt_grammar.specs.declared.context.Context.{Context}
use Rattle.kt_grammar.specs.Expressions.{
  IsPart,
  IsParameter,
  IsLambda,
  IsPrefixed,
  IsCast,
  IsMultiplicative,
  IsAdditive,
  IsInfix,
  IsTest,
  IsComparison,
  IsEquality,
  IsConjunction,
  IsDisjunction,
}
use Rattle.kt_grammar.specs.Statements.{IsStatement, IsBody, IsCondition, IsEntry, IsCatchRest, over, phrases}
use Rattle.kt_grammar.specs.ExpressionParser.{Parsers, prefix_parser, disjunction_parser}
use Rattle.kt_grammar.specs.StatementParser.{catch_parser, no_parsers, parsers_over, parsers}
use Rattle.kt_grammar.proofs.parts.Sequences.{Part, Anything, phrase_of}
use Rattle.kt_grammar.proofs.tokens.Begins.{kind_begins_expression, kind_begins_part, Begins, begins_no}
use Rattle.kt_grammar.proofs.parts.Below.{IsRead, IsExpressionRead, ReadsBelow, condition_levels}
use Rattle.kt_grammar.proofs.tokens.Distinct.{no_new_line}
use Rattle.kt_grammar.proofs.parts.Productions.{Production, as_read, from_read}
use Rattle.kt_grammar.proofs.expressions.OperatorsRead.{
  Operand,
  Operands,
  cast_part,
  multiplicative_part,
  additive_part,
  infix_part,
  test_part,
  comparison_part,
  equality_part,
  conjunction_part,
  disjunction_part,
}
use Rattle.kt_grammar.proofs.expressions.PrefixesRead.{prefixed, room_left}
use Rattle.kt_grammar.proofs.statements.BodiesRead.{statement_production, body_production}
use Rattle.kt_grammar.proofs.statements.EntriesRead.{condition_read, entry_read, catch_part}
use Rattle.kt_grammar.proofs.expressions.StringsRead.{string_part, string_part_begins}
use Rattle.kt_grammar.proofs.expressions.LambdasRead.{parameter_production, lambda_part, lambda_begins}
use Rattle.kt_grammar.proofs.expressions.PrimariesRead.{
  begins_primary,
  primary_wider,
  primary_no_minus,
  primary_no_bang,
  postfix_production,
}

-- ---- no level

nothing_read : {A : Type 0} (left : Bool) → left ≡ false → {Stop Halt : List Token → Type 0} {test : TokenKind → Bool} → IsRead {A = A} left refuse Empty Stop Halt test
nothing_read left gone = record {
  correct = λ h. absurd (let e : true ≡ false = sym h ∙ gone in cc);
  phrase = λ h. absurd (let e : true ≡ false = sym h ∙ gone in cc);
  begins = λ a u rest l. absurd l;
  refuses = λ h c. refl;
  none = λ h a u rest l. l;
}

no_condition : (subject : Bool) → condition_levels subject 0 ≡ false
no_condition true = refl
no_condition false = refl

no_levels_read : ReadsBelow no_parsers none
no_levels_read = record {
  same = refl;
  disjunction = λ at. nothing_read false refl;
  conjunction = λ at. nothing_read false refl;
  equality = λ at. nothing_read false refl;
  comparison = λ at. nothing_read false refl;
  test = λ at. nothing_read false refl;
  infixed = λ at. nothing_read false refl;
  additive = λ at. nothing_read false refl;
  multiplicative = λ at. nothing_read false refl;
  cast = λ at. nothing_read false refl;
  prefix = λ at. nothing_read false refl;
  lambda = λ at. nothing_read false refl;
  statement = λ at. nothing_read false refl;
  body = λ at. nothing_read false refl;
  string_part = λ at. nothing_read false refl;
  parameter = nothing_read false refl;
  entry = λ at subject. nothing_read false refl;
  condition = λ at subject. nothing_read (condition_levels subject 0) (no_condition subject);
  catch = λ at name h. absurd (let e : false ≡ true = h in cc);
}

-- ---- one level more

module _ (below : Parsers) (under : Phrases) (R : ReadsBelow below under) where
  abbrev room : ℕ
  room = suc below.levels

  operand : {p : Parser Token ExpressionTree} {L : ExpressionTree → List Token → List Token → Type 0} → IsExpressionRead (some_levels below.levels) p L kind_begins_expression → Operand below.levels p L
  operand O = record { read = λ a h. from_read O (room_left below.levels a h); no_line = begins_no kind_begins_expression _ (no_new_line kind_begins_expression refl) O.begins }

  operands : (at : Context) → Operands below.levels below under at
  operands at = record {
    conjunction = operand (R.conjunction at);
    equality = operand (R.equality at);
    comparison = operand (R.comparison at);
    test = operand (R.test at);
    infixed = operand (R.infixed at);
    additive = operand (R.additive at);
    multiplicative = operand (R.multiplicative at);
    cast = operand (R.cast at);
  }

  prefix_read : (at : Context) → Production kind_begins_expression (prefix_parser room below at) (IsPrefixed room under at)
  prefix_read at = prefixed room below under at (some_levels below.levels) (R.prefix at) begins_primary primary_no_minus primary_no_bang primary_wider (postfix_production below under R at)

  disjunction_read : (at : Context) → Production kind_begins_expression (disjunction_parser room below at) (IsDisjunction room under at)
  disjunction_read at = disjunction_part below.levels below under at (operands at) (prefix_read at)

  -- the parsers count levels as the phrases do
  at_level : {A : Type 0} {left : Bool} {p : Parser Token A} {Stop Halt : List Token → Type 0} {test : TokenKind → Bool} (L : ℕ → A → List Token → List Token → Type 0) → IsRead left p (L below.levels) Stop Halt test → IsRead left p (L under.levels) Stop Halt test
  at_level {left = left} {p = p} {Stop = Stop} {Halt = Halt} {test = test} L P = subst (λ (m : ℕ). IsRead left p (L m) Stop Halt test) R.same P

  expression : {p : Parser Token ExpressionTree} (L : ℕ → ExpressionTree → List Token → List Token → Type 0) → Production kind_begins_expression p (L below.levels) → IsExpressionRead true p (L under.levels) kind_begins_expression
  expression L P = at_level L (as_read P true refl)

  part_read : {A : Type 0} {p : Parser Token A} {L : A → List Token → List Token → Type 0} (test : TokenKind → Bool) → Part p L Anything (λ _. Anything) → Begins test L → IsRead true p L Anything Anything test
  part_read test P begins = record { correct = λ h. P.correct; phrase = λ h. phrase_of P; begins = begins; refuses = λ h. absurd (let e : true ≡ false = h in cc); none = λ h. absurd (let e : true ≡ false = h in cc) }

  pub one_more_read : ReadsBelow (parsers_over below) (over under)
  one_more_read = record {
    same = ap suc R.same;
    disjunction = λ at. expression (λ m. IsDisjunction (suc m) under at) (disjunction_read at);
    conjunction = λ at. expression (λ m. IsConjunction (suc m) under at) (conjunction_part below.levels below under at (operands at) (prefix_read at));
    equality = λ at. expression (λ m. IsEquality (suc m) under at) (equality_part below.levels below under at (operands at) (prefix_read at));
    comparison = λ at. expression (λ m. IsComparison (suc m) under at) (comparison_part below.levels below under at (operands at) (prefix_read at));
    test = λ at. expression (λ m. IsTest (suc m) under at) (test_part below.levels below under at (operands at) (prefix_read at));
    infixed = λ at. expression (λ m. IsInfix (suc m) under at) (infix_part below.levels below under at (operands at) (prefix_read at));
    additive = λ at. expression (λ m. IsAdditive (suc m) under at) (additive_part below.levels below under at (operands at) (prefix_read at));
    multiplicative = λ at. expression (λ m. IsMultiplicative (suc m) under at) (multiplicative_part below.levels below under at (operands at) (prefix_read at));
    cast = λ at. expression (λ m. IsCast (suc m) under at) (cast_part below.levels below under at (operands at) (prefix_read at));
    prefix = λ at. expression (λ m. IsPrefixed (suc m) under at) (prefix_read at);
    lambda = λ at. at_level (λ m. IsLambda (suc m) under at) (part_read (kind_is_sign sign.OpenBrace) (lambda_part below.levels below under R at) (lambda_begins below.levels below under R at));
    statement = λ at. at_level (λ m. IsStatement (suc m) under at) (as_read (statement_production below under R at (disjunction_read at)) true refl);
    body = λ at. at_level (λ m. IsBody (suc m) under at) (as_read (body_production below under R at (disjunction_read at)) true refl);
    string_part = λ at. at_level (λ m. IsPart m (under.disjunction at)) (part_read kind_begins_part (string_part below.levels (R.disjunction at)) (string_part_begins below.levels (R.disjunction at)));
    parameter = at_level (λ m. IsParameter (suc m)) (as_read (parameter_production below.levels) true refl);
    entry = λ at subject. at_level (λ m. IsEntry (suc m) under at subject) (entry_read below under R at subject);
    condition = λ at subject. at_level (λ m. IsCondition (suc m) under at subject) (condition_read below under R at subject);
    catch = λ at name h. subst (λ (m : ℕ). Part (catch_parser room below at name) (IsCatchRest (suc m) under at name) Anything (λ _. Anything)) R.same (catch_part below under R at name);
  }

-- ---- any number of levels

pub levels_read : (n : ℕ) → ReadsBelow (parsers n) (phrases n)
unfolding parsers phrases
levels_read zero = no_levels_read
levels_read (suc n) = one_more_read (parsers n) (phrases n) (levels_read n)
