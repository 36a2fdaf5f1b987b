-- Lambda literals and their parameters are read exactly.
use Rattle.std.proofs.Common.{◌≡◌, ℕ, suc, Bool, true, false, List, [], ◌∷◌, ◌++◌, None, refl, inl, inr}
use Rattle.kt_tree.specs.declared.tokens.Token.{Token}
use Rattle.kt_tree.specs.declared.tokens.Sign.TheVariants as sign
use Rattle.kt_tree.specs.Tokens.{same_sign, kind_is_sign, kind_is_identifier, is_sign, is_identifier, is_new_line}
use Rattle.kt_tree.specs.Bodies as e
use Rattle.kt_tree.specs.Bodies.{ExpressionTree, ParameterTree}
use Rattle.kt_grammar_parsers.specs.Parsers.{first, some_levels, pure, attempt_if}
use Rattle.kt_grammar_parsers.specs.Phrases.{IsNothing, IsToken, Seq, FirstOf, NotReads}
use Rattle.kt_grammar.specs.Terminals.{name_of}
use Rattle.kt_grammar.specs.Words.{IsLines}
use Rattle.kt_grammar.specs.Levels.{Phrases}
use Rattle.kt_grammar.specs.declared.context.Context.{Context}
use Rattle.kt_grammar.specs.Expressions.{IsParameter, IsBlockRest, IsLambdaHead, IsLambda, in_lambda}
use Rattle.kt_grammar.specs.ExpressionParser.{Parsers, parameter_of, lambda_head, lambda_rest, lambda_parser}
use Rattle.kt_grammar_parsers.proofs.Optional.{not_reads, token_begins}
use Rattle.kt_grammar.proofs.types.TypesRead.{a_sign, a_name}
use Rattle.kt_grammar.proofs.types.TypeParts.{type_part}
use Rattle.kt_grammar.proofs.parts.Sequences.{Part, Anything, Closes, then, made, any_part, where_part}
use Rattle.kt_grammar.proofs.tokens.Meanings.{closes_halts, halts_no}
use Rattle.kt_grammar.proofs.parts.Optionals.{maybe_part}
use Rattle.kt_grammar.proofs.parts.Productions.{Production}
use Rattle.kt_grammar.proofs.tokens.Begins.{first_no, Begins, begins_not_read, seq_begins_with}
use Rattle.kt_grammar.proofs.parts.Below.{Halts, ReadsBelow}
use Rattle.kt_grammar.proofs.parts.Choices.{same_part, attempt_if_part}
use Rattle.kt_grammar.proofs.tokens.Distinct.{no_new_line}
use Rattle.kt_grammar.proofs.tokens.Witnesses.{
  at_sign,
  sign_is,
  sign_then,
  sign_past_then,
  name_begins,
  name_part,
  sign_begins,
}
use Rattle.kt_grammar.proofs.parts.Firsts.{lines_part}
use Rattle.kt_grammar.proofs.tokens.BeforeArrow.{several_before_arrow, arrow_next}
use Rattle.kt_grammar.proofs.expressions.BlocksRead.{before_block_rest_part}

-- ---- a parameter

no_colon : (tail : List Token) → Halts tail → first (is_sign sign.Colon) tail ≡ false
unfolding same_sign
no_colon tail h = halts_no (kind_is_sign sign.Colon) refl refl refl refl refl refl refl tail h

-- ID (':' type)?
parameter_part : (n : ℕ) → Part (parameter_of (suc n)) (IsParameter (suc n)) Anything (λ _. Closes)
parameter_part n = then (name_part (λ tail. tt)) (λ x. any_part (then (maybe_part (is_sign sign.Colon) (a_sign sign.Colon) (sign_is sign.Colon) (type_part n) (λ tail h. no_colon tail (closes_halts tail h))) (λ t. made (record { name = name_of x; annotation = t }) (λ tail h. h))))

pub parameter_production : (n : ℕ) → Production kind_is_identifier (parameter_of (suc n)) (IsParameter (suc n))
parameter_production n = record {
  correct = (parameter_part n).correct;
  phrase = record {
    whole = record { name = name_of a_name; annotation = None };
    tokens = a_name ∷ [];
    phrase = λ tail h. record {
      value = a_name;
      front = a_name ∷ [];
      back = [];
      is = refl;
      phrase = record { passes = refl; one = refl };
      phrase' = record { value = None; front = []; back = []; is = refl; phrase = inr (record { value = refl; none = refl }, not_reads (is_sign sign.Colon) (IsToken (is_sign sign.Colon)) (token_begins (is_sign sign.Colon)) tail (no_colon tail h)); phrase' = record { value = refl; none = refl } };
    };
  };
  name = refl;
  begins = seq_begins_with kind_is_identifier (name_begins kind_is_identifier (λ name. refl));
}

-- ---- a lambda

module _ (n : ℕ) (parsers : Parsers) (phrases : Phrases) (R : ReadsBelow parsers phrases) (at : Context) where
  abbrev left : Bool
  left = some_levels parsers.levels

  dead : left ≡ false → (a : List ParameterTree) (u rest : List Token) → IsLambdaHead (suc n) phrases at a u rest → ⊥
  dead h a u rest s = R.parameter.none h s.phrase.value s.phrase.front (s.phrase.back ++ (s.back ++ rest)) s.phrase.phrase

  -- `}` follows
  abbrev CloseNext : List Token → Type 0
  CloseNext tail = first (is_sign sign.CloseBrace) tail ≡ true

  close_no_line : (tail : List Token) → CloseNext tail → first is_new_line tail ≡ false
  close_no_line tail h = first_no (is_sign sign.CloseBrace) is_new_line tail (no_new_line (kind_is_sign sign.CloseBrace) refl) h

  head_begins : Begins kind_is_identifier (IsLambdaHead (suc n) phrases at)
  head_begins = seq_begins_with kind_is_identifier (seq_begins_with kind_is_identifier R.parameter.begins)

  no_head : (tail : List Token) → CloseNext tail → NotReads (IsLambdaHead (suc n) phrases at) tail
  no_head tail h = begins_not_read kind_is_identifier head_begins tail (first_no (is_sign sign.CloseBrace) is_identifier tail (at_sign sign.CloseBrace kind_is_identifier false refl) h)

  -- lparam (',' n lparam)* n '->'
  head_part : left ≡ true → Part (lambda_head (suc n) parsers at) (IsLambdaHead (suc n) phrases at) Anything (λ _. Anything)
  head_part h = then (several_before_arrow R.parameter h refl) (λ ps. sign_past_then sign.Arrow arrow_next (λ _. made ps (λ tail h. tt)))

  -- the parameters, where a head stands
  heads_part : Part (attempt_if left (lambda_head (suc n) parsers at) (λ ps. pure ps) (pure [])) (FirstOf (IsLambdaHead (suc n) phrases at) IsNothing (IsNothing [])) CloseNext (λ _. CloseNext)
  heads_part = attempt_if_part left (lambda_head (suc n) parsers at) (λ ps. pure ps) (pure []) (λ h. where_part (head_part h) (λ ps. made ps (λ tail c. tt)) (made [] (λ tail c. c)) no_head)
      (λ h. same_part (λ b u rest m. inr (m, λ a v more is k. dead h a v more k)) (λ b u rest f. elim f [ inl s ↦ absurd (dead h s.value s.front (s.back ++ rest) s.phrase) | inr m ↦ m.0 ]) (made [] (λ tail c. c)))

  -- n (lparam (',' n lparam)* n '->')? sep? (stmt (sep stmt)*)? sep? '}'
  pub lambda_rest_part : {N : List Token → Type 0} (t : Token) → Part (lambda_rest (suc n) parsers at t) (Seq IsLines (λ _. Seq (FirstOf (IsLambdaHead (suc n) phrases at) IsNothing (IsNothing [])) (λ ps. Seq (IsBlockRest (phrases.statement in_lambda)) (λ b. IsNothing (e.lambda t.pos (e.lambda_of ps b)))))) CloseNext (λ _. N)
  lambda_rest_part t = then (lines_part close_no_line) (λ _. then heads_part (λ ps. then (before_block_rest_part (R.statement in_lambda) (λ tail. sign_is sign.CloseBrace)) (λ b. made (e.lambda t.pos (e.lambda_of ps b)) (λ tail h. tt))))

  -- '{' ..
  pub lambda_part : Part (lambda_parser (suc n) parsers at) (IsLambda (suc n) phrases at) Anything (λ _. Anything)
  lambda_part = sign_then sign.OpenBrace (λ tail. tt) (λ t. any_part (lambda_rest_part t))

  pub lambda_begins : Begins (kind_is_sign sign.OpenBrace) (IsLambda (suc n) phrases at)
  lambda_begins = seq_begins_with (kind_is_sign sign.OpenBrace) (sign_begins (kind_is_sign sign.OpenBrace) sign.OpenBrace (sign_is sign.OpenBrace))
