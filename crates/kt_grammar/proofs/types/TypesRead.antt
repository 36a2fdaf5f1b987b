-- Types are read exactly: the parts of which they are made.
use Rattle.std.proofs.Common.{
  arith,
  ◌≡◌,
  ℕ,
  zero,
  suc,
  Bool,
  true,
  false,
  List,
  [],
  ◌∷◌,
  ◌++◌,
  length,
  refl,
  ap,
  ◌∙◌,
  inl,
  inr,
}
use Rattle.kt_tree.specs.declared.tokens.Token.{Token}
use Rattle.kt_tree.specs.declared.tokens.TokenKind.TheVariants as kind
use Rattle.kt_tree.specs.declared.tokens.Sign.{Sign}
use Rattle.kt_tree.specs.declared.tokens.Sign.TheVariants as sign
use Rattle.kt_tree.specs.declared.tokens.SoftKeyword.TheVariants as soft
use Rattle.kt_tree.specs.Tokens.{same_sign, is_sign, is_identifier, is_soft_keyword, spelling}
use Rattle.kt_tree.specs.Types.{TypeTree, named, function, nullable, parenthesized, types_of}
use Rattle.kt_grammar_parsers.specs.Parsers.{some_levels, Parser, first, ◌>>=◌, ◌>>◌, pure, token, on, attempt, ahead}
use Rattle.kt_grammar_parsers.specs.Phrases.{
  CommaList,
  MaybeCommaList,
  IsNothing,
  IsToken,
  IsAhead,
  Seq,
  Either,
  FirstOf,
  NotReads,
}
use Rattle.kt_grammar.specs.Terminals.{name_of}
use Rattle.kt_grammar.specs.Types.{
  IsTypeArguments,
  IsNamedType,
  IsMaybeNullable,
  IsResult,
  IsSuspendType,
  IsBehindTypes,
  IsInParentheses,
  IsSuspend,
  IsTypeOver,
  IsType,
}
use Rattle.kt_grammar.specs.Readers.{
  commas,
  maybe_commas,
  type_arguments,
  named_type,
  maybe_nullable,
  result_type,
  suspend_type,
  behind_types,
  behind_parenthesis,
  type_over,
  type_parser,
}
use Rattle.kt_grammar_parsers.proofs.Correct.{Correct, below, correct, same_language}
use Rattle.kt_grammar.specs.Words.{Empty}
use Rattle.kt_grammar_parsers.proofs.Bind.{bind_correct}
use Rattle.kt_grammar_parsers.proofs.Steps.{Any, pure_correct, token_correct}
use Rattle.kt_grammar_parsers.proofs.On.{Phrase, on_correct}
use Rattle.kt_grammar_parsers.proofs.Attempt.{attempt_correct}
use Rattle.kt_grammar_parsers.proofs.Forms.{
  gives_correct,
  gives_phrase,
  ahead_correct,
  attempt_if_correct,
  comma_list_correct,
  comma_list_phrase,
  maybe_comma_list_correct,
}
use Rattle.kt_grammar_parsers.proofs.Optional.{not_reads, token_begins, seq_begins, where_token_correct}
use Rattle.kt_grammar.proofs.tokens.Apart.{signs_apart, identifier_no_sign, soft_no_sign}

abbrev pub a_sign : Sign → Token
a_sign s = record { kind = kind.Sign s; pos = record { line = 1; column = 1 } }

abbrev pub a_name : Token
a_name = record { kind = kind.Identifier (120 ∷ []); pos = record { line = 1; column = 1 } }

is-less : is_sign sign.Less (a_sign sign.Less) ≡ true
unfolding same_sign
is-less = refl

is-greater : is_sign sign.Greater (a_sign sign.Greater) ≡ true
unfolding same_sign
is-greater = refl

is-comma : is_sign sign.Comma (a_sign sign.Comma) ≡ true
unfolding same_sign
is-comma = refl

is-question : is_sign sign.Question (a_sign sign.Question) ≡ true
unfolding same_sign
is-question = refl

greater-comma : same_sign sign.Greater sign.Comma ≡ false
unfolding same_sign
greater-comma = refl

greater-less : same_sign sign.Greater sign.Less ≡ false
unfolding same_sign
greater-less = refl

greater-question : same_sign sign.Greater sign.Question ≡ false
unfolding same_sign
greater-question = refl

-- what may follow a type that was completed: nothing that goes on with it
pub record TypeEnds (t : TypeTree) (tail : List Token) : Type 0 where
  pub no_question : first (is_sign sign.Question) tail ≡ false
  pub no_less : first (is_sign sign.Less) tail ≡ false
  pub no_arrow : first (is_sign sign.Arrow) tail ≡ false

greater-arrow : same_sign sign.Greater sign.Arrow ≡ false
unfolding same_sign
greater-arrow = refl

first_apart : (s other : Sign) → same_sign s other ≡ false → (ts : List Token) → first (is_sign s) ts ≡ true → first (is_sign other) ts ≡ false
first_apart s other e [] h = refl
first_apart s other e (t ∷ ts) h = signs_apart s other e t h

-- `>` ends a type
pub greater_ends : (t : TypeTree) (tail : List Token) → first (is_sign sign.Greater) tail ≡ true → TypeEnds t tail
greater_ends t tail h = record { no_question = first_apart sign.Greater sign.Question greater-question tail h; no_less = first_apart sign.Greater sign.Less greater-less tail h; no_arrow = first_apart sign.Greater sign.Arrow greater-arrow tail h }

is-arrow : is_sign sign.Arrow (a_sign sign.Arrow) ≡ true
unfolding same_sign
is-arrow = refl

is-open : is_sign sign.OpenParenthesis (a_sign sign.OpenParenthesis) ≡ true
unfolding same_sign
is-open = refl

is-close : is_sign sign.CloseParenthesis (a_sign sign.CloseParenthesis) ≡ true
unfolding same_sign
is-close = refl

close-comma : same_sign sign.CloseParenthesis sign.Comma ≡ false
unfolding same_sign
close-comma = refl

close-less : same_sign sign.CloseParenthesis sign.Less ≡ false
unfolding same_sign
close-less = refl

close-question : same_sign sign.CloseParenthesis sign.Question ≡ false
unfolding same_sign
close-question = refl

close-arrow : same_sign sign.CloseParenthesis sign.Arrow ≡ false
unfolding same_sign
close-arrow = refl

-- `)` ends a type
pub close_ends : (t : TypeTree) (tail : List Token) → first (is_sign sign.CloseParenthesis) tail ≡ true → TypeEnds t tail
close_ends t tail h = record { no_question = first_apart sign.CloseParenthesis sign.Question close-question tail h; no_less = first_apart sign.CloseParenthesis sign.Less close-less tail h; no_arrow = first_apart sign.CloseParenthesis sign.Arrow close-arrow tail h }

open-close : same_sign sign.OpenParenthesis sign.CloseParenthesis ≡ false
unfolding same_sign
open-close = refl

abbrev a_suspend : Token
a_suspend = record { kind = kind.Identifier (spelling soft.Suspend); pos = record { line = 1; column = 1 } }

-- `(` follows
abbrev NextOpen : Unit {0} → List Token → Type 0
NextOpen a tail = first (is_sign sign.OpenParenthesis) tail ≡ true

-- a phrase that begins with an identifier begins with no sign
identifier_begins : (s : Sign) (a : Token) (u rest : List Token) → IsToken is_identifier a u rest → first (is_sign s) (u ++ rest) ≡ false
identifier_begins s a u rest l = ap (λ (z : List Token). first (is_sign s) (z ++ rest)) l.one ∙ identifier_no_sign s a l.passes

identifier_first : (s : Sign) (Part : TypeTree → List Token → List Token → Type 0) (t : TypeTree) (u rest : List Token) → IsNamedType Part t u rest → first (is_sign s) (u ++ rest) ≡ false
identifier_first s Part t u rest l = seq_begins (is_sign s) (IsToken is_identifier) (λ x. FirstOf (IsTypeArguments Part) (λ ts. IsNothing (named (name_of x) (types_of ts))) (IsNothing (named (name_of x) (types_of [])))) false (identifier_begins s) t u rest l

module _ (Part : TypeTree → List Token → List Token → Type 0) where
  pub no_arguments : (tail : List Token) → first (is_sign sign.Less) tail ≡ false → NotReads (IsTypeArguments Part) tail
  no_arguments tail h = not_reads (is_sign sign.Less) (IsTypeArguments Part) (λ ts u rest s. seq_begins (is_sign sign.Less) (IsToken (is_sign sign.Less)) (λ _. CommaList (is_sign sign.Comma) (is_sign sign.Greater) Part) true (λ a u rest l. token_begins (is_sign sign.Less) a u rest l) ts u rest s) tail h

  -- '?'?
  pub maybe_nullable_correct : (t : TypeTree) → Correct (maybe_nullable t) (IsMaybeNullable Part t) Any TypeEnds
  maybe_nullable_correct t = where_token_correct (is_sign sign.Question) (a_sign sign.Question) is-question (λ _. pure (nullable t)) (pure t) (λ _. IsNothing (nullable t)) (IsNothing t) TypeEnds (λ _. pure_correct (nullable t) Any TypeEnds) (pure_correct t Any TypeEnds)
      (λ q h. record { whole = nullable t; tokens = []; phrase = λ tail h. record { value = refl; none = refl } })

  maybe_nullable_phrase : (t : TypeTree) (tail : List Token) → TypeEnds t tail → IsMaybeNullable Part t t [] tail
  maybe_nullable_phrase t tail h = inr (record { value = refl; none = refl }, not_reads (is_sign sign.Question) (IsToken (is_sign sign.Question)) (λ a u rest l. token_begins (is_sign sign.Question) a u rest l) tail h.no_question)

module _ (part : Parser Token TypeTree) (Part : TypeTree → List Token → List Token → Type 0) (P : Correct part Part Any TypeEnds) (some : Phrase Part TypeEnds) where
  -- targs : '<' type (',' type)* '>'
  pub type_arguments_correct : Correct (type_arguments part) (IsTypeArguments Part) Any Any
  type_arguments_correct = bind_correct (token (is_sign sign.Less)) (λ _. commas (is_sign sign.Greater) part) (IsToken (is_sign sign.Less)) (λ _. CommaList (is_sign sign.Comma) (is_sign sign.Greater) Part) Any Any Any Any (token_correct (is_sign sign.Less) (a_sign sign.Less) is-less Any Any)
      (λ _. comma_list_correct (is_sign sign.Comma) (is_sign sign.Greater) (a_sign sign.Comma) (a_sign sign.Greater) is-comma is-greater (λ t h. signs_apart sign.Greater sign.Comma greater-comma t h) part Part TypeEnds P some greater_ends Any)
      (λ a b u rest l h. tt)
      (λ a u l. let s = comma_list_phrase (is_sign sign.Comma) (is_sign sign.Greater) (a_sign sign.Comma) (a_sign sign.Greater) is-comma is-greater (λ t h. signs_apart sign.Greater sign.Comma greater-comma t h) part Part TypeEnds P some greater_ends Any in
      record { whole = s.whole; tokens = s.tokens; phrase = λ tail h. (s.phrase tail tt, tt) })

  -- ID targs?
  pub named_type_correct : Correct (named_type true part) (IsNamedType Part) Any TypeEnds
  named_type_correct = bind_correct (token is_identifier) (λ x. attempt (type_arguments part) (λ ts. pure (named (name_of x) (types_of ts))) (pure (named (name_of x) (types_of [])))) (IsToken is_identifier)
      (λ x. FirstOf (IsTypeArguments Part) (λ ts. IsNothing (named (name_of x) (types_of ts))) (IsNothing (named (name_of x) (types_of [])))) Any Any Any TypeEnds (token_correct is_identifier a_name refl Any Any)
      (λ x. attempt_correct (type_arguments part) (λ ts. pure (named (name_of x) (types_of ts))) (pure (named (name_of x) (types_of []))) (IsTypeArguments Part) (λ ts. IsNothing (named (name_of x) (types_of ts))) (IsNothing (named (name_of x) (types_of []))) Any Any TypeEnds
      type_arguments_correct (λ ts. pure_correct (named (name_of x) (types_of ts)) Any TypeEnds) (pure_correct (named (name_of x) (types_of [])) Any TypeEnds)
      (λ ts u l. record { whole = named (name_of x) (types_of ts); tokens = []; phrase = λ tail h. (record { value = refl; none = refl }, tt) }))
      (λ a b u rest l h. tt)
      (λ x u l. record { whole = named (name_of x) (types_of []); tokens = []; phrase = λ tail h. (inr (record { value = refl; none = refl }, no_arguments Part tail h.no_less), tt) })

  -- ID targs? '?'?
  pub named_correct : Correct (named_type true part >>= maybe_nullable) (Seq (IsNamedType Part) (IsMaybeNullable Part)) Any TypeEnds
  named_correct = bind_correct (named_type true part) maybe_nullable (IsNamedType Part) (IsMaybeNullable Part) Any TypeEnds Any TypeEnds named_type_correct (maybe_nullable_correct Part) (λ a b u rest l h. tt)
      (λ t u l. record { whole = t; tokens = []; phrase = λ tail h. (maybe_nullable_phrase Part t tail h, h) })

  pub result_correct : (suspends : Bool) (ts : List TypeTree) → Correct (result_type suspends part ts) (IsResult Part suspends ts) Any TypeEnds
  result_correct suspends ts = gives_correct part (λ t. function suspends (types_of ts) t) Part TypeEnds TypeEnds P (λ a tail h. record { no_question = h.no_question; no_less = h.no_less; no_arrow = h.no_arrow })

  result_phrase : (suspends : Bool) (ts : List TypeTree) → Phrase (IsResult Part suspends ts) TypeEnds
  result_phrase suspends ts = gives_phrase (λ t. function suspends (types_of ts) t) Part TypeEnds TypeEnds (λ a tail h. record { no_question = h.no_question; no_less = h.no_less; no_arrow = h.no_arrow }) some

  -- '->' type
  arrow_correct : (suspends : Bool) (ts : List TypeTree) → Correct (token (is_sign sign.Arrow) >> result_type suspends part ts) (Seq (IsToken (is_sign sign.Arrow)) (λ _. IsResult Part suspends ts)) Any TypeEnds
  arrow_correct suspends ts = bind_correct (token (is_sign sign.Arrow)) (λ _. result_type suspends part ts) (IsToken (is_sign sign.Arrow)) (λ _. IsResult Part suspends ts) Any Any Any TypeEnds (token_correct (is_sign sign.Arrow) (a_sign sign.Arrow) is-arrow Any Any) (λ _. result_correct suspends ts) (λ a b u rest l h. tt)
      (λ a u l. let s = result_phrase suspends ts in record { whole = s.whole; tokens = s.tokens; phrase = λ tail h. (s.phrase tail h, tt) })

  arrow_phrase : (suspends : Bool) (ts : List TypeTree) → Phrase (Seq (IsToken (is_sign sign.Arrow)) (λ _. IsResult Part suspends ts)) TypeEnds
  arrow_phrase suspends ts = let s = result_phrase suspends ts in
      record { whole = s.whole; tokens = a_sign sign.Arrow ∷ s.tokens; phrase = λ tail h. record { value = a_sign sign.Arrow; front = a_sign sign.Arrow ∷ []; back = s.tokens; is = refl; phrase = record { passes = is-arrow; one = refl }; phrase' = s.phrase tail h } }

  -- '->' type | '?'?
  behind_correct : (ts : List TypeTree) → Correct (behind_types part ts) (IsBehindTypes Part ts) Any TypeEnds
  behind_correct [] = arrow_correct false []
  behind_correct (t ∷ []) = where_token_correct (is_sign sign.Arrow) (a_sign sign.Arrow) is-arrow (λ _. result_type false part (t ∷ [])) (maybe_nullable (parenthesized t)) (λ _. IsResult Part false (t ∷ [])) (IsMaybeNullable Part (parenthesized t)) TypeEnds
      (λ _. result_correct false (t ∷ [])) (maybe_nullable_correct Part (parenthesized t)) (λ _ h. result_phrase false (t ∷ []))
  behind_correct (t ∷ u ∷ ts) = arrow_correct false (t ∷ u ∷ ts)

  behind_phrase : (ts : List TypeTree) → Phrase (IsBehindTypes Part ts) TypeEnds
  behind_phrase [] = arrow_phrase false []
  behind_phrase (t ∷ []) = let s = arrow_phrase false (t ∷ []) in record { whole = s.whole; tokens = s.tokens; phrase = λ tail h. inl (s.phrase tail h) }
  behind_phrase (t ∷ u ∷ ts) = arrow_phrase false (t ∷ u ∷ ts)

  module _ (no_close : (t : TypeTree) (u rest : List Token) → Part t u rest → first (is_sign sign.CloseParenthesis) (u ++ rest) ≡ false) where
    listed : Correct (maybe_commas (is_sign sign.CloseParenthesis) part) (MaybeCommaList (is_sign sign.Comma) (is_sign sign.CloseParenthesis) Part) Any Any
    listed = maybe_comma_list_correct (is_sign sign.Comma) (is_sign sign.CloseParenthesis) (a_sign sign.Comma) (a_sign sign.CloseParenthesis) is-comma is-close (λ t h. signs_apart sign.CloseParenthesis sign.Comma close-comma t h) part Part TypeEnds P some close_ends no_close Any

    listed_phrase : Phrase (Seq (MaybeCommaList (is_sign sign.Comma) (is_sign sign.CloseParenthesis) Part) (λ ts. Seq (IsToken (is_sign sign.Arrow)) (λ _. IsResult Part true ts))) TypeEnds
    listed_phrase = let s = arrow_phrase true [] in
        record {
          whole = s.whole;
          tokens = a_sign sign.CloseParenthesis ∷ s.tokens;
          phrase = λ tail h. record {
            value = [];
            front = a_sign sign.CloseParenthesis ∷ [];
            back = s.tokens;
            is = refl;
            phrase = inl (record { value = a_sign sign.CloseParenthesis; front = a_sign sign.CloseParenthesis ∷ []; back = []; is = refl; phrase = record { passes = is-close; one = refl }; phrase' = record { value = refl; none = refl } });
            phrase' = s.phrase tail h;
          };
        }

    -- '(' .. ')' '->' type | '(' type ')' '?'?, behind its '('
    parentheses_correct : Correct (behind_parenthesis part) (Seq (MaybeCommaList (is_sign sign.Comma) (is_sign sign.CloseParenthesis) Part) (IsBehindTypes Part)) Any TypeEnds
    parentheses_correct = bind_correct (maybe_commas (is_sign sign.CloseParenthesis) part) (behind_types part) (MaybeCommaList (is_sign sign.Comma) (is_sign sign.CloseParenthesis) Part) (IsBehindTypes Part) Any Any Any TypeEnds listed behind_correct (λ a b u rest l h. tt)
        (λ ts u l. let s = behind_phrase ts in record { whole = s.whole; tokens = s.tokens; phrase = λ tail h. (s.phrase tail h, tt) })

    parentheses_phrase : Phrase (Seq (MaybeCommaList (is_sign sign.Comma) (is_sign sign.CloseParenthesis) Part) (IsBehindTypes Part)) TypeEnds
    parentheses_phrase = let s = behind_phrase [] in
        record {
          whole = s.whole;
          tokens = a_sign sign.CloseParenthesis ∷ s.tokens;
          phrase = λ tail h. record {
            value = [];
            front = a_sign sign.CloseParenthesis ∷ [];
            back = s.tokens;
            is = refl;
            phrase = inl (record { value = a_sign sign.CloseParenthesis; front = a_sign sign.CloseParenthesis ∷ []; back = []; is = refl; phrase = record { passes = is-close; one = refl }; phrase' = record { value = refl; none = refl } });
            phrase' = s.phrase tail h;
          };
        }

    -- '(' .. | ID targs? '?'?
    plain_correct : Correct (on (is_sign sign.OpenParenthesis) (λ _. behind_parenthesis part) (named_type true part >>= maybe_nullable)) (Either (IsInParentheses Part) (Seq (IsNamedType Part) (IsMaybeNullable Part))) Any TypeEnds
    plain_correct = on_correct (is_sign sign.OpenParenthesis) (a_sign sign.OpenParenthesis) is-open (λ _. behind_parenthesis part) (named_type true part >>= maybe_nullable) (λ _. Seq (MaybeCommaList (is_sign sign.Comma) (is_sign sign.CloseParenthesis) Part) (IsBehindTypes Part)) (Seq (IsNamedType Part) (IsMaybeNullable Part)) Any TypeEnds
        (λ _. parentheses_correct) named_correct (λ _ h. parentheses_phrase)
        (λ b u rest l g. seq_begins (is_sign sign.OpenParenthesis) (IsNamedType Part) (IsMaybeNullable Part) false (λ a v more m. identifier_first sign.OpenParenthesis Part a v more m) b u rest l)

    -- '(' types ')' '->' type
    suspend_correct : Correct (suspend_type part) (IsSuspendType Part) Any TypeEnds
    suspend_correct = bind_correct (token (is_sign sign.OpenParenthesis)) (λ _. maybe_commas (is_sign sign.CloseParenthesis) part >>= (λ ts. token (is_sign sign.Arrow) >> result_type true part ts)) (IsToken (is_sign sign.OpenParenthesis)) (λ _. Seq (MaybeCommaList (is_sign sign.Comma) (is_sign sign.CloseParenthesis) Part) (λ ts. Seq (IsToken (is_sign sign.Arrow)) (λ _. IsResult Part true ts))) Any Any Any TypeEnds
        (token_correct (is_sign sign.OpenParenthesis) (a_sign sign.OpenParenthesis) is-open Any Any)
        (λ _. bind_correct (maybe_commas (is_sign sign.CloseParenthesis) part) (λ ts. token (is_sign sign.Arrow) >> result_type true part ts) (MaybeCommaList (is_sign sign.Comma) (is_sign sign.CloseParenthesis) Part) (λ ts. Seq (IsToken (is_sign sign.Arrow)) (λ _. IsResult Part true ts)) Any Any Any TypeEnds listed (arrow_correct true) (λ a b u rest l h. tt)
        (λ ts u l. let s = arrow_phrase true ts in record { whole = s.whole; tokens = s.tokens; phrase = λ tail h. (s.phrase tail h, tt) }))
        (λ a b u rest l h. tt)
        (λ a u l. let s = listed_phrase in record { whole = s.whole; tokens = s.tokens; phrase = λ tail h. (s.phrase tail h, tt) })

    suspend_head_correct : Correct (token (is_soft_keyword soft.Suspend) >> ahead (is_sign sign.OpenParenthesis)) (IsSuspend Part) Any NextOpen
    suspend_head_correct = bind_correct (token (is_soft_keyword soft.Suspend)) (λ _. ahead (is_sign sign.OpenParenthesis)) (IsToken (is_soft_keyword soft.Suspend)) (λ _. IsAhead (is_sign sign.OpenParenthesis)) Any Any Any NextOpen
        (token_correct (is_soft_keyword soft.Suspend) a_suspend refl Any Any) (λ _. ahead_correct (is_sign sign.OpenParenthesis) Any NextOpen (λ tail h. h)) (λ a b u rest l h. tt)
        (λ a u l. record { whole = tt; tokens = []; phrase = λ tail h. (record { none = refl; next = h }, tt) })

    -- types over types of at least one level
    pub deep_correct : Correct (type_over true part) (IsTypeOver Part true) Any TypeEnds
    deep_correct = attempt_if_correct true (token (is_soft_keyword soft.Suspend) >> ahead (is_sign sign.OpenParenthesis)) (λ _. suspend_type part) (on (is_sign sign.OpenParenthesis) (λ _. behind_parenthesis part) (named_type true part >>= maybe_nullable))
        (IsSuspend Part) (λ _. IsSuspendType Part) (Either (IsInParentheses Part) (Seq (IsNamedType Part) (IsMaybeNullable Part))) Any TypeEnds
        (λ h. attempt_correct (token (is_soft_keyword soft.Suspend) >> ahead (is_sign sign.OpenParenthesis)) (λ _. suspend_type part) (on (is_sign sign.OpenParenthesis) (λ _. behind_parenthesis part) (named_type true part >>= maybe_nullable))
        (IsSuspend Part) (λ _. IsSuspendType Part) (Either (IsInParentheses Part) (Seq (IsNamedType Part) (IsMaybeNullable Part))) NextOpen Any TypeEnds suspend_head_correct (λ _. suspend_correct) plain_correct
        (λ a u l. let s = listed_phrase in record {
          whole = s.whole;
          tokens = a_sign sign.OpenParenthesis ∷ s.tokens;
          phrase = λ tail h.
              (record { value = a_sign sign.OpenParenthesis; front = a_sign sign.OpenParenthesis ∷ []; back = s.tokens; is = refl; phrase = record { passes = is-open; one = refl }; phrase' = s.phrase tail h }, is-open);
        }))
        plain_correct

-- ---- a type begins with no `)`, and there is one

module _ (Part : TypeTree → List Token → List Token → Type 0) where
  plain_no_close : (t : TypeTree) (u rest : List Token) → Either (IsInParentheses Part) (Seq (IsNamedType Part) (IsMaybeNullable Part)) t u rest → first (is_sign sign.CloseParenthesis) (u ++ rest) ≡ false
  plain_no_close t u rest (inl s) = seq_begins (is_sign sign.CloseParenthesis) (IsToken (is_sign sign.OpenParenthesis)) (λ _. Seq (MaybeCommaList (is_sign sign.Comma) (is_sign sign.CloseParenthesis) Part) (IsBehindTypes Part)) false
      (λ a v more l. ap (λ (z : List Token). first (is_sign sign.CloseParenthesis) (z ++ more)) l.one ∙ signs_apart sign.OpenParenthesis sign.CloseParenthesis open-close a l.passes) t u rest s
  plain_no_close t u rest (inr s) = seq_begins (is_sign sign.CloseParenthesis) (IsNamedType Part) (IsMaybeNullable Part) false (identifier_first sign.CloseParenthesis Part) t u rest s

  suspend_no_close : (t : TypeTree) (u rest : List Token) → Seq (IsSuspend Part) (λ _. IsSuspendType Part) t u rest → first (is_sign sign.CloseParenthesis) (u ++ rest) ≡ false
  suspend_no_close t u rest s = seq_begins (is_sign sign.CloseParenthesis) (IsSuspend Part) (λ _. IsSuspendType Part) false
      (λ a v more m. seq_begins (is_sign sign.CloseParenthesis) (IsToken (is_soft_keyword soft.Suspend)) (λ _. IsAhead (is_sign sign.OpenParenthesis)) false
      (λ b w last l. ap (λ (z : List Token). first (is_sign sign.CloseParenthesis) (z ++ last)) l.one ∙ soft_no_sign soft.Suspend sign.CloseParenthesis b l.passes) a v more m) t u rest s

  pub no_close_of : (deep : Bool) (t : TypeTree) (u rest : List Token) → IsTypeOver Part deep t u rest → first (is_sign sign.CloseParenthesis) (u ++ rest) ≡ false
  no_close_of deep t u rest (inl x) = elim x.1 [ inl s ↦ suspend_no_close t u rest s | inr m ↦ plain_no_close t u rest m.0 ]
  no_close_of deep t u rest (inr x) = plain_no_close t u rest x.1

  pub a_type : TypeTree
  a_type = named (120 ∷ []) (types_of [])

  name_is_type : (tail : List Token) → first (is_sign sign.Less) tail ≡ false → first (is_sign sign.Question) tail ≡ false → Seq (IsNamedType Part) (IsMaybeNullable Part) a_type (a_name ∷ []) tail
  unfolding a_type
  name_is_type tail less question = record {
    value = named (120 ∷ []) (types_of []);
    front = a_name ∷ [];
    back = [];
    is = refl;
    phrase = record { value = a_name; front = a_name ∷ []; back = []; is = refl; phrase = record { passes = refl; one = refl }; phrase' = inr (record { value = refl; none = refl }, no_arguments Part tail less) };
    phrase' = inr (record { value = refl; none = refl }, not_reads (is_sign sign.Question) (IsToken (is_sign sign.Question)) (λ a u rest l. token_begins (is_sign sign.Question) a u rest l) tail question);
  }

  no_suspend : (tail : List Token) → NotReads (IsSuspend Part) (a_name ∷ tail)
  no_suspend tail = not_reads (is_soft_keyword soft.Suspend) (IsSuspend Part) (λ a u rest s. seq_begins (is_soft_keyword soft.Suspend) (IsToken (is_soft_keyword soft.Suspend)) (λ _. IsAhead (is_sign sign.OpenParenthesis)) true (token_begins (is_soft_keyword soft.Suspend)) a u rest s) (a_name ∷ tail) refl

  -- a name is a type also where `->` follows
  pub name_type : (deep : Bool) (tail : List Token) → first (is_sign sign.Less) tail ≡ false → first (is_sign sign.Question) tail ≡ false → IsTypeOver Part deep a_type (a_name ∷ []) tail
  name_type true tail less question = inl (refl, inr (inr (name_is_type tail less question), no_suspend tail))
  name_type false tail less question = inr (refl, inr (name_is_type tail less question))

  pub type_phrase : (deep : Bool) → Phrase (IsTypeOver Part deep) TypeEnds
  type_phrase deep = record { whole = a_type; tokens = a_name ∷ []; phrase = λ tail h. name_type deep tail h.no_less h.no_question }

-- ---- types of one level

leaf : Parser Token TypeTree
leaf = (token is_identifier >>= (λ x. pure (named (name_of x) (types_of [])))) >>= maybe_nullable

abbrev IsLeaf : TypeTree → List Token → List Token → Type 0
IsLeaf = Seq (Seq (IsToken is_identifier) (λ x. IsNothing (named (name_of x) (types_of [])))) (IsMaybeNullable Empty)

leaf_correct : Correct leaf IsLeaf Any TypeEnds
unfolding leaf
leaf_correct = bind_correct (token is_identifier >>= (λ x. pure (named (name_of x) (types_of [])))) maybe_nullable (Seq (IsToken is_identifier) (λ x. IsNothing (named (name_of x) (types_of [])))) (IsMaybeNullable Empty) Any TypeEnds Any TypeEnds
    (gives_correct (token is_identifier) (λ x. named (name_of x) (types_of [])) (IsToken is_identifier) Any TypeEnds (token_correct is_identifier a_name refl Any Any) (λ a tail h. tt)) (maybe_nullable_correct Empty) (λ a b u rest l h. tt)
    (λ t u l. record { whole = t; tokens = []; phrase = λ tail h. (maybe_nullable_phrase Empty t tail h, h) })

no_empty_arguments : (ts : List Token) → NotReads (IsTypeArguments Empty) ts
no_empty_arguments ts a u rest is s = s.phrase'.phrase

named_leaf : (t : TypeTree) (u rest : List Token) → Seq (IsToken is_identifier) (λ x. IsNothing (named (name_of x) (types_of []))) t u rest → IsNamedType Empty t u rest
named_leaf t u rest s = record { value = s.value; front = s.front; back = s.back; is = s.is; phrase = s.phrase; phrase' = inr (s.phrase', no_empty_arguments (s.back ++ rest)) }

leaf_named : (t : TypeTree) (u rest : List Token) → IsNamedType Empty t u rest → Seq (IsToken is_identifier) (λ x. IsNothing (named (name_of x) (types_of []))) t u rest
leaf_named t u rest s = record { value = s.value; front = s.front; back = s.back; is = s.is; phrase = s.phrase; phrase' = elim s.phrase' [ inl q ↦ absurd q.phrase.phrase'.phrase | inr m ↦ m.0 ] }

no_result : (ts : List TypeTree) (t : TypeTree) (u rest : List Token) → ts ≡ [] → IsBehindTypes Empty ts t u rest → ⊥
no_result [] t u rest e s = s.phrase'.phrase
no_result (x ∷ []) t u rest e s = absurd (omega (arith, ap length e))
no_result (x ∷ y ∷ ts) t u rest e s = s.phrase'.phrase

no_parentheses : (t : TypeTree) (u rest : List Token) → IsInParentheses Empty t u rest → ⊥
no_parentheses t u rest s = elim s.phrase'.phrase [ inl q ↦ no_result s.phrase'.value t s.phrase'.back rest q.phrase'.value s.phrase'.phrase' | inr q ↦ q.phrase ]

leaf_is_type : (t : TypeTree) (u rest : List Token) → IsLeaf t u rest → IsTypeOver Empty false t u rest
leaf_is_type t u rest s = inr (refl, inr (record { value = s.value; front = s.front; back = s.back; is = s.is; phrase = named_leaf s.value s.front (s.back ++ rest) s.phrase; phrase' = s.phrase' }))

type_is_leaf : (t : TypeTree) (u rest : List Token) → IsTypeOver Empty false t u rest → IsLeaf t u rest
type_is_leaf t u rest (inl x) = absurd (let e : false ≡ true = x.0 in cc)
type_is_leaf t u rest (inr x) = elim x.1 [
  | inl s ↦ absurd (no_parentheses t u rest s)
  | inr s ↦ record { value = s.value; front = s.front; back = s.back; is = s.is; phrase = leaf_named s.value s.front (s.back ++ rest) s.phrase; phrase' = s.phrase' }
]

-- ---- types of any number of levels

pub types_correct : (n : ℕ) → Correct (type_parser (suc n)) (IsType (suc n)) Any TypeEnds
unfolding type_parser IsType leaf
types_correct zero = correct leaf (IsTypeOver Empty false) Any TypeEnds (λ m. same_language m leaf IsLeaf (IsTypeOver Empty false) Any Any TypeEnds TypeEnds leaf_is_type (λ a u rest l g. type_is_leaf a u rest l) (λ a rest g. g) (λ a rest h. h) (below m leaf IsLeaf Any TypeEnds leaf_correct))
types_correct (suc n) = deep_correct (type_parser (suc n)) (IsType (suc n)) (types_correct n) (type_phrase (IsType n) (some_levels n)) (no_close_of (IsType n) (some_levels n))
