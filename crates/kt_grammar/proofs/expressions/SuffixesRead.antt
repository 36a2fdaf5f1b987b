-- What follows a primary is read exactly: calls, elements, members, `!!`.
use Rattle.std.proofs.Common.{
  not,
  ◌≡◌,
  ℕ,
  suc,
  ◌<◌,
  Bool,
  true,
  false,
  ◌||◌,
  List,
  [],
  ◌∷◌,
  ◌++◌,
  length,
  length-append,
  None,
  refl,
  ap,
  arith,
  inl,
  inr,
  ◌⊎◌,
}
use Rattle.kt_tree.specs.declared.tokens.Token.{Token}
use Rattle.kt_tree.specs.declared.tokens.TokenKind.{TokenKind}
use Rattle.kt_tree.specs.declared.tokens.TokenKind.TheVariants as kind
use Rattle.kt_tree.specs.declared.tokens.Sign.TheVariants as sign
use Rattle.kt_tree.specs.Tokens.{same_sign, is_sign, is_identifier, is_new_line, kind_is_sign}
use Rattle.kt_tree.specs.Types.{TypeTree}
use Rattle.kt_tree.specs.Bodies as e
use Rattle.kt_tree.specs.Bodies.{ExpressionTree}
use Rattle.kt_grammar_parsers.specs.Parsers.{first, some_levels, ◌>>◌, skip, repeat}
use Rattle.kt_grammar_parsers.specs.Phrases.{IsNothing, IsToken, IsAhead, Seq, NotReads, Loop, WhereNext, WhereRoom}
use Rattle.kt_grammar.specs.Terminals.{opens_arguments, means, nothing, member_of, name_of}
use Rattle.kt_grammar.specs.Words.{CommaList, MaybeCommaList, IsMeant, IsPast}
use Rattle.kt_grammar.specs.Levels.{Phrases, place, ends_in_name}
use Rattle.kt_base.specs.declared.refusals.Pos.{Pos}
use Rattle.kt_grammar.specs.declared.context.Context.{Context}
use Rattle.kt_grammar.specs.Types.{IsType}
use Rattle.kt_grammar.specs.Readers.{commas, maybe_commas, meant, type_parser}
use Rattle.kt_grammar.specs.Expressions.{
  IsArguments,
  IsCall,
  IsCallOf,
  IsPlainCall,
  IsElement,
  IsMember,
  IsTypeArgumentsOfCall,
  SuffixTurn,
}
use Rattle.kt_grammar.specs.Expressions as x
use Rattle.kt_grammar.specs.ExpressionParser.{
  Parsers,
  arguments_rest,
  call_parser,
  call_of,
  plain_call,
  element,
  member,
  type_arguments_of_call,
  suffix_turn,
}
use Rattle.kt_grammar_parsers.proofs.Steps.{Any}
use Rattle.kt_grammar_parsers.proofs.Forms.{comma_list_correct, comma_list_phrase}
use Rattle.kt_grammar.proofs.types.TypesRead.{TypeEnds, a_sign, greater_ends, types_correct}
use Rattle.kt_grammar.proofs.types.TypeLaws.{some_type}
use Rattle.kt_grammar.proofs.parts.Sequences.{Part, Anything, Closes, then, made, part_of, loop_part}
use Rattle.kt_grammar.proofs.tokens.Meanings.{closes_halts, halts_no, past_meant_eats, past_meant_part}
use Rattle.kt_grammar.proofs.tokens.Distinct.{no_sign, means_none}
use Rattle.kt_grammar.proofs.parts.Choices.{past_then, room_goes, room_stops}
use Rattle.kt_grammar.proofs.parts.Optionals.{on_room_before}
use Rattle.kt_grammar.proofs.levels.Room.{room_left}
use Rattle.kt_grammar_parsers.proofs.Optional.{not_reads, token_begins}
use Rattle.kt_grammar.proofs.tokens.Begins.{
  kind_begins_expression,
  of_kind,
  Begins,
  begins_eats,
  begins_not_read,
  first_yes,
  seq_begins_with,
  either_begins_with,
}
use Rattle.kt_grammar.proofs.parts.Below.{ReadsBelow, Halts}
use Rattle.kt_grammar.proofs.parts.Left.{read_part, not_ahead, next_left, commas_part, on_left}
use Rattle.kt_grammar.proofs.tokens.Witnesses.{
  sign_is,
  sign_then,
  close_then,
  closes_at,
  parenthesis_ends,
  bracket_ends,
  at_sign,
  sign_begins,
  begins_no_sign,
  name_part,
  name_no_line,
}
use Rattle.kt_grammar.proofs.parts.Firsts.{
  past_begins,
  meant_begins,
  ahead_part,
  room_before,
  room_eats,
  seq_eats,
  turn_eats_by,
}

parenthesis_no_comma : (t : Token) → is_sign sign.CloseParenthesis t ≡ true → is_sign sign.Comma t ≡ false
unfolding same_sign
parenthesis_no_comma t h = at_sign sign.CloseParenthesis (kind_is_sign sign.Comma) false refl t h

abbrev kind_begins_call : TokenKind → Bool
kind_begins_call (kind.Sign sign.OpenParenthesis) = true
kind_begins_call (kind.Sign sign.OpenBrace) = true
kind_begins_call _ = false

abbrev kind_begins_member : TokenKind → Bool
kind_begins_member kind.NewLine = true
kind_begins_member (kind.Sign sign.Dot) = true
kind_begins_member (kind.Sign sign.SafeDot) = true
kind_begins_member _ = false

abbrev kind_opens_arguments : TokenKind → Bool
kind_opens_arguments k = kind_is_sign sign.OpenParenthesis k || kind_is_sign sign.OpenBrace k

greater_no_comma : (t : Token) → is_sign sign.Greater t ≡ true → is_sign sign.Comma t ≡ false
unfolding same_sign
greater_no_comma t h = at_sign sign.Greater (kind_is_sign sign.Comma) false refl t h

no_member_at : (test : TokenKind → Bool) → test (kind.Sign sign.Dot) ≡ true → test (kind.Sign sign.SafeDot) ≡ true → (t : Token) → test t.kind ≡ false → member_of t ≡ None
no_member_at test dot safe t h = means_none (is_sign sign.Dot) false (means (is_sign sign.SafeDot) true nothing) t (no_sign (λ (k : TokenKind). not (test k)) sign.Dot (ap not dot) t (ap not h)) (means_none (is_sign sign.SafeDot) true nothing t (no_sign (λ (k : TokenKind). not (test k)) sign.SafeDot (ap not safe) t (ap not h)) refl)

module _ (parsers : Parsers) (phrases : Phrases) (R : ReadsBelow parsers phrases) (at : Context) where
  abbrev n : ℕ
  n = parsers.levels

  abbrev left : Bool
  left = some_levels n

  no_brace : (tail : List Token) → Halts tail → first (is_sign sign.OpenBrace) tail ≡ false
  unfolding same_sign
  no_brace tail h = halts_no (kind_is_sign sign.OpenBrace) refl refl refl refl refl refl refl tail h

  listed_part : Part (maybe_commas (is_sign sign.CloseParenthesis) (parsers.disjunction at)) (MaybeCommaList (is_sign sign.CloseParenthesis) (phrases.disjunction at)) Anything (λ _. Anything)
  listed_part = commas_part (is_sign sign.Comma) (is_sign sign.CloseParenthesis) (a_sign sign.Comma) (a_sign sign.CloseParenthesis) (sign_is sign.Comma) (sign_is sign.CloseParenthesis) parenthesis_no_comma
      (no_sign kind_begins_expression sign.CloseParenthesis refl) (closes_at sign.CloseParenthesis parenthesis_ends) closes_halts left (R.disjunction at) (λ tail. tt)

  -- args? ')' lambda?
  arguments_rest_part : Part (arguments_rest (suc n) parsers at) (Seq (MaybeCommaList (is_sign sign.CloseParenthesis) (phrases.disjunction at)) (λ es. WhereNext (is_sign sign.OpenBrace) (Seq (phrases.lambda at) (λ l. IsNothing (es ++ l ∷ []))) (IsNothing es))) Anything (λ _. Closes)
  arguments_rest_part = then listed_part (λ es. next_left left (R.lambda at) (λ tail s. s) (λ h l. made (es ++ l ∷ []) (λ tail s. tt)) (made es (λ tail s. tt)) (λ tail s. no_brace tail (closes_halts tail s)))

  -- '(' args? ')' lambda? | lambda
  pub call_part : {F : List Token → Type 0} → ((ts : List Token) → F (a_sign sign.OpenParenthesis ∷ ts)) → Part (call_parser (suc n) parsers at) (IsCall (suc n) phrases at) F (λ _. Closes)
  unfolding same_sign
  call_part asked = on_left (a_sign sign.OpenParenthesis) (sign_is sign.OpenParenthesis) left
      (λ h. (then (read_part {F = Anything} (R.lambda at) h (λ tail s. s) (λ ts s. tt)) (λ l. made (l ∷ [], place l) (λ tail s. tt))).correct)
      (λ h c. rw ((R.lambda at).refuses h c) refl) (λ h b u rest s. (R.lambda at).none h s.value s.front (s.back ++ rest) s.phrase)
      (λ t. then arguments_rest_part (λ es. made (es, t.pos) (λ tail s. s))) (begins_no_sign (kind_is_sign sign.OpenBrace) sign.OpenParenthesis refl (seq_begins_with (kind_is_sign sign.OpenBrace) (R.lambda at).begins)) asked

  call_begins : Begins kind_begins_call (IsCall (suc n) phrases at)
  call_begins = either_begins_with kind_begins_call (seq_begins_with kind_begins_call (sign_begins kind_begins_call sign.OpenParenthesis refl)) (seq_begins_with kind_begins_call (lambda_begins (R.lambda at).begins))
    where
      lambda_begins : {L : ExpressionTree → List Token → List Token → Type 0} → Begins (kind_is_sign sign.OpenBrace) L → Begins kind_begins_call L
      lambda_begins begins a u rest l = first_yes (is_sign sign.OpenBrace) (of_kind kind_begins_call) u (at_sign sign.OpenBrace kind_begins_call true refl) (begins a u rest l)

  -- '(' or '{' follows
  abbrev CallFollows : List Token → Type 0
  CallFollows tail = first opens_arguments tail ≡ true

  call_of_part : (a : ExpressionTree) (ts : List TypeTree × Pos) → Part (call_of (suc n) parsers at a ts) (IsCallOf (suc n) phrases at a ts) CallFollows (λ _. Closes)
  unfolding same_sign
  call_of_part a ts = then (call_part (λ rest. refl)) (λ es. made (inl (x.called (suc n) phrases at a ts.1 ts.0 es.0)) (λ tail h. h))

  plain_call_part : (a : ExpressionTree) → Part (plain_call (suc n) parsers at a) (IsPlainCall (suc n) phrases at a) CallFollows (λ _. Closes)
  unfolding same_sign
  plain_call_part a = then (call_part (λ rest. refl)) (λ es. made (inl (x.called (suc n) phrases at a es.1 [] es.0)) (λ tail h. h))

  call_eats : (a b : ExpressionTree) (u rest : List Token) → Seq (IsAhead opens_arguments) (λ _. IsPlainCall (suc n) phrases at a) (inl b) u rest → 0 < length u
  call_eats a b u rest s = omega (arith, ap length s.is, length-append s.front s.back, seq_eats (begins_eats kind_begins_call call_begins) (inl b) s.back rest s.phrase')

  -- ---- type arguments of a call

  types_part : Part (commas (is_sign sign.Greater) (type_parser (suc n))) (CommaList (is_sign sign.Greater) (IsType (suc n))) Anything (λ _. Anything)
  types_part = part_of (comma_list_correct (is_sign sign.Comma) (is_sign sign.Greater) (a_sign sign.Comma) (a_sign sign.Greater) (sign_is sign.Comma) (sign_is sign.Greater) greater_no_comma (type_parser (suc n)) (IsType (suc n)) TypeEnds (types_correct n) (some_type n) greater_ends Any)
      (comma_list_phrase (is_sign sign.Comma) (is_sign sign.Greater) (a_sign sign.Comma) (a_sign sign.Greater) (sign_is sign.Comma) (sign_is sign.Greater) greater_no_comma (type_parser (suc n)) (IsType (suc n)) TypeEnds (types_correct n) (some_type n) greater_ends Any)

  type_arguments_part : Part (type_arguments_of_call (suc n) parsers at) (IsTypeArgumentsOfCall (suc n) phrases at) Anything (λ _. CallFollows)
  type_arguments_part = sign_then sign.Less (λ tail. tt) (λ t. then types_part (λ ts. then (ahead_part opens_arguments (λ tail h. h) (λ tail h. tt)) (λ _. made (ts, t.pos) (λ tail h. h))))

  type_arguments_begin : Begins (kind_is_sign sign.Less) (IsTypeArgumentsOfCall (suc n) phrases at)
  type_arguments_begin = seq_begins_with (kind_is_sign sign.Less) (sign_begins (kind_is_sign sign.Less) sign.Less (sign_is sign.Less))

  -- ---- elements and members

  element_part : (a : ExpressionTree) → left ≡ true → Part (element (suc n) parsers at a) (IsElement (suc n) phrases at a) Anything (λ _. Closes)
  element_part a h = close_then sign.CloseBracket bracket_ends (read_part (R.disjunction at) h closes_halts (λ ts s. tt)) (λ i _. made (inl (e.index (place a) a i)) (λ tail h. tt))

  member_sign_part : Part (skip is_new_line >> meant member_of) (IsPast (IsMeant member_of)) Anything (λ _. Anything)
  unfolding same_sign
  member_sign_part = past_meant_part member_of (a_sign sign.Dot) false refl (λ at. refl)

  member_sign_begins : Begins kind_begins_member (IsPast (IsMeant member_of))
  member_sign_begins = past_begins kind_begins_member refl (meant_begins member_of kind_begins_member (no_member_at kind_begins_member refl refl))

  member_part : (a : ExpressionTree) (safe : Bool) → Part (member (suc n) parsers at a safe) (IsMember (suc n) phrases at a safe) Anything (λ _. Closes)
  member_part a safe = past_then {F' = Anything} name_no_line (name_part (λ tail. tt)) (λ x. made (inl (e.member (place a) a safe (name_of x))) (λ tail h. tt))

  -- ---- as many suffixes as follow

  no_type_arguments : (tail : List Token) → Halts tail → NotReads (IsTypeArgumentsOfCall (suc n) phrases at) tail
  unfolding same_sign
  no_type_arguments tail h = begins_not_read (kind_is_sign sign.Less) type_arguments_begin tail (halts_no (kind_is_sign sign.Less) refl refl refl refl refl refl refl tail h)

  no_arguments : (tail : List Token) → Halts tail → NotReads (IsAhead opens_arguments) tail
  unfolding same_sign
  no_arguments tail h = not_ahead opens_arguments tail (halts_no kind_opens_arguments refl refl refl refl refl refl refl tail h)

  no_bang : (tail : List Token) → Halts tail → first (is_sign sign.NotNull) tail ≡ false
  unfolding same_sign
  no_bang tail h = halts_no (kind_is_sign sign.NotNull) refl refl refl refl refl refl refl tail h

  no_bracket : (tail : List Token) → Halts tail → first (is_sign sign.OpenBracket) tail ≡ false
  unfolding same_sign
  no_bracket tail h = halts_no (kind_is_sign sign.OpenBracket) refl refl refl refl refl refl refl tail h

  no_member : (tail : List Token) → Halts tail → NotReads (IsPast (IsMeant member_of)) tail
  no_member tail h = begins_not_read kind_begins_member member_sign_begins tail (halts_no kind_begins_member refl refl refl refl refl refl refl tail h)

  abbrev Turn : ExpressionTree → ExpressionTree ⊎ ExpressionTree → List Token → List Token → Type 0
  Turn = SuffixTurn (suc n) phrases at

  abbrev more : ExpressionTree → Bool
  more = x.has_more (suc n) phrases at

  -- the alternatives, from the last to the first
  abbrev FromMember : ExpressionTree → ExpressionTree ⊎ ExpressionTree → List Token → List Token → Type 0
  FromMember a = WhereRoom (more a) (IsPast (IsMeant member_of)) (λ safe. IsMember (suc n) phrases at a safe.1) (IsNothing (inr a))

  abbrev FromElement : ExpressionTree → ExpressionTree ⊎ ExpressionTree → List Token → List Token → Type 0
  FromElement a = WhereRoom (more a) (IsToken (is_sign sign.OpenBracket)) (λ _. IsElement (suc n) phrases at a) (FromMember a)

  abbrev FromBang : ExpressionTree → ExpressionTree ⊎ ExpressionTree → List Token → List Token → Type 0
  FromBang a = WhereRoom (more a) (IsToken (is_sign sign.NotNull)) (λ _. IsNothing (inl (e.not_null (place a) a))) (FromElement a)

  abbrev FromCall : ExpressionTree → ExpressionTree ⊎ ExpressionTree → List Token → List Token → Type 0
  FromCall a = WhereRoom (x.has_call (suc n) phrases at a) (IsAhead opens_arguments) (λ _. IsPlainCall (suc n) phrases at a) (FromBang a)

  turn_part : (a : ExpressionTree) → Part (suffix_turn (suc n) parsers at a) (Turn a) Closes (λ _. Closes)
  turn_part a = room_before (ends_in_name a) type_arguments_part (λ h ts. call_of_part a ts)
      (room_before (x.has_call (suc n) phrases at a) (ahead_part {F = Anything} opens_arguments (λ tail h. h) (λ tail h. tt)) (λ h _. plain_call_part a)
      (on_room_before (more a) (is_sign sign.NotNull) (a_sign sign.NotNull) (sign_is sign.NotNull) (λ h _. made (inl (e.not_null (place a) a)) (λ tail h. tt))
      (on_room_before (more a) (is_sign sign.OpenBracket) (a_sign sign.OpenBracket) (sign_is sign.OpenBracket) (λ h _. element_part a (room_left n a h))
      (room_before (more a) member_sign_part (λ h safe. member_part a safe.1) (made (inr a) (λ tail h. h))
      (λ ts h. no_member ts (closes_halts ts h)))
      (λ ts h. no_bracket ts (closes_halts ts h)))
      (λ ts h. no_bang ts (closes_halts ts h)))
      (λ ts h. no_arguments ts (closes_halts ts h)))
      (λ ts h. no_type_arguments ts (closes_halts ts h))

  one_eats : {test : Token → Bool} (t : Token) (u rest : List Token) → IsToken test t u rest → 0 < length u
  one_eats t u rest l = omega (arith, ap length l.one)

  turn_eats : (a b : ExpressionTree) (u rest : List Token) → Turn a (inl b) u rest → 0 < length u
  turn_eats a b u rest t = room_eats (IsTypeArgumentsOfCall (suc n) phrases at) (IsCallOf (suc n) phrases at a) (FromCall a) (ends_in_name a) (inl b) u rest (begins_eats (kind_is_sign sign.Less) type_arguments_begin)
      (turn_eats_by (IsAhead opens_arguments) (λ _. IsPlainCall (suc n) phrases at a) (FromBang a) (x.has_call (suc n) phrases at a) (inl b) u rest (call_eats a b u rest)
      (room_eats (IsToken (is_sign sign.NotNull)) (λ _. IsNothing (inl (e.not_null (place a) a))) (FromElement a) (more a) (inl b) u rest one_eats
      (room_eats (IsToken (is_sign sign.OpenBracket)) (λ _. IsElement (suc n) phrases at a) (FromMember a) (more a) (inl b) u rest one_eats
      (room_eats (IsPast (IsMeant member_of)) (λ safe. IsMember (suc n) phrases at a safe.1) (IsNothing (inr a)) (more a) (inl b) u rest (past_meant_eats member_of) (λ m. absurd (let e : inl b ≡ inr a = m.value in cc)))))) t

  pub suffixes_end : (a : ExpressionTree) (tail : List Token) → Halts tail → Turn a (inr a) [] tail
  suffixes_end a tail h = room_goes (FromCall a) (ends_in_name a) (inr a) tail (room_goes (FromBang a) (x.has_call (suc n) phrases at a) (inr a) tail
      (room_goes (FromElement a) (more a) (inr a) tail (room_goes (FromMember a) (more a) (inr a) tail (room_stops (more a) (inr a) tail (no_member tail h))
      (not_reads (is_sign sign.OpenBracket) (IsToken (is_sign sign.OpenBracket)) (token_begins (is_sign sign.OpenBracket)) tail (no_bracket tail h)))
      (not_reads (is_sign sign.NotNull) (IsToken (is_sign sign.NotNull)) (token_begins (is_sign sign.NotNull)) tail (no_bang tail h))) (no_arguments tail h)) (no_type_arguments tail h)

  -- suffix*
  pub suffixes_part : (a : ExpressionTree) → Part (repeat (suffix_turn (suc n) parsers at) a) (Loop Turn a) Closes (λ _. Closes)
  suffixes_part a = loop_part (λ b. (turn_part b).correct) turn_eats (λ b. b) (λ b tail h. suffixes_end b tail (closes_halts tail h)) a
