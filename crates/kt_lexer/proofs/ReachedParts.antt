-- Literals, comments and signs at the front of a text are found, or something longer is.
use Rattle.std.proofs.Common.{
  ◌≡◌,
  ℕ,
  zero,
  suc,
  ◌+◌,
  ◌-◌,
  ◌<◌,
  ◌≤◌,
  Bool,
  true,
  false,
  cond,
  ◌&&◌,
  not,
  inl,
  inr,
  List,
  [],
  ◌∷◌,
  ◌++◌,
  Option,
  None,
  Some,
  length,
  drop,
  refl,
  sym,
  ap,
  subst,
  ◌∙◌,
  arith,
}
use Rattle.std.specs.Prelude.{◌==◌}
use Rattle.std.specs.Option.{option_map}
use Rattle.std.proofs.lemmas.Bool.{ne_eqb}
use Rattle.std.proofs.lemmas.List.{append_assoc}
use Rattle.kt_tree.specs.declared.tokens.Sign.{Sign}
use Rattle.kt_tree.specs.declared.tokens.Sign.TheVariants as sign
use Rattle.kt_tree.specs.declared.tokens.TokenKind.TheVariants as kind
use Rattle.kt_lexer.specs.declared.shapes.Shape.TheVariants as shape
use Rattle.kt_lexer.specs.Lexemes as lexemes
use Rattle.kt_lexer.specs.Lexemes.{
  first,
  begins,
  AllPass,
  is_plain,
  is_hexadecimal,
  is_word,
  IsSimpleEscape,
  IsEscape,
  simple,
  by_digits,
  IsCommentRest,
  closed,
  nested,
  more,
  AtLineEnd,
  IsToLineEnd,
  here,
  there,
  sign_text,
  may_follow,
}
use Rattle.kt_lexer.specs.Texts.{of_kind, blank}
use Rattle.kt_lexer.specs.Scanning.{
  Found,
  simple_escape,
  four_digits,
  escape_at,
  escaped_character,
  character_at,
  at_line_end,
  line_rest,
  opens_comment,
  closes_comment,
  comment_rest,
  blank_before,
  double_sign,
  single_sign,
  double_or,
  sign_at,
  slash_at,
  behind_is,
  exclamation_at,
  word_at,
  ordinary_at,
}
use Rattle.kt_lexer.proofs.Cases.{at}
use Rattle.kt_lexer.proofs.FoundComments.{line_end_is, line_end_test, comment_nonempty}
use Rattle.kt_lexer.proofs.Reached.{Reaches}

-- ---- escapes and characters

simple_known : {c unit : ℕ} → IsSimpleEscape c unit → simple_escape c ≡ Some unit
unfolding simple_escape
simple_known lexemes.tab = refl
simple_known lexemes.backspace = refl
simple_known lexemes.line_feed = refl
simple_known lexemes.carriage_return = refl
simple_known lexemes.quote = refl
simple_known lexemes.double_quote = refl
simple_known lexemes.backslash = refl
simple_known lexemes.dollar = refl

simple_no_u : {c unit : ℕ} → IsSimpleEscape c unit → (c == 117) ≡ false
simple_no_u lexemes.tab = refl
simple_no_u lexemes.backspace = refl
simple_no_u lexemes.line_feed = refl
simple_no_u lexemes.carriage_return = refl
simple_no_u lexemes.quote = refl
simple_no_u lexemes.double_quote = refl
simple_no_u lexemes.backslash = refl
simple_no_u lexemes.dollar = refl

-- an escape begins with `\`, and is found behind it
abbrev EscapeReached : List ℕ → ℕ → Type 0
EscapeReached u unit = (v : List ℕ) × (u ≡ 92 ∷ v) × ((rest : List ℕ) → escape_at (v ++ rest) ≡ Some (unit, rest))

pub escape_reached : {u : List ℕ} {unit : ℕ} → IsEscape u unit → EscapeReached u unit
unfolding escape_at four_digits
escape_reached (simple {c} {unit} e) = (c ∷ [], refl, λ rest. rw (simple_no_u e, simple_known e) refl)
escape_reached (by_digits a b c d h) = (117 ∷ a ∷ b ∷ c ∷ d ∷ [], refl, λ rest. rw (h.0, h.1.0, h.1.1.0, h.1.1.1.0) refl)

pub plain_reached : (c : ℕ) (rest : List ℕ) → is_plain c ≡ true → Reaches (39 ∷ c ∷ 39 ∷ []) rest (of_kind (kind.Character c)) (ordinary_at (39 ∷ c ∷ 39 ∷ rest))
unfolding ordinary_at character_at
plain_reached c rest plain =
    let found : character_at (c ∷ 39 ∷ rest) ≡ Some (shape.Character c, rest) = rw plain refl in
    subst (Reaches (39 ∷ c ∷ 39 ∷ []) rest (of_kind (kind.Character c))) (sym found) (inl (refl, refl))

escaped_is : (v rest : List ℕ) (unit : ℕ) → ((rest : List ℕ) → escape_at (v ++ rest) ≡ Some (unit, rest)) → character_at (92 ∷ (v ++ 39 ∷ []) ++ rest) ≡ Some (shape.Character unit, rest)
unfolding character_at
escaped_is v rest unit found =
    let text : (v ++ 39 ∷ []) ++ rest ≡ v ++ 39 ∷ rest = append_assoc v (39 ∷ []) rest in
    ap (λ l. escaped_character (escape_at l)) text ∙ ap escaped_character (found (39 ∷ rest))

pub escaped_reached : (u rest : List ℕ) (unit : ℕ) → IsEscape u unit → Reaches (39 ∷ (u ++ 39 ∷ [])) rest (of_kind (kind.Character unit)) (ordinary_at (39 ∷ (u ++ 39 ∷ []) ++ rest))
unfolding ordinary_at
escaped_reached u rest unit e =
    let found = escape_reached e in
    let is : character_at ((u ++ 39 ∷ []) ++ rest) ≡ Some (shape.Character unit, rest) = ap (λ l. character_at ((l ++ 39 ∷ []) ++ rest)) found.1 ∙ escaped_is found.0 rest unit found.2 in
    subst (Reaches (39 ∷ (u ++ 39 ∷ [])) rest (of_kind (kind.Character unit))) (sym is) (inl (refl, refl))

-- ---- comments

line_rest_here : (rest : List ℕ) → AtLineEnd rest → line_rest rest ≡ rest
line_rest_here [] ends = refl
line_rest_here (c ∷ cs) ends = let is : at_line_end c cs ≡ true = line_end_test ends in rw is refl

line_rest_there : (c : ℕ) (cs : List ℕ) → (AtLineEnd (c ∷ cs) → ⊥) → line_rest (c ∷ cs) ≡ line_rest cs
line_rest_there c cs goes_on = by (at_line_end c cs) refl
  where
    by : (b : Bool) → at_line_end c cs ≡ b → line_rest (c ∷ cs) ≡ line_rest cs
    by true is = absurd (goes_on (line_end_is c cs is))
    by false is = rw is refl

pub line_reached : {u rest : List ℕ} → IsToLineEnd u rest → line_rest (u ++ rest) ≡ rest
line_reached (here {rest} ends) = line_rest_here rest ends
line_reached (there {c} {u} {rest} goes_on further) = line_rest_there c (u ++ rest) goes_on ∙ line_reached further

-- where a comment ends inside so many others
abbrev above : ℕ → List ℕ → Option (List ℕ)
above zero rest = Some rest
above (suc depth) rest = comment_rest depth rest

closing_is : (depth : ℕ) (rest : List ℕ) → comment_rest depth (42 ∷ 47 ∷ rest) ≡ above depth rest
closing_is zero rest = refl
closing_is (suc depth) rest =
    let no : (suc depth == 0) ≡ false = ne_eqb _ _ (λ h. omega arith) in
    let less : suc depth - 1 ≡ depth = omega arith in
    ap (λ b. cond b (Some rest) (comment_rest (suc depth - 1) rest)) no ∙ ap (λ n. comment_rest n rest) less

unmarked_on : (depth c : ℕ) (u rest : List ℕ) → begins (42 ∷ 47 ∷ []) (c ∷ u) ≡ false → begins (47 ∷ 42 ∷ []) (c ∷ u) ≡ false → 0 < length u
    → comment_rest depth (c ∷ u ++ rest) ≡ comment_rest depth (u ++ rest)
unmarked_on depth c [] rest x o some = absurd (omega arith)
unmarked_on depth c (d ∷ u) rest x o some =
    let no_open : opens_comment c d ≡ false = spelled (c == 47) (d == 42) o in
    let no_close : closes_comment c d ≡ false = spelled (c == 42) (d == 47) x in
    rw (no_open, no_close) refl
  where
    spelled : (p q : Bool) → (p && (q && true)) ≡ false → (p && q) ≡ false
    spelled true true h = h
    spelled true false h = h
    spelled false q h = refl

pub comment_ends : {u : List ℕ} → IsCommentRest u → (depth : ℕ) (rest : List ℕ) → comment_rest depth (u ++ rest) ≡ above depth rest
comment_ends closed depth rest = closing_is depth rest
comment_ends (nested {u} {v} a b) depth rest =
    let up : depth + 1 ≡ suc depth = omega arith in
    ap (λ n. comment_rest n ((u ++ v) ++ rest)) up ∙ ap (comment_rest (suc depth)) (append_assoc u v rest) ∙ comment_ends a (suc depth) (v ++ rest) ∙ comment_ends b depth rest
comment_ends (more {c} {u} x o a) depth rest = unmarked_on depth c u rest x o (comment_nonempty a) ∙ comment_ends a depth rest

pub comment_reached : (u rest : List ℕ) → IsCommentRest u → Reaches (47 ∷ 42 ∷ u) rest blank (ordinary_at (47 ∷ 42 ∷ u ++ rest))
unfolding ordinary_at slash_at
comment_reached u rest c = subst (λ o. Reaches (47 ∷ 42 ∷ u) rest blank (blank_before o)) (sym (comment_ends c 0 rest)) (inl (refl, refl))

pub line_comment_reached : (u rest : List ℕ) → IsToLineEnd u rest → Reaches (47 ∷ 47 ∷ u) rest blank (ordinary_at (47 ∷ 47 ∷ u ++ rest))
unfolding ordinary_at slash_at
line_comment_reached u rest e = inl (line_reached e, refl)

line_rest_shorter : (text : List ℕ) → length (line_rest text) ≤ length text
line_rest_shorter [] = omega arith
line_rest_shorter (c ∷ cs) = at (λ l. length l ≤ length (c ∷ cs)) (at_line_end c cs) _ _ (λ _. omega arith) (λ _. omega (arith, line_rest_shorter cs))

-- ---- signs

abbrev Marks : List ℕ → List ℕ → Sign → Found → Type 0
Marks u rest s found = Reaches u rest (of_kind (kind.Sign s)) found

single_or : (u : List ℕ) (d : ℕ) (rest : List ℕ) (s : Sign) (o : Option Sign) → Marks u (d ∷ rest) s (double_or o rest (Some (shape.Sign s, d ∷ rest)))
single_or u d rest s None = inl (refl, refl)
single_or u d rest s (Some t) = inr (omega arith)

-- a sign of one character is found, or one of two
one_reached : (c : ℕ) (rest : List ℕ) (s : Sign) → single_sign c ≡ Some s → Marks (c ∷ []) rest s (sign_at c rest)
unfolding sign_at
one_reached c [] s is = rw is (inl (refl, refl))
one_reached c (d ∷ rest) s is = rw is (single_or (c ∷ []) d rest s (double_sign c d))

two_reached : (c d : ℕ) (rest : List ℕ) (s : Sign) → double_sign c d ≡ Some s → Marks (c ∷ d ∷ []) rest s (sign_at c (d ∷ rest))
unfolding sign_at
two_reached c d rest s is = rw is (inl (refl, refl))

divide_reached : (rest : List ℕ) → may_follow sign.Divide rest ≡ true → Marks (47 ∷ []) rest sign.Divide (slash_at rest)
unfolding slash_at single_sign
divide_reached [] follows = one_reached 47 [] sign.Divide refl
divide_reached (d ∷ rest) follows = at (Marks (47 ∷ []) (d ∷ rest) sign.Divide) (d == 47) _ _
    (λ _. inr (omega (arith, line_rest_shorter rest)))
    (λ _. at (Marks (47 ∷ []) (d ∷ rest) sign.Divide) (d == 42) _ _
    (λ is. let bad : false ≡ true = ap not (sym is) ∙ follows in absurd (cc bad))
    (λ _. one_reached 47 (d ∷ rest) sign.Divide refl))

-- `!is` is longer
not_is_or : (u rest after : List ℕ) (s : Sign) (o : Option (List ℕ)) (found : Found) → ((o ≡ None → ⊥) → length after < length rest) → Marks u rest s found
    → Marks u rest s (double_or (option_map (λ rest. sign.NotIs) o) after found)
not_is_or u rest after s None found shorter reached = reached
not_is_or u rest after s (Some r) found shorter reached = inr (shorter (λ bad. cc bad))

behind_is_some : (text : List ℕ) → (behind_is text ≡ None → ⊥) → 2 ≤ length text
behind_is_some [] some = absurd (some refl)
behind_is_some (c ∷ []) some = absurd (some refl)
behind_is_some (c ∷ d ∷ cs) some = omega arith

not_reached : (rest : List ℕ) → Marks (33 ∷ []) rest sign.Not (exclamation_at rest)
unfolding exclamation_at single_sign
not_reached rest = not_is_or (33 ∷ []) rest (drop 2 rest) sign.Not (behind_is rest) (sign_at 33 rest) (λ some. dropped rest (behind_is_some rest some)) (one_reached 33 rest sign.Not refl)
  where
    dropped : (l : List ℕ) → 2 ≤ length l → length (drop 2 l) < length l
    dropped [] h = absurd (omega arith)
    dropped (c ∷ []) h = absurd (omega arith)
    dropped (c ∷ d ∷ cs) h = omega arith

not_is_reached : (rest : List ℕ) → may_follow sign.NotIs rest ≡ true → Marks (33 ∷ 105 ∷ 115 ∷ []) rest sign.NotIs (exclamation_at (105 ∷ 115 ∷ rest))
unfolding exclamation_at
not_is_reached rest follows = rw follows (inl (refl, refl))

no_is : (c : ℕ) (rest : List ℕ) → (c == 105) ≡ false → behind_is (c ∷ rest) ≡ None
no_is c [] other = refl
no_is c (d ∷ rest) other = rw other refl

-- a sign of `!` and another character
second_reached : (d : ℕ) (rest : List ℕ) (s : Sign) → (d == 105) ≡ false → double_sign 33 d ≡ Some s → Marks (33 ∷ d ∷ []) rest s (exclamation_at (d ∷ rest))
unfolding exclamation_at
second_reached d rest s other is = rw (no_is d rest other) (two_reached 33 d rest s is)

safe_as_reached : (rest : List ℕ) → Marks (97 ∷ 115 ∷ 63 ∷ []) rest sign.SafeAs (ordinary_at (97 ∷ 115 ∷ 63 ∷ rest))
unfolding ordinary_at word_at
safe_as_reached rest = inl (refl, refl)

pub sign_reached : (s : Sign) (rest : List ℕ) → may_follow s rest ≡ true → Marks (sign_text s) rest s (ordinary_at (sign_text s ++ rest))
unfolding ordinary_at single_sign double_sign slash_at exclamation_at
sign_reached sign.Plus rest f = one_reached 43 rest sign.Plus refl
sign_reached sign.Minus rest f = one_reached 45 rest sign.Minus refl
sign_reached sign.Times rest f = one_reached 42 rest sign.Times refl
sign_reached sign.Divide rest f = divide_reached rest f
sign_reached sign.Remainder rest f = one_reached 37 rest sign.Remainder refl
sign_reached sign.Increment rest f = two_reached 43 43 rest sign.Increment refl
sign_reached sign.Decrement rest f = two_reached 45 45 rest sign.Decrement refl
sign_reached sign.PlusAssign rest f = two_reached 43 61 rest sign.PlusAssign refl
sign_reached sign.MinusAssign rest f = two_reached 45 61 rest sign.MinusAssign refl
sign_reached sign.TimesAssign rest f = two_reached 42 61 rest sign.TimesAssign refl
sign_reached sign.DivideAssign rest f = two_reached 47 61 rest sign.DivideAssign refl
sign_reached sign.RemainderAssign rest f = two_reached 37 61 rest sign.RemainderAssign refl
sign_reached sign.Assign rest f = one_reached 61 rest sign.Assign refl
sign_reached sign.Equal rest f = two_reached 61 61 rest sign.Equal refl
sign_reached sign.NotEqual rest f = second_reached 61 rest sign.NotEqual refl refl
sign_reached sign.Less rest f = one_reached 60 rest sign.Less refl
sign_reached sign.Greater rest f = one_reached 62 rest sign.Greater refl
sign_reached sign.LessOrEqual rest f = two_reached 60 61 rest sign.LessOrEqual refl
sign_reached sign.GreaterOrEqual rest f = two_reached 62 61 rest sign.GreaterOrEqual refl
sign_reached sign.Conjunction rest f = two_reached 38 38 rest sign.Conjunction refl
sign_reached sign.Disjunction rest f = two_reached 124 124 rest sign.Disjunction refl
sign_reached sign.Not rest f = not_reached rest
sign_reached sign.NotNull rest f = second_reached 33 rest sign.NotNull refl refl
sign_reached sign.Question rest f = one_reached 63 rest sign.Question refl
sign_reached sign.SafeDot rest f = two_reached 63 46 rest sign.SafeDot refl
sign_reached sign.Elvis rest f = two_reached 63 58 rest sign.Elvis refl
sign_reached sign.Dot rest f = one_reached 46 rest sign.Dot refl
sign_reached sign.Range rest f = two_reached 46 46 rest sign.Range refl
sign_reached sign.Comma rest f = one_reached 44 rest sign.Comma refl
sign_reached sign.Colon rest f = one_reached 58 rest sign.Colon refl
sign_reached sign.Semicolon rest f = one_reached 59 rest sign.Semicolon refl
sign_reached sign.Arrow rest f = two_reached 45 62 rest sign.Arrow refl
sign_reached sign.OpenParenthesis rest f = one_reached 40 rest sign.OpenParenthesis refl
sign_reached sign.CloseParenthesis rest f = one_reached 41 rest sign.CloseParenthesis refl
sign_reached sign.OpenBracket rest f = one_reached 91 rest sign.OpenBracket refl
sign_reached sign.CloseBracket rest f = one_reached 93 rest sign.CloseBracket refl
sign_reached sign.OpenBrace rest f = one_reached 123 rest sign.OpenBrace refl
sign_reached sign.CloseBrace rest f = one_reached 125 rest sign.CloseBrace refl
sign_reached sign.SafeAs rest f = safe_as_reached rest
sign_reached sign.NotIs rest f = not_is_reached rest f
