-- The tokens of a text, lexeme by lexeme.
use Rattle.std.proofs.Common.{
  ◌≡◌,
  ℕ,
  zero,
  suc,
  ◌<◌,
  ◌≤◌,
  Bool,
  true,
  false,
  cond,
  ◌⊎◌,
  inl,
  inr,
  List,
  [],
  ◌∷◌,
  ◌++◌,
  None,
  Some,
  length,
  refl,
  sym,
  ap,
  subst,
  ◌∙◌,
  arith,
}
use Rattle.std.proofs.lemmas.List.{length-append}
use Rattle.kt_base.specs.declared.refusals.Pos.{Pos}
use Rattle.kt_tree.specs.declared.tokens.Token.{Token}
use Rattle.kt_tree.specs.declared.tokens.TokenKind.{TokenKind}
use Rattle.kt_tree.specs.declared.tokens.TokenKind.TheVariants as kind
use Rattle.kt_lexer.specs.declared.brackets.Open.{Open}
use Rattle.kt_lexer.specs.declared.shapes.Shape.{Shape}
use Rattle.kt_lexer.specs.Texts.{
  Lexeme,
  of_kind,
  blank,
  IsLexeme,
  IsLongest,
  in_string,
  after_token,
  place_behind,
  counts,
  AreTokens,
  at_end,
  token,
  dropped,
  skipped,
  NoneBegins,
  BreaksAt,
  here,
  behind_token,
  behind_blank,
  OneTokens,
  TokensOrRefused,
  NotBoth,
  OneRefusal,
}
use Rattle.kt_lexer.specs.Scanning.{Found, passed, lexeme_of, shape_at, ordinary_at, string_part_at, seen, after_lexeme}
use Rattle.kt_lexer.proofs.Found.{IsFront, IsFound, passed_is}
use Rattle.kt_lexer.proofs.FoundLexemes.{shape_found}
use Rattle.kt_lexer.proofs.Reached.{Reaches}
use Rattle.kt_lexer.proofs.ReachedLexemes.{lexeme_reached}

-- ---- the longest lexeme is the one that is found

-- the characters of a lexeme, those behind it, and what it is
abbrev pub Piece : Type 0
Piece = List ℕ × List ℕ × Lexeme

abbrev pub piece : List ℕ → List ℕ → Lexeme → Piece
piece u rest a = (u, rest, a)

-- what is found in a text
abbrev pub piece_of : List ℕ → Shape × List ℕ → Piece
piece_of text f = (passed text f.1, f.1, lexeme_of f.0 (passed text f.1))

module _ (within : Bool) where
  front_of : (text : List ℕ) (f : Shape × List ℕ) → shape_at within text ≡ Some f → IsFront within text f
  front_of text f is = subst (IsFound within text) is (shape_found within text)

  reached_at : (text u rest : List ℕ) (a : Lexeme) (o : Found) → shape_at within text ≡ o → text ≡ u ++ rest → IsLexeme within u rest a → Reaches u rest a o
  reached_at text u rest a o is split lexeme = subst (Reaches u rest a) (ap (shape_at within) (sym split) ∙ is) (lexeme_reached lexeme)

  -- what is found is the longest
  pub found_longest : (text : List ℕ) (f : Shape × List ℕ) → shape_at within text ≡ Some f
      → (text ≡ passed text f.1 ++ f.1) × (0 < length (passed text f.1)) × IsLongest within (passed text f.1) f.1 (lexeme_of f.0 (passed text f.1))
  found_longest text f is =
      let front = front_of text f is in
      let longest : IsLongest within front.front f.1 (lexeme_of f.0 front.front) = record {
        lexeme = front.lexeme;
        longest = λ v more other split lexeme. not_longer front.front f.1 v more (elim (reached_at text v more other (Some f) is (front.is ∙ split) lexeme) [ inl same ↦ inl same.0 | inr less ↦ inr less ]) split;
      } in
      subst (λ u. (text ≡ u ++ f.1) × (0 < length u) × IsLongest within u f.1 (lexeme_of f.0 u)) (sym (passed_is text front.front f.1 front.is)) (front.is, front.some, longest)
    where
      not_longer : (u rest v more : List ℕ) → (rest ≡ more) ⊎ (length rest < length more) → u ++ rest ≡ v ++ more → length v ≤ length u
      not_longer u rest v more (inl same) split = omega (arith, ap length same, ap length split, length-append u rest, length-append v more)
      not_longer u rest v more (inr less) split = omega (arith, less, ap length split, length-append u rest, length-append v more)

  -- where none is found, none is there
  pub none_there : (text : List ℕ) → shape_at within text ≡ None → (u rest : List ℕ) (a : Lexeme) → text ≡ u ++ rest → IsLexeme within u rest a → ⊥
  none_there text is u rest a split lexeme = reached_at text u rest a None is split lexeme

  -- the longest is what is found
  longest_is : (text u rest : List ℕ) (a : Lexeme) → text ≡ u ++ rest → IsLongest within u rest a → (f : Shape × List ℕ) → shape_at within text ≡ Some f → piece u rest a ≡ piece_of text f
  longest_is text u rest a split longest f is = elim (reached_at text u rest a (Some f) is split longest.lexeme) [
    | inl same ↦
        let u_is : passed text f.1 ≡ u = ap (passed text) same.0 ∙ passed_is text u rest split in
        λ i. (sym u_is i, sym same.0 i, (sym same.1 ∙ ap (lexeme_of f.0) (sym u_is)) i)
    | inr less ↦
        let front = front_of text f is in
        absurd (omega (arith, less, longest.longest front.front f.1 (lexeme_of f.0 front.front) (sym split ∙ front.is) front.lexeme, ap length (sym split ∙ front.is), length-append u rest, length-append front.front f.1))
  ]

  pub longest_found : (text u rest : List ℕ) (a : Lexeme) → text ≡ u ++ rest → IsLongest within u rest a
      → (f : Shape × List ℕ) × (shape_at within text ≡ Some f) × (piece u rest a ≡ piece_of text f)
  longest_found text u rest a split longest = by (shape_at within text) refl
    where
      by : (o : Found) → shape_at within text ≡ o → (f : Shape × List ℕ) × (shape_at within text ≡ Some f) × (piece u rest a ≡ piece_of text f)
      by None is = absurd (none_there text is u rest a split longest.lexeme)
      by (Some f) is = (f, is, longest_is text u rest a split longest f is)

  -- a text spells one longest lexeme
  pub one_longest : (text u rest v more : List ℕ) (a b : Lexeme) → text ≡ u ++ rest → text ≡ v ++ more → IsLongest within u rest a → IsLongest within v more b → piece u rest a ≡ piece v more b
  one_longest text u rest v more a b split split' longest longest' =
      let found = longest_found text u rest a split longest in
      found.2 ∙ sym (longest_is text v more b split' longest' found.0 found.1)

  pub longest_some : (u rest : List ℕ) (a : Lexeme) → IsLongest within u rest a → 0 < length u
  longest_some u rest a longest =
      let found = longest_found (u ++ rest) u rest a refl longest in
      let some = (found_longest (u ++ rest) found.0 found.1).1 in
      omega (arith, some, ap (λ (p : Piece). length p.0) found.2)

-- ---- one lexeme more

uncounted : (opens : List Open) (k : TokenKind) → counts opens k ≡ false → after_token k opens ≡ opens
uncounted opens kind.NewLine is = refl
uncounted opens k is = cc

-- the tokens behind a lexeme give those from it on
pub with_lexeme : (opens : List Open) (at : Pos) (u rest : List ℕ) (a : Lexeme) (ts : List Token) → IsLongest (in_string opens) u rest a
    → AreTokens (after_lexeme a opens) (place_behind at u) rest ts → AreTokens opens at (u ++ rest) (seen opens at a ++ ts)
with_lexeme opens at u rest blank ts longest are = skipped longest are
with_lexeme opens at u rest (of_kind k) ts longest are = by (counts opens k) refl
  where
    by : (b : Bool) → counts opens k ≡ b → AreTokens opens at (u ++ rest) (cond b (record { kind = k; pos = at } ∷ []) [] ++ ts)
    by true is = token longest is are
    by false is = dropped longest is (subst (λ o. AreTokens o (place_behind at u) rest ts) (uncounted opens k is) are)

-- the tokens from a lexeme on are its own and those behind it
abbrev pub Behind : List Open → Pos → List Token → Piece → Type 0
Behind opens at ts p = (us : List Token) × (ts ≡ seen opens at p.2 ++ us) × AreTokens (after_lexeme p.2 opens) (place_behind at p.0) p.1 us

seen_counted : (opens : List Open) (at : Pos) (k : TokenKind) (b : Bool) → counts opens k ≡ b → seen opens at (of_kind k) ≡ cond b (record { kind = k; pos = at } ∷ []) []
seen_counted opens at k b is = ap (λ b. cond b (record { kind = k; pos = at } ∷ []) []) is

pub behind_lexeme : {opens : List Open} {at : Pos} {text : List ℕ} {ts : List Token} → AreTokens opens at text ts → (u rest : List ℕ) (a : Lexeme) → text ≡ u ++ rest
    → IsLongest (in_string opens) u rest a → Behind opens at ts (u, rest, a)
behind_lexeme (at_end {opens} {at} ended) v more a split longest = absurd (omega (arith, longest_some (in_string opens) v more a longest, ap length split, length-append v more))
behind_lexeme (token {opens} {at} {u} {rest} {k} {ts} longest' counted are) v more a split longest =
    let same = one_longest (in_string opens) (u ++ rest) u rest v more (of_kind k) a refl split longest' longest in
    subst (Behind opens at (record { kind = k; pos = at } ∷ ts)) same (ts, ap (λ l. l ++ ts) (sym (seen_counted opens at k true counted)), are)
behind_lexeme (dropped {opens} {at} {u} {rest} {k} {ts} longest' counted are) v more a split longest =
    let same = one_longest (in_string opens) (u ++ rest) u rest v more (of_kind k) a refl split longest' longest in
    subst (Behind opens at ts) same (ts, ap (λ l. l ++ ts) (sym (seen_counted opens at k false counted)), subst (λ o. AreTokens o (place_behind at u) rest ts) (sym (uncounted opens k counted)) are)
behind_lexeme (skipped {opens} {at} {u} {rest} {ts} longest' are) v more a split longest =
    let same = one_longest (in_string opens) (u ++ rest) u rest v more blank a refl split longest' longest in
    subst (Behind opens at ts) same (ts, refl, are)

pub break_with : (opens : List Open) (at place : Pos) (u rest : List ℕ) (a : Lexeme) → IsLongest (in_string opens) u rest a
    → BreaksAt (after_lexeme a opens) (place_behind at u) rest place → BreaksAt opens at (u ++ rest) place
break_with opens at place u rest blank longest breaks = behind_blank longest breaks
break_with opens at place u rest (of_kind k) longest breaks = behind_token longest breaks

abbrev pub BreaksBehind : List Open → Pos → Pos → Piece → Type 0
BreaksBehind opens at place p = BreaksAt (after_lexeme p.2 opens) (place_behind at p.0) p.1 place

pub break_behind : {opens : List Open} {at place : Pos} {text : List ℕ} → BreaksAt opens at text place → (u rest : List ℕ) (a : Lexeme) → text ≡ u ++ rest
    → IsLongest (in_string opens) u rest a → BreaksBehind opens at place (u, rest, a)
break_behind (here {opens} {at} {text} none) v more a split longest = absurd (none.none v more a split longest.lexeme)
break_behind (behind_token {opens} {at} {place} {u} {rest} {k} longest' breaks) v more a split longest =
    subst (BreaksBehind opens at place) (one_longest (in_string opens) (u ++ rest) u rest v more (of_kind k) a refl split longest' longest) breaks
break_behind (behind_blank {opens} {at} {place} {u} {rest} longest' breaks) v more a split longest =
    subst (BreaksBehind opens at place) (one_longest (in_string opens) (u ++ rest) u rest v more blank a refl split longest' longest) breaks

-- ---- the end of the text, and no lexeme

abbrev pub end_of : Pos → List Token
end_of at = record { kind = kind.End; pos = at } ∷ []

pub ended_tokens : {opens : List Open} {at : Pos} {text : List ℕ} {ts : List Token} → AreTokens opens at text ts → text ≡ [] → (ts ≡ end_of at) × (in_string opens ≡ false)
ended_tokens (at_end ended) empty = (refl, ended)
ended_tokens (token {opens} {at} {u} {rest} {k} longest counted are) empty = absurd (omega (arith, longest_some (in_string opens) u rest (of_kind k) longest, ap length empty, length-append u rest))
ended_tokens (dropped {opens} {at} {u} {rest} {k} longest counted are) empty = absurd (omega (arith, longest_some (in_string opens) u rest (of_kind k) longest, ap length empty, length-append u rest))
ended_tokens (skipped {opens} {at} {u} {rest} longest are) empty = absurd (omega (arith, longest_some (in_string opens) u rest blank longest, ap length empty, length-append u rest))

-- where none begins, there are no tokens
pub no_tokens : {opens : List Open} {at : Pos} {text : List ℕ} {ts : List Token} → AreTokens opens at text ts → NoneBegins opens text → ⊥
no_tokens (at_end {opens} ended) none = elim none.open_end [ inl some ↦ absurd (omega (arith, some)) | inr inside ↦ absurd (cc (sym ended ∙ inside)) ]
no_tokens (token {opens} {at} {u} {rest} {k} longest counted are) none = none.none u rest (of_kind k) refl longest.lexeme
no_tokens (dropped {opens} {at} {u} {rest} {k} longest counted are) none = none.none u rest (of_kind k) refl longest.lexeme
no_tokens (skipped {opens} {at} {u} {rest} longest are) none = none.none u rest blank refl longest.lexeme

-- and the break is there
pub break_here : {opens : List Open} {at place : Pos} {text : List ℕ} → BreaksAt opens at text place → NoneBegins opens text → place ≡ at
break_here (here none') none = refl
break_here (behind_token {opens} {at} {place} {u} {rest} {k} longest breaks) none = absurd (none.none u rest (of_kind k) refl longest.lexeme)
break_here (behind_blank {opens} {at} {place} {u} {rest} longest breaks) none = absurd (none.none u rest blank refl longest.lexeme)

-- where the text ends outside of a string, there is no break
pub no_break : {opens : List Open} {at place : Pos} {text : List ℕ} → BreaksAt opens at text place → text ≡ [] → in_string opens ≡ false → ⊥
no_break (here {opens} {at} {text} none) empty ended = elim none.open_end [ inl some ↦ absurd (omega (arith, some, ap length empty)) | inr inside ↦ absurd (cc (sym ended ∙ inside)) ]
no_break (behind_token {opens} {at} {place} {u} {rest} {k} longest breaks) empty ended = absurd (omega (arith, longest_some (in_string opens) u rest (of_kind k) longest, ap length empty, length-append u rest))
no_break (behind_blank {opens} {at} {place} {u} {rest} longest breaks) empty ended = absurd (omega (arith, longest_some (in_string opens) u rest blank longest, ap length empty, length-append u rest))

-- ---- the laws

-- the same tokens behind the same lexeme are the same from it on
same_tokens : {opens : List Open} {at : Pos} {text : List ℕ} {ts : List Token} → AreTokens opens at text ts → (us : List Token) → AreTokens opens at text us → ts ≡ us
same_tokens (at_end ended) us other = sym (ended_tokens other refl).0
same_tokens (token {opens} {at} {u} {rest} {k} {ts} longest counted are) us other =
    let next = behind_lexeme other u rest (of_kind k) refl longest in
    ap (λ l. record { kind = k; pos = at } ∷ l) (same_tokens are next.0 next.2) ∙ ap (λ l. l ++ next.0) (sym (seen_counted opens at k true counted)) ∙ sym next.1
same_tokens (dropped {opens} {at} {u} {rest} {k} {ts} longest counted are) us other =
    let next = behind_lexeme other u rest (of_kind k) refl longest in
    let there : AreTokens opens (place_behind at u) rest next.0 = subst (λ o. AreTokens o (place_behind at u) rest next.0) (uncounted opens k counted) next.2 in
    same_tokens are next.0 there ∙ ap (λ l. l ++ next.0) (sym (seen_counted opens at k false counted)) ∙ sym next.1
same_tokens (skipped {opens} {at} {u} {rest} {ts} longest are) us other =
    let next = behind_lexeme other u rest blank refl longest in
    same_tokens are next.0 next.2 ∙ sym next.1

pub one_tokens : OneTokens
one_tokens text ts us are other = same_tokens are us other

not_both : {opens : List Open} {at place : Pos} {text : List ℕ} {ts : List Token} → BreaksAt opens at text place → AreTokens opens at text ts → ⊥
not_both (here none) are = no_tokens are none
not_both (behind_token {opens} {at} {place} {u} {rest} {k} longest breaks) are = let next = behind_lexeme are u rest (of_kind k) refl longest in not_both breaks next.2
not_both (behind_blank {opens} {at} {place} {u} {rest} longest breaks) are = let next = behind_lexeme are u rest blank refl longest in not_both breaks next.2

pub tokens_exclude_refusal : NotBoth
tokens_exclude_refusal text ts at are breaks = not_both breaks are

same_break : {opens : List Open} {at a : Pos} {text : List ℕ} → BreaksAt opens at text a → (b : Pos) → BreaksAt opens at text b → a ≡ b
same_break (here none) b other = sym (break_here other none)
same_break (behind_token {opens} {at} {place} {u} {rest} {k} longest breaks) b other = same_break breaks b (break_behind other u rest (of_kind k) refl longest)
same_break (behind_blank {opens} {at} {place} {u} {rest} longest breaks) b other = same_break breaks b (break_behind other u rest blank refl longest)

pub one_refusal : OneRefusal
one_refusal text a b is other = same_break is b other

abbrev Either : List Open → Pos → List ℕ → Type 0
Either opens at text = ((ts : List Token) × AreTokens opens at text ts) ⊎ ((place : Pos) × BreaksAt opens at text place)

either_at_end : (opens : List Open) (at : Pos) (b : Bool) → in_string opens ≡ b → shape_at (in_string opens) [] ≡ None → Either opens at []
either_at_end opens at false is none = inl (end_of at, at_end is)
either_at_end opens at true is none = inr (at, here (record { none = none_there (in_string opens) [] none; open_end = inr is }))

either_here : (opens : List Open) (at : Pos) (text : List ℕ) → shape_at (in_string opens) text ≡ None → Either opens at text
either_here opens at [] none = either_at_end opens at (in_string opens) refl none
either_here opens at (c ∷ cs) none = inr (at, here (record { none = none_there (in_string opens) (c ∷ cs) none; open_end = inl (omega arith) }))

either_more : (opens : List Open) (at : Pos) (text u rest : List ℕ) (a : Lexeme) → text ≡ u ++ rest → IsLongest (in_string opens) u rest a
    → Either (after_lexeme a opens) (place_behind at u) rest → Either opens at text
either_more opens at text u rest a split longest (inl has) = inl (seen opens at a ++ has.0, subst (λ t. AreTokens opens at t (seen opens at a ++ has.0)) (sym split) (with_lexeme opens at u rest a has.0 longest has.1))
either_more opens at text u rest a split longest (inr breaks) = inr (breaks.0, subst (λ t. BreaksAt opens at t breaks.0) (sym split) (break_with opens at breaks.0 u rest a longest breaks.1))

either_step : (n : ℕ) (opens : List Open) (at : Pos) (text : List ℕ) → length text ≤ suc n → ((opens : List Open) (at : Pos) (rest : List ℕ) → length rest ≤ n → Either opens at rest)
    → (o : Found) → shape_at (in_string opens) text ≡ o → Either opens at text
either_step n opens at text small next None is = either_here opens at text is
either_step n opens at text small next (Some f) is =
    let longest = found_longest (in_string opens) text f is in
    let u = passed text f.1 in
    let a = lexeme_of f.0 u in
    either_more opens at text u f.1 a longest.0 longest.2 (next (after_lexeme a opens) (place_behind at u) f.1 (omega (arith, small, longest.1, ap length longest.0, length-append u f.1)))

nothing_there : (b : Bool) → shape_at b [] ≡ None
unfolding ordinary_at string_part_at
nothing_there true = refl
nothing_there false = refl

either_of : (n : ℕ) (opens : List Open) (at : Pos) (text : List ℕ) → length text ≤ n → Either opens at text
either_of zero opens at [] small = either_here opens at [] (nothing_there (in_string opens))
either_of zero opens at (c ∷ cs) small = absurd (omega (arith, small))
either_of (suc n) opens at text small = either_step n opens at text small (either_of n) (shape_at (in_string opens) text) refl

pub tokens_or_refused : TokensOrRefused
tokens_or_refused text = either_of (length text) [] (record { line = 1; column = 1 }) text (omega arith)
