-- `try` is read exactly.
use Rattle.std.proofs.Common.{
  ◌≡◌,
  ◌<◌,
  ℕ,
  suc,
  Bool,
  true,
  false,
  List,
  [],
  ◌∷◌,
  ◌++◌,
  length,
  refl,
  subst,
  inl,
  inr,
  ◌⊎◌,
}
use Rattle.kt_base.specs.declared.refusals.Pos.{Pos}
use Rattle.kt_tree.specs.declared.tokens.Token.{Token}
use Rattle.kt_tree.specs.declared.tokens.TokenKind.{TokenKind}
use Rattle.kt_tree.specs.declared.tokens.TokenKind.TheVariants as kind
use Rattle.kt_tree.specs.declared.tokens.Sign.TheVariants as sign
use Rattle.kt_tree.specs.declared.tokens.SoftKeyword.{SoftKeyword}
use Rattle.kt_tree.specs.declared.tokens.SoftKeyword.TheVariants as soft
use Rattle.kt_tree.specs.Tokens.{kind_is_sign, kind_is_soft_keyword, is_soft_keyword, is_new_line}
use Rattle.kt_tree.specs.Bodies as e
use Rattle.kt_tree.specs.Bodies.{ExpressionTree, BlockTree, CatchTree, catches_of}
use Rattle.kt_grammar_parsers.specs.Parsers.{first, some_levels, ◌>>=◌, pure, attempt, repeat}
use Rattle.kt_grammar_parsers.specs.Phrases.{IsNothing, IsToken, Seq, NotReads, FirstOf, WhereRoom, Loop, ends}
use Rattle.kt_grammar.specs.Terminals.{name_of}
use Rattle.kt_grammar.specs.Words.{IsPast}
use Rattle.kt_grammar.specs.Levels.{Phrases}
use Rattle.kt_grammar.specs.declared.context.Context.{Context}
use Rattle.kt_grammar.specs.Expressions.{IsBlock, IsBlockRest, IsCatchHead, IsFinallyHead, CatchTurn, IsNoFinally}
use Rattle.kt_grammar.specs.ExpressionParser.{
  Parsers,
  block_rest,
  catch_head,
  finally_head,
  catch_turn,
  no_finally,
  try_rest,
}
use Rattle.kt_grammar_parsers.proofs.Steps.{Any}
use Rattle.kt_grammar_parsers.proofs.Repeat.{repeat_correct}
use Rattle.kt_grammar.proofs.parts.Sequences.{
  Part,
  Anything,
  Closes,
  then,
  made,
  one,
  any_part,
  past,
  where_part,
  room_part,
}
use Rattle.kt_grammar.proofs.parts.Choices.{past_then, room_stops}
use Rattle.kt_grammar.proofs.tokens.Meanings.{closes_halts, halts_no}
use Rattle.kt_grammar.proofs.tokens.Begins.{Begins, begins_eats, begins_not_read, seq_begins_with, token_begins_with}
use Rattle.kt_grammar.proofs.parts.Below.{Halts, ReadsBelow}
use Rattle.kt_grammar.proofs.tokens.Witnesses.{
  a_soft_keyword,
  sign_is,
  sign_part,
  sign_then,
  sign_begins,
  name_part,
  begins_no_line,
}
use Rattle.kt_grammar.proofs.parts.Firsts.{past_begins, room_eats}
use Rattle.kt_grammar.proofs.expressions.BlocksRead.{block_part, block_rest_part}
use Rattle.kt_grammar.proofs.parts.Refused.{or_refuse_part}

-- ---- `catch` and `finally`

abbrev kind_begins_past : SoftKeyword → TokenKind → Bool
kind_begins_past w kind.NewLine = true
kind_begins_past w k = kind_is_soft_keyword w k

soft_is_past : (w : SoftKeyword) (k : TokenKind) → kind_is_soft_keyword w k ≡ true → kind_begins_past w k ≡ true
soft_is_past w kind.NewLine h = refl
soft_is_past w _ h = h

soft_begins : (w : SoftKeyword) → Begins (kind_begins_past w) (IsPast (IsToken (is_soft_keyword w)))
soft_begins w = past_begins (kind_begins_past w) refl (token_begins_with (is_soft_keyword w) (kind_begins_past w) (λ t h. soft_is_past w t.kind h))

soft_no_line : (w : SoftKeyword) (t : Token) (u rest : List Token) → IsToken (is_soft_keyword w) t u rest → first is_new_line (u ++ rest) ≡ false
soft_no_line w = begins_no_line (kind_is_soft_keyword w) refl (token_begins_with (is_soft_keyword w) (kind_is_soft_keyword w) (λ t h. h))

module _ (n : ℕ) (parsers : Parsers) (phrases : Phrases) (R : ReadsBelow parsers phrases) (at : Context) where
  abbrev left : Bool
  left = some_levels parsers.levels

  -- n 'catch' '(' ID ':'
  catch_head_part : Part (catch_head (suc n) parsers at) (IsCatchHead (suc n) phrases at) Anything (λ _. Anything)
  catch_head_part = past_then {F' = Anything} (soft_no_line soft.Catch) (one (is_soft_keyword soft.Catch) (a_soft_keyword soft.Catch) refl (λ tail h. tt))
      (λ _. sign_then sign.OpenParenthesis (λ tail. tt) (λ _. then (name_part (λ tail. tt)) (λ x. sign_then sign.Colon (λ tail. tt) (λ _. made x (λ tail h. tt)))))

  catch_begins : Begins (kind_begins_past soft.Catch) (IsCatchHead (suc n) phrases at)
  catch_begins = seq_begins_with (kind_begins_past soft.Catch) (soft_begins soft.Catch)

  -- no `catch` follows
  abbrev NoCatch : List Token → Type 0
  NoCatch tail = NotReads (IsCatchHead (suc n) phrases at) tail

  no_catch : (tail : List Token) → Halts tail → NoCatch tail
  no_catch tail h = begins_not_read (kind_begins_past soft.Catch) catch_begins tail (halts_no (kind_begins_past soft.Catch) refl refl refl refl refl refl refl tail h)

  -- n 'finally' n '{'
  finally_head_part : Part (finally_head (suc n) parsers at) (IsFinallyHead (suc n) phrases at) NoCatch (λ _. Anything)
  finally_head_part = past_then {F' = Anything} (soft_no_line soft.Finally) (one (is_soft_keyword soft.Finally) (a_soft_keyword soft.Finally) refl (λ tail h. begins_not_read (kind_begins_past soft.Catch) catch_begins (a_soft_keyword soft.Finally ∷ tail) refl))
      (λ _. past (begins_no_line (kind_is_sign sign.OpenBrace) refl (sign_begins (kind_is_sign sign.OpenBrace) sign.OpenBrace (sign_is sign.OpenBrace))) (sign_part sign.OpenBrace (λ tail. tt)))

  no_finally_head : (tail : List Token) → Halts tail → NotReads (IsFinallyHead (suc n) phrases at) tail
  no_finally_head tail h = begins_not_read (kind_begins_past soft.Finally) (seq_begins_with (kind_begins_past soft.Finally) (soft_begins soft.Finally)) tail (halts_no (kind_begins_past soft.Finally) refl refl refl refl refl refl refl tail h)

  -- ---- each `catch` that follows

  abbrev TurnEnd : List CatchTree ⊎ List CatchTree → List Token → Type 0
  TurnEnd (inl cs) tail = Unit {0}
  TurnEnd (inr cs) tail = NoCatch tail

  abbrev Caught : List CatchTree → Token → List CatchTree ⊎ List CatchTree → List Token → List Token → Type 0
  Caught cs x = Seq (phrases.catch at (name_of x)) (λ c. IsNothing (inl (cs ++ c ∷ [])))

  abbrev TurnWhere : ℕ → List CatchTree → List CatchTree ⊎ List CatchTree → List Token → List Token → Type 0
  TurnWhere m cs = WhereRoom (some_levels m) (IsCatchHead (suc n) phrases at) (Caught cs) (IsNothing (inr cs))

  turn_part : (cs : List CatchTree) → Part (catch_turn (suc n) parsers at cs) (CatchTurn (suc n) phrases at cs) Anything TurnEnd
  turn_part cs = subst (λ (m : ℕ). Part (catch_turn (suc n) parsers at cs) (TurnWhere m cs) Anything TurnEnd) R.same
      (room_part left catch_head_part (λ h x. then (R.catch at (name_of x) h) (λ c. made {F = Anything} {N = TurnEnd} (inl (cs ++ c ∷ [])) (λ tail s. tt))) (made {F = Anything} {N = TurnEnd} (inr cs) (λ tail s. tt)) (λ tail s. s))

  turn_eats : (cs ds : List CatchTree) (u rest : List Token) → CatchTurn (suc n) phrases at cs (inl ds) u rest → 0 < length u
  turn_eats cs ds u rest t = room_eats (IsCatchHead (suc n) phrases at) (Caught cs) (IsNothing (inr cs)) (some_levels phrases.levels) (inl ds) u rest (begins_eats (kind_begins_past soft.Catch) catch_begins) (λ m. absurd (let e : inl ds ≡ inr cs = m.value in cc)) t

  loop_ends : (cs : List CatchTree) (tail : List Token) → NoCatch tail → Loop (CatchTurn (suc n) phrases at) cs cs [] tail
  loop_ends cs tail h = ends (room_stops (some_levels phrases.levels) (inr cs) tail h)

  catches_part : Part (repeat (catch_turn (suc n) parsers at) []) (Loop (CatchTurn (suc n) phrases at) []) NoCatch (λ _. NoCatch)
  catches_part = record {
    correct = repeat_correct (catch_turn (suc n) parsers at) (CatchTurn (suc n) phrases at) Any TurnEnd Any (λ _. NoCatch) (λ cs. (turn_part cs).correct) turn_eats (λ y b u rest l g. tt) (λ b rest g. tt) (λ b rest h. h)
        (λ x y u l. record { whole = y; tokens = []; phrase = λ tail h. (loop_ends y tail h, tt) }) [];
    whole = [];
    tokens = [];
    phrase = λ tail h. (loop_ends [] tail h, h);
  }

  -- ---- `finally`, or what the `catch`es give

  abbrev Finally : Pos → BlockTree → List CatchTree → ExpressionTree → List Token → List Token → Type 0
  Finally start b cs = Seq (IsBlockRest (phrases.statement at)) (λ f. IsNothing (e.try_catch start b (catches_of cs) (e.some_block f)))

  finally_part : (start : Pos) (b : BlockTree) (cs : List CatchTree) → Part (block_rest (parsers.statement at) >>= (λ f. pure (e.try_catch start b (catches_of cs) (e.some_block f)))) (Finally start b cs) Anything (λ _. Closes)
  finally_part start b cs = then (block_rest_part (R.statement at)) (λ f. made (e.try_catch start b (catches_of cs) (e.some_block f)) (λ tail h. tt))

  end_part : (start : Pos) (b : BlockTree) (cs : List CatchTree) → Part (attempt (finally_head (suc n) parsers at) (λ _. block_rest (parsers.statement at) >>= (λ f. pure (e.try_catch start b (catches_of cs) (e.some_block f)))) (no_finally (suc n) parsers at start b cs))
      (FirstOf (IsFinallyHead (suc n) phrases at) (λ _. Finally start b cs) (IsNoFinally (suc n) phrases at start b cs)) NoCatch (λ _. Closes)
  end_part start b [] = or_refuse_part finally_head_part (λ _. finally_part start b [])
  end_part start b (c ∷ cs) = where_part finally_head_part (λ _. finally_part start b (c ∷ cs)) (made (e.try_catch start b (catches_of (c ∷ cs)) e.no_block) (λ tail h. no_catch tail (closes_halts tail h))) (λ tail h. no_finally_head tail (closes_halts tail h))

  -- n block (n 'catch' ..)* (n 'finally' n block)?
  abbrev pub TryRest : Token → ExpressionTree → List Token → List Token → Type 0
  TryRest t = Seq (IsPast (IsBlock (phrases.statement at))) (λ b. Seq (Loop (CatchTurn (suc n) phrases at) []) (λ cs. FirstOf (IsFinallyHead (suc n) phrases at) (λ _. Finally t.pos b cs) (IsNoFinally (suc n) phrases at t.pos b cs)))

  block_no_line : (b : BlockTree) (u rest : List Token) → IsBlock (phrases.statement at) b u rest → first is_new_line (u ++ rest) ≡ false
  block_no_line = begins_no_line (kind_is_sign sign.OpenBrace) refl (seq_begins_with (kind_is_sign sign.OpenBrace) (sign_begins (kind_is_sign sign.OpenBrace) sign.OpenBrace (sign_is sign.OpenBrace)))

  pub try_part : (t : Token) → Part (try_rest (suc n) parsers at t) (TryRest t) Anything (λ _. Closes)
  try_part t = past_then block_no_line (block_part (R.statement at)) (λ b. any_part (then catches_part (λ cs. end_part t.pos b cs)))
