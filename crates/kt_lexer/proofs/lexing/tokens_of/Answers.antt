use Rattle.std.proofs.Common.{◌≡◌, Some, None, inl, length, sym, ap, subst, ◌∙◌, arith}
use Rattle.kt_lexer.specs.Texts.{in_string, AreTokensOf}
use Rattle.kt_lexer.specs.Scanning.{lexeme_of, NamesAreWords, shape_at}
use Rattle.kt_lexer.proofs.LastTokens.{end_is_last}
use Rattle.kt_lexer.proofs.Standing.{
  stands_next,
  refusal_at,
  refused_is,
  ended_tokens_are,
  ended_only,
  ended_breaks,
  refused_here,
  refused_only,
  refused_no_tokens,
  found_names,
  found_shorter,
  found_less,
}
use Rattle.kt_lexer.proofs.lexing.tokens_of.Goals as goal

pub passed-front-requires : goal.passed-front-requires
passed-front-requires c =
    let found : shape_at (in_string c.loop-shape.openings) c.loop-shape.rest.now ≡ Some (c.in-Some.shape, c.in-Some.behind.now) = sym (c.in-Some.ensures ∙ ap (λ b. shape_at b c.loop-shape.rest.now) c.in_string.ensures) in
    omega (arith, found_less (in_string c.loop-shape.openings) c.loop-shape.rest.now _ found)

pub take_lexeme-requires : goal.take_lexeme-requires
take_lexeme-requires c =
    let found : shape_at (in_string c.loop-shape.openings) c.loop-shape.rest.now ≡ Some (c.in-Some.shape, c.in-Some.behind.now) = sym (c.in-Some.ensures ∙ ap (λ b. shape_at b c.loop-shape.rest.now) c.in_string.ensures) in
    subst (λ u. NamesAreWords (lexeme_of c.in-Some.shape u)) (sym c.passed-front.ensures) (found_names (in_string c.loop-shape.openings) c.loop-shape.rest.now _ found)

pub loop-shape-smaller : goal.loop-shape-smaller
loop-shape-smaller c =
    let found : shape_at (in_string c.loop-shape.openings) c.loop-shape.rest.now ≡ Some (c.in-Some.shape, c.in-Some.behind.now) = sym (c.in-Some.ensures ∙ ap (λ b. shape_at b c.loop-shape.rest.now) c.in_string.ensures) in
    found_less (in_string c.loop-shape.openings) c.loop-shape.rest.now _ found

pub loop-shape-preserved : goal.loop-shape-preserved
loop-shape-preserved c =
    let found : shape_at (in_string c.loop-shape.openings) c.loop-shape.rest.now ≡ Some (c.in-Some.shape, c.in-Some.behind.now) = sym (c.in-Some.ensures ∙ ap (λ b. shape_at b c.loop-shape.rest.now) c.in_string.ensures) in
    let shorter = found_shorter (in_string c.loop-shape.openings) c.loop-shape.rest.now _ found in
    let front = ap length c.passed-front.ensures in
    record {
      stands = stands_next c.args.chars.now c.loop-shape.openings c.loop-shape.place c.loop-shape.rest.now c.loop-shape.tokens.items _ c.loop-shape.invariant.stands found
          c.passed-front.result.now c.passed-front.ensures c.take_lexeme.new.openings c.place_behind-place.result c.take_lexeme.new.tokens.items
          c.in_ok-take_lexeme.ensures.openings c.place_behind-place.ensures.place c.in_ok-take_lexeme.ensures.tokens;
      line = omega (arith, shorter, front, c.place_behind-place.ensures.line, c.loop-shape.invariant.line);
      column = omega (arith, shorter, front, c.place_behind-place.ensures.column, c.loop-shape.invariant.column);
    }

pub returns-in_ok-push-clause-tokens : goal.returns-in_ok-push-clause-tokens
returns-in_ok-push-clause-tokens c =
    subst (AreTokensOf c.args.chars.now) (sym c.in_ok-push.ensures.items)
    (ended_tokens_are c.args.chars.now c.loop-shape.openings c.loop-shape.place c.loop-shape.rest.now c.loop-shape.tokens.items c.loop-shape.invariant.stands (sym c.has_ended.ensures ∙ c.if-has_ended.true))

pub returns-in_ok-push-clause-only : goal.returns-in_ok-push-clause-only
returns-in_ok-push-clause-only c ts are =
    c.in_ok-push.ensures.items
    ∙ ended_only c.args.chars.now c.loop-shape.openings c.loop-shape.place c.loop-shape.rest.now c.loop-shape.tokens.items c.loop-shape.invariant.stands (sym c.has_ended.ensures ∙ c.if-has_ended.true) ts are

pub returns-in_ok-push-clause-refuses : goal.returns-in_ok-push-clause-refuses
returns-in_ok-push-clause-refuses c at breaks =
    ended_breaks c.args.chars.now c.loop-shape.openings c.loop-shape.place c.loop-shape.rest.now c.loop-shape.tokens.items c.loop-shape.invariant.stands (sym c.has_ended.ensures ∙ c.if-has_ended.true) at breaks

pub returns-else-has_ended-clause-only : goal.returns-else-has_ended-clause-only
returns-else-has_ended-clause-only c ts are =
    let none : shape_at (in_string c.loop-shape.openings) c.loop-shape.rest.now ≡ None = sym (c.in_default.ensures ∙ ap (λ b. shape_at b c.loop-shape.rest.now) c.in_string.ensures) in
    absurd (refused_no_tokens c.args.chars.now c.loop-shape.openings c.loop-shape.place c.loop-shape.rest.now c.loop-shape.tokens.items c.loop-shape.invariant.stands none (sym c.has_ended.ensures ∙ c.if-has_ended.false) ts are)

pub returns-else-has_ended-clause-refused : goal.returns-else-has_ended-clause-refused
returns-else-has_ended-clause-refused c r is =
    let none : shape_at (in_string c.loop-shape.openings) c.loop-shape.rest.now ≡ None = sym (c.in_default.ensures ∙ ap (λ b. shape_at b c.loop-shape.rest.now) c.in_string.ensures) in
    refused_is c.args.chars.now c.loop-shape.place r is
    (refused_here c.args.chars.now c.loop-shape.openings c.loop-shape.place c.loop-shape.rest.now c.loop-shape.tokens.items c.loop-shape.invariant.stands none (sym c.has_ended.ensures ∙ c.if-has_ended.false))

pub returns-else-has_ended-clause-refuses : goal.returns-else-has_ended-clause-refuses
returns-else-has_ended-clause-refuses c at breaks =
    let none : shape_at (in_string c.loop-shape.openings) c.loop-shape.rest.now ≡ None = sym (c.in_default.ensures ∙ ap (λ b. shape_at b c.loop-shape.rest.now) c.in_string.ensures) in
    inl (refusal_at (sym (refused_only c.args.chars.now c.loop-shape.openings c.loop-shape.place c.loop-shape.rest.now c.loop-shape.tokens.items c.loop-shape.invariant.stands none (sym c.has_ended.ensures ∙ c.if-has_ended.false) at breaks)))

pub returns-in_ok-push-clause-ends : goal.returns-in_ok-push-clause-ends
returns-in_ok-push-clause-ends c = end_is_last _ _ _ _ (returns-in_ok-push-clause-tokens c)
