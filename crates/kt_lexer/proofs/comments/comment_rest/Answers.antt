use Rattle.std.proofs.Common.{◌≡◌, false, refl, sym, ◌∙◌, arith}
use Rattle.std.specs.Prelude.{◌==◌}
use Rattle.std.proofs.lemmas.Bool.{ne_eqb}
use Rattle.kt_lexer.proofs.CommentEnds.{rest_shorter, at_opening, at_closing, elsewhere}
use Rattle.kt_lexer.proofs.comments.comment_rest.Goals as goal

pub loop-rest-preserved-then-opens_comment : goal.loop-rest-preserved-then-opens_comment
loop-rest-preserved-then-opens_comment c = record {
  same = sym (at_opening c.loop-rest.depth _ _ c.loop-rest.rest.now c.index-rest-0.is c.index-rest-1.is c.loop-rest-test.true (sym c.opens_comment.ensures ∙ c.if-opens_comment.true)) ∙ c.loop-rest.invariant.same;
  room = omega (arith, rest_shorter 2 c.loop-rest.rest.now c.loop-rest-test.true, c.loop-rest.invariant.room);
}

pub loop-rest-preserved-then-closes_comment : goal.loop-rest-preserved-then-closes_comment
loop-rest-preserved-then-closes_comment c =
    let inside : (c.loop-rest.depth == 0) ≡ false = ne_eqb _ _ c.if-depth-eq0.false in
    let opening = sym c.opens_comment.ensures ∙ c.if-opens_comment.false in
    let closing = sym c.closes_comment.ensures ∙ c.if-closes_comment.true in
    record {
      same = sym (at_closing c.loop-rest.depth _ _ c.loop-rest.rest.now c.index-rest-0.is c.index-rest-1.is c.loop-rest-test.true opening closing ∙ rw inside refl) ∙ c.loop-rest.invariant.same;
      room = omega (arith, rest_shorter 2 c.loop-rest.rest.now c.loop-rest-test.true, c.loop-rest.invariant.room);
    }

pub loop-rest-preserved : goal.loop-rest-preserved
loop-rest-preserved c =
    let opening = sym c.opens_comment.ensures ∙ c.if-opens_comment.false in
    let closing = sym c.closes_comment.ensures ∙ c.if-closes_comment.false in
    record {
      same = sym (elsewhere c.loop-rest.depth _ _ c.loop-rest.rest.now c.index-rest-0.is c.index-rest-1.is c.loop-rest-test.true opening closing) ∙ c.loop-rest.invariant.same;
      room = omega (arith, rest_shorter 1 c.loop-rest.rest.now (omega (arith, c.loop-rest-test.true)), c.loop-rest.invariant.room);
    }
