use Rattle.std.proofs.Common.{◌≡◌, ℕ, ◌<◌, ◌≤◌, ◌+◌, length, Option, Some, None, true, false, refl, sym, ap, ◌∙◌, subst, arith, below_more}
use Rattle.std.specs.Prelude.{option_map}
use Rattle.std.proofs.lemmas.Option.{slice_get_within}
use Rattle.class_verify_frames.specs.Views.{body, frame}
use Rattle.class_verify_rules.specs.Acts.{act}
use Rattle.class_verify_rules.specs.Bodies.{instruction}
use Rattle.class_verify_rules.specs.Frames.{Frame, declared_at, goes_on, or_else}
use Rattle.class_verify_flow.specs.Checks.{Checked, when}
use Rattle.class_verify_flow.proofs.Walk.{before_next, no_frame, not_typed, typed}
use Rattle.class_verify_flow.proofs.pass.first_mistyped.Goals as goal

pub loop-place-init : goal.loop-place-init
loop-place-init c = record {
  here = sym c.in_ok-first_frame.ensures;
  so_far = λ k lt. absurd (omega (arith, lt));
}

pub returns-in-None : goal.returns-in-None
returns-in-None c = (
  no_frame (body c.args.method.now) c.loop-place.place c.instruction_of-instruction.result.now c.instruction_of-instruction.ensures
      (sym c.loop-place.invariant.here ∙ ap (option_map frame) c.in-None.is),
  c.loop-place.invariant.so_far,
)

pub returns-then-not-branch : goal.returns-then-not-branch
returns-then-not-branch c =
    let b = body c.args.method.now in
    let i = c.instruction_of-instruction.result.now in
    let never = subst (λ t. Checked b c.loop-place.place i (frame c.in-Some.held) t (frame c.check_instruction.new.held)) c.if-not-branch.true c.in_ok-check_instruction-in-Some.ensures in (
      not_typed b c.loop-place.place i (frame c.in-Some.held) c.instruction_of-instruction.ensures (sym c.loop-place.invariant.here ∙ ap (option_map frame) c.in-Some.is) never,
      c.loop-place.invariant.so_far,
    )

pub loop-place-preserved : goal.loop-place-preserved
loop-place-preserved c =
    let b = body c.args.method.now in
    let i = c.instruction_of-instruction.result.now in
    let f = frame c.in-Some.held in
    let shaped = sym c.loop-place.invariant.here ∙ ap (option_map frame) c.in-Some.is in
    let found = subst (λ t. Checked b c.loop-place.place i f t (frame c.check_instruction.new.held)) c.if-not-branch.false c.in_ok-check_instruction-in-Some.ensures in
    let given = declared_at b (instruction b (c.loop-place.place + 1)) in
    record {
      here =
          c.in_ok-before-in-Some.ensures ∙ ap (λ t. or_else given (when t (frame c.check_instruction.new.held))) c.may_go_on-on.ensures
          ∙ ap (λ (g : Frame). or_else given (when (goes_on (act i.1)) g)) found.1 ∙ sym (before_next b c.loop-place.place i f c.instruction_of-instruction.ensures shaped);
      so_far = below_more _ _ c.loop-place.invariant.so_far (typed b c.loop-place.place i f c.instruction_of-instruction.ensures shaped found.0);
    }

pub returns : goal.returns
returns c = λ place i here.
    c.loop-place.invariant.so_far place (omega (arith, slice_get_within c.args.method.now.code.now.instructions place i here, c.loop-place-test.false, c.len-place-end.ensures)) i here
