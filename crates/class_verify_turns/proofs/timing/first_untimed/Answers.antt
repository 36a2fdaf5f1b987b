use Rattle.std.proofs.Common.{◌≡◌, ℕ, ◌<◌, ◌+◌, Some, sym, ap, ◌∙◌, subst, arith, below_more}
use Rattle.std.specs.Prelude.{slice_get, IsTrue, ◌↔◌}
use Rattle.std.proofs.lemmas.Option.{slice_get_within}
use Rattle.jvm_code_instructions.specs.declared.instr.Instr.{Instr}
use Rattle.class_verify_frames.specs.Views.{body}
use Rattle.class_verify_rules.specs.Bodies.{instruction}
use Rattle.class_verify_rules.specs.Turns.{IsFixed, IsTimed, makes, resumes}
use Rattle.class_verify_flow.proofs.Deciding.{holds}
use Rattle.class_verify_turns.proofs.Rows.{seen_next}
use Rattle.class_verify_turns.proofs.timing.first_untimed.Goals as goal

pub loop-place-preserved : goal.loop-place-preserved
loop-place-preserved c =
    let b = body c.args.method.now in
    let i = c.in-Some.instruction.now in
    let is : instruction b c.loop-place.place ≡ Some i = ap (λ xs. slice_get xs c.loop-place.place) (sym c.as_slice.ensures) ∙ sym c.in-Some.ensures in
    let known = c.known_behind-before.ensures in
    record {
      fixed = subst (λ t. IsTrue t ↔ IsFixed b) (sym known.fixed) c.loop-place.invariant.fixed;
      made = seen_next b (makes b) c.loop-place.place i c.loop-place.before.made _ is known.made c.loop-place.invariant.made;
      resumed = seen_next b (resumes b) c.loop-place.place i c.loop-place.before.resumed _ is known.resumed c.loop-place.invariant.resumed;
      so_far = below_more _ _ c.loop-place.invariant.so_far (λ j e.
          let same : i ≡ j = cc in
          subst (λ (x : ℕ × Instr). IsTimed b c.loop-place.place x.0 x.1) same (holds c.in_ok-is_timed-in-Some.field-0 c.in_ok-is_timed-in-Some.ensures c.if-not-branch.false));
    }

pub returns : goal.returns
returns c = λ place i here.
    c.loop-place.invariant.so_far place (omega (arith, slice_get_within c.args.method.now.code.now.instructions place i here, c.loop-place-test.false, c.len-place-end.ensures)) i here
