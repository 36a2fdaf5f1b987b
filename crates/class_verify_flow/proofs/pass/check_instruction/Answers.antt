use Rattle.std.proofs.Common.{◌≡◌, true, subst}
use Rattle.class_verify_frames.specs.Views.{body, frame}
use Rattle.class_verify_rules.specs.Acts.{act}
use Rattle.class_verify_steps.specs.Stepping.{Steps}
use Rattle.class_verify_flow.proofs.Deciding.{holds}
use Rattle.class_verify_flow.proofs.Walk.{not_led, all_typed}
use Rattle.class_verify_flow.proofs.pass.check_instruction.Goals as goal

pub returns-then-not-branch-2 : goal.returns-then-not-branch-2
returns-then-not-branch-2 c =
    let b = body c.args.method.now in
    let i = c.args.instruction.now in
    let s = subst (λ t. Steps b i.0 (act i.1) (frame c.args.held.now) t (frame c.step.new.held)) c.if-not-branch.false c.in_ok-step.ensures in
    not_led b c.args.place i (frame c.args.held.now) (frame c.step.new.held) c.in_ok-leads_well.field-0 s.1 c.in_ok-leads_well.ensures c.if-not-branch-2.true

pub returns : goal.returns
returns c =
    let b = body c.args.method.now in
    let i = c.args.instruction.now in
    let s = subst (λ t. Steps b i.0 (act i.1) (frame c.args.held.now) t (frame c.step.new.held)) c.if-not-branch.false c.in_ok-step.ensures in (
      all_typed b c.args.place i (frame c.args.held.now) (frame c.step.new.held) s.1 s.0
          (holds c.is_within.result c.is_within.ensures c.if-not-is_within.false)
          (holds c.in_ok-leads_well.field-0 c.in_ok-leads_well.ensures c.if-not-branch-2.false)
          (holds c.handlers_fit.result c.handlers_fit.ensures c.if-not-handlers_fit.false),
      s.1,
    )
