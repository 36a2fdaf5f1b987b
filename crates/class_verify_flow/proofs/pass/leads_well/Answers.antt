use Rattle.std.proofs.Common.{◌≡◌, true, sym, subst, ◌∙◌}
use Rattle.std.specs.Prelude.{IsTrue, ◌↔◌}
use Rattle.class_verify_frames.specs.Views.{body, frame}
use Rattle.class_verify_rules.specs.Typing.{Each, Meets}
use Rattle.class_verify_flow.proofs.Deciding.{always, asked, both, holds, not_first}
use Rattle.class_verify_flow.proofs.pass.leads_well.Goals as goal

pub returns-then-not-meets_all : goal.returns-then-not-meets_all
returns-then-not-meets_all c =
    not_first c.meets_all.result
    (subst (λ ts. IsTrue c.meets_all.result ↔ Each ts (λ to. Meets (body c.args.method.now) to (frame c.args.held.now))) (c.as_slice.ensures.value ∙ c.in_ok-targets.ensures) c.meets_all.ensures)
    c.if-not-meets_all.true

pub returns-then-not-may_go_on : goal.returns-then-not-may_go_on
returns-then-not-may_go_on c =
    always (
      holds c.meets_all.result
          (subst (λ ts. IsTrue c.meets_all.result ↔ Each ts (λ to. Meets (body c.args.method.now) to (frame c.args.held.now))) (c.as_slice.ensures.value ∙ c.in_ok-targets.ensures) c.meets_all.ensures)
          c.if-not-meets_all.false,
      λ g. let e = sym c.if-not-may_go_on.true ∙ (c.may_go_on.ensures ∙ g) in absurd cc,
    )

pub returns : goal.returns
returns c =
    both c.meets_all.result c.may_flow_on.result
    (subst (λ ts. IsTrue c.meets_all.result ↔ Each ts (λ to. Meets (body c.args.method.now) to (frame c.args.held.now))) (c.as_slice.ensures.value ∙ c.in_ok-targets.ensures) c.meets_all.ensures)
    c.if-not-meets_all.false
    (asked c.may_flow_on.result (sym c.may_go_on.ensures ∙ c.if-not-may_go_on.false) c.may_flow_on.ensures)
