use Rattle.std.proofs.Common.{ℕ, subst, arith}
use Rattle.std.specs.Prelude.{MatchOption}
use Rattle.class_verify_rules.specs.Verified.{Keeps}
use Rattle.class_verify.specs.Refusals.{FailsFirst}
use Rattle.class_verify.specs.declared.classes.Fault.{Fault}
use Rattle.class_verify.proofs.Refusing.{below_next, below_all}
use Rattle.class_verify.proofs.classes.first_refusal.Goals as goal

pub loop-class-preserved : goal.loop-class-preserved
loop-class-preserved c =
    let p = c.args.program.now in
    below_next p c.loop-class.class
    (subst (λ o. MatchOption o ((n at : ℕ) → Keeps p c.loop-class.class n at) (λ (f : Fault). FailsFirst p c.loop-class.class f.method f.offset)) c.in-None-2.is c.in_ok-class_fault-in-Some.ensures)
    c.loop-class.invariant

pub returns : goal.returns
returns c = below_all c.args.program.now c.loop-class.class (omega (arith, c.loop-class-test.false, c.len-class-end.ensures)) c.loop-class.invariant
