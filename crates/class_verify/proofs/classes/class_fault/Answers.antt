use Rattle.std.proofs.Common.{sym, ap, subst, ◌∙◌, arith}
use Rattle.std.specs.Prelude.{slice_get}
use Rattle.class_verify_methods.specs.Faults.{Least}
use Rattle.class_verify.specs.Refusals.{OneKeeps}
use Rattle.class_verify.proofs.Refusing.{fails_at, keeps_more, keeps_all}
use Rattle.class_verify.proofs.classes.class_fault.Goals as goal

pub returns-in-Some-2 : goal.returns-in-Some-2
returns-in-Some-2 c =
    let p = c.args.program.now in
    let l = c.args.linked.now in
    let m = c.in-Some.method.now in
    let is = ap (λ xs. slice_get xs c.loop-place.place) (sym c.as_slice.ensures) ∙ sym c.in-Some.ensures in
    fails_at p c.args.class l c.requires c.loop-place.place c.in-Some-2.offset m is
    (subst (Least (OneKeeps p c.args.class l m)) c.in-Some-2.is c.in_ok-method_fault-in-Some.ensures) c.loop-place.invariant

pub loop-place-preserved : goal.loop-place-preserved
loop-place-preserved c =
    let p = c.args.program.now in
    let l = c.args.linked.now in
    let m = c.in-Some.method.now in
    let is = ap (λ xs. slice_get xs c.loop-place.place) (sym c.as_slice.ensures) ∙ sym c.in-Some.ensures in
    keeps_more p c.args.class l c.requires c.loop-place.place m is
    (subst (Least (OneKeeps p c.args.class l m)) c.in-None-2.is c.in_ok-method_fault-in-Some.ensures) c.loop-place.invariant

pub returns : goal.returns
returns c =
    keeps_all c.args.program.now c.args.class c.args.linked.now c.requires c.loop-place.place
    (omega (arith, c.loop-place-test.false, c.len-place-end.ensures)) c.loop-place.invariant
