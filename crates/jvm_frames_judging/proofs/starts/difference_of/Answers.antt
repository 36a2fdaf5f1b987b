use Rattle.std.proofs.Common.{◌-◌, length, refl, sym, ap, ◌∙◌, arith}
use Rattle.jvm_class_start.specs.Arguments.{behind_first, type_seen}
use Rattle.jvm_frames_judging.proofs.Walked.{walk_started, walk_further, walk_stopped, walk_ended, walk_all}
use Rattle.jvm_frames_judging.proofs.starts.difference_of.Goals as goal

pub loop-i-init : goal.loop-i-init
loop-i-init c =
    let start = c.behind_open-start.ensures ∙ ap behind_first c.as_bytes.ensures.value in
    record {
      so_far = walk_started (length c.behind_open-start.result.now) c.args.descriptor.now c.behind_open-start.result.now
          c.args.locals.now c.args.lacking start refl;
      few = c.requires;
    }

pub returns-in-None : goal.returns-in-None
returns-in-None c =
    c.ended.ensures
    ∙ walk_ended (length c.behind_open-start.result.now - c.loop-i.i) c.loop-i.rest.now c.loop-i.left.now c.loop-i.without
    _ (sym c.in-None.ensures.value) c.loop-i.invariant.so_far

pub returns-in-None-behind : goal.returns-in-None-behind
returns-in-None-behind c =
    walk_stopped (length c.behind_open-start.result.now) c.loop-i.i c.loop-i.rest.now c.in-Some.more.now
    (type_seen c.in-Some.found) c.loop-i.left.now c.loop-i.without _ (omega (arith, c.loop-i-test.true))
    (sym c.in-Some.ensures.value) (sym c.in-None-behind.ensures.value) c.loop-i.invariant.so_far

pub loop-i-preserved : goal.loop-i-preserved
loop-i-preserved c = record {
  so_far = walk_further (length c.behind_open-start.result.now) c.loop-i.i c.loop-i.rest.now c.in-Some.more.now
      (type_seen c.in-Some.found) c.loop-i.left.now c.in-Some-behind.others.now c.loop-i.without c.in-Some-behind.count
      _ (omega (arith, c.loop-i-test.true)) (sym c.in-Some.ensures.value) (sym c.in-Some-behind.ensures.value)
      c.loop-i.invariant.so_far;
  few = omega (arith, c.loop-i.invariant.few, c.in-Some-behind.ensures.few);
}

pub returns : goal.returns
returns c =
    c.ended-2.ensures
    ∙ walk_all (length c.behind_open-start.result.now - c.loop-i.i) c.loop-i.rest.now c.loop-i.left.now c.loop-i.without _
    (omega (arith, c.loop-i-test.false)) c.loop-i.invariant.so_far
