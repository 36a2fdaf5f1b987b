use Rattle.std.proofs.Common.{◌-◌, length, refl, sym, arith, ◌∙◌, ap, ◌++◌, List, map}
use Rattle.jvm_class_start.specs.Arguments.{type_seen}
use Rattle.class_constants.specs.Kinds.{value_kind}
use Rattle.class_constants.proofs.Walks.{kinds_started, kinds_further, kinds_ended, kinds_all, behind_started}
use Rattle.class_constants.proofs.Walks.{behind_further, behind_ended, behind_all}
use Rattle.class_constants.proofs.signatures.parameters_of.Goals as goal

pub loop-i-init : goal.loop-i-init
loop-i-init c = record {
  so_far = rw c.new-kinds.ensures (kinds_started (value_kind c.args.headers.now) (length c.behind_open-start.result.now)
      c.args.descriptor.now c.behind_open-start.result.now c.behind_open-start.ensures refl);
  behind = behind_started (length c.behind_open-start.result.now) c.args.descriptor.now c.behind_open-start.result.now
      c.behind_open-start.ensures refl;
}

pub returns-in-None : goal.returns-in-None
returns-in-None c = (
  kinds_ended (value_kind c.args.headers.now) (length c.behind_open-start.result.now - c.loop-i.i) c.loop-i.kinds
      c.loop-i.rest.now _ (sym c.in-None.ensures.value) c.loop-i.invariant.so_far,
  behind_ended (length c.behind_open-start.result.now - c.loop-i.i) c.loop-i.rest.now _ (sym c.in-None.ensures.value)
      c.loop-i.invariant.behind,
)

pub loop-i-preserved : goal.loop-i-preserved
loop-i-preserved c = record {
  so_far = rw (c.in_ok-push-in-Some.ensures.ok, c.value_kind.ensures)
      (kinds_further (value_kind c.args.headers.now) (length c.behind_open-start.result.now) c.loop-i.i c.loop-i.kinds
      c.loop-i.rest.now c.in-Some.behind.now (type_seen c.in-Some.found) _ (omega (arith, c.loop-i-test.true))
      (sym c.in-Some.ensures.value) c.loop-i.invariant.so_far);
  behind = behind_further (length c.behind_open-start.result.now) c.loop-i.i c.loop-i.rest.now c.in-Some.behind.now
      (type_seen c.in-Some.found) _ (omega (arith, c.loop-i-test.true)) (sym c.in-Some.ensures.value)
      c.loop-i.invariant.behind;
}

pub returns : goal.returns
returns c = (
  kinds_all (value_kind c.args.headers.now) (length c.behind_open-start.result.now - c.loop-i.i) c.loop-i.kinds
      c.loop-i.rest.now _ (omega (arith, c.loop-i-test.false)) c.loop-i.invariant.so_far,
  behind_all (length c.behind_open-start.result.now - c.loop-i.i) c.loop-i.rest.now _
      (omega (arith, c.loop-i-test.false)) c.loop-i.invariant.behind,
)
