use Rattle.std.proofs.Common.{◌-◌, length, refl, sym, arith}
use Rattle.jvm_class_start.specs.Arguments.{type_seen}
use Rattle.jvm_class_start.proofs.Walks.{units_started, units_further, units_ended, units_all, units_some}
use Rattle.jvm_class_start.proofs.arguments.argument_units.Goals as goal

pub loop-i-init : goal.loop-i-init
loop-i-init c = record {
  so_far = units_started (length c.behind_open-start.result.now) c.args.descriptor.now c.behind_open-start.result.now
      c.behind_open-start.ensures refl;
  small = omega arith;
}

pub returns-in-None-clause-value : goal.returns-in-None-clause-value
returns-in-None-clause-value c =
    units_ended (length c.behind_open-start.result.now - c.loop-i.i) c.loop-i.units c.loop-i.rest.now _
    (sym c.in-None.ensures.value) c.loop-i.invariant.so_far

pub loop-i-preserved : goal.loop-i-preserved
loop-i-preserved c =
    let further = units_further (length c.behind_open-start.result.now) c.loop-i.i c.loop-i.units c.loop-i.rest.now
    c.in-Some.behind.now (type_seen c.in-Some.found) _ (omega (arith, c.loop-i-test.true)) (sym c.in-Some.ensures.value)
    c.loop-i.invariant.so_far in
    record {
      so_far = rw c.units-units.ensures further;
      small = omega (arith, c.loop-i.invariant.small, units_some (type_seen c.in-Some.found), c.units-units.ensures);
    }

pub returns-clause-value : goal.returns-clause-value
returns-clause-value c =
    units_all (length c.behind_open-start.result.now - c.loop-i.i) c.loop-i.units c.loop-i.rest.now _
    (omega (arith, c.loop-i-test.false)) c.loop-i.invariant.so_far
