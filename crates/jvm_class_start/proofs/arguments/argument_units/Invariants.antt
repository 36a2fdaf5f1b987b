use Rattle.std.proofs.Common.{◌≡◌, ◌+◌, ◌-◌, ◌*◌, ◌≤◌}
use Rattle.jvm_class_grammar.specs.Kinds.{parameters, types_before_close, units_of}
use Rattle.jvm_class_start.proofs.arguments.argument_units.Given as goal

abbrev pub invariant-loop-i : goal.invariant-loop-i
invariant-loop-i l = record {
  so_far : l.units + units_of (types_before_close (l.i-end - l.i) l.rest) ≡ units_of (parameters l.descriptor);
  small : l.units ≤ 2 * l.i;
}
