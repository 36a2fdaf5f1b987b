use Rattle.std.proofs.Common.{◌≡◌, ◌-◌, ◌++◌, map}
use Rattle.jvm_class_grammar.specs.Kinds.{types_before_close}
use Rattle.class_constants.specs.Kinds.{behind_parameters, behind_types, parameter_kinds, value_kind}
use Rattle.class_constants.proofs.signatures.parameters_of.Given as goal

abbrev pub invariant-loop-i : goal.invariant-loop-i
invariant-loop-i l = record {
  so_far : l.kinds ++ map (value_kind l.headers) (types_before_close (l.i-end - l.i) l.rest)
      ≡ parameter_kinds l.headers l.descriptor;
  behind : behind_types (l.i-end - l.i) l.rest ≡ behind_parameters l.descriptor;
}
