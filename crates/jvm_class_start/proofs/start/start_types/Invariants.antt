use Rattle.std.proofs.Common.{◌≡◌, ◌-◌, ◌++◌, map}
use Rattle.std.specs.Str.{IsAscii}
use Rattle.jvm_class_grammar.specs.Grammar.{receiver, in_frame}
use Rattle.jvm_class_grammar.specs.Kinds.{parameters, types_before_close}
use Rattle.jvm_class_start.proofs.start.start_types.Given as goal

abbrev pub invariant-loop-i : goal.invariant-loop-i
invariant-loop-i l = record {
  so_far : l.types.items ++ map in_frame (types_before_close (l.i-end - l.i) l.rest)
      ≡ receiver l.class l.fn.flags l.name ++ map in_frame (parameters l.descriptor);
  ascii : IsAscii l.rest;
}
