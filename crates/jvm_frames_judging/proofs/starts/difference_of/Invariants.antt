use Rattle.std.proofs.Common.{◌≡◌, ◌+◌, ◌-◌, ◌≤◌, map}
use Rattle.jvm_class_grammar.specs.Grammar.{in_frame}
use Rattle.jvm_class_grammar.specs.Kinds.{parameters, types_before_close}
use Rattle.jvm_frames_judging.specs.Starts.{walk}
use Rattle.jvm_frames_judging.proofs.starts.difference_of.Given as goal

abbrev pub invariant-loop-i : goal.invariant-loop-i
invariant-loop-i l = record {
  so_far : walk (map in_frame (types_before_close (l.i-end - l.i) l.rest)) l.left l.without
      ≡ walk (map in_frame (parameters l.descriptor)) l.initial.left l.initial.without;
  few : l.without ≤ 1 + l.i;
}
