use Rattle.std.proofs.Common.{◌≡◌, ◌-◌, map}
use Rattle.jvm_class_formats.specs.Formats.{times_at}
use Rattle.jvm_class_formats.specs.Reads.{in_front}
use Rattle.jvm_class_grammar.specs.Grammar as grammar
use Rattle.jvm_class_types.specs.Seen.{method_seen}
use Rattle.jvm_class_types.specs.declared.classes.Method.{Method}
use Rattle.class_reader.proofs.methods.some_methods.Given as goal

abbrev pub invariant-loop-i : goal.invariant-loop-i
invariant-loop-i l =
    in_front (map method_seen l.methods.items) (times_at (grammar.method l.pool l.class) (l.count - l.i) l.spot)
    ≡ times_at (grammar.method l.pool l.class) l.count l.initial.spot
