use Rattle.std.proofs.Common.{◌≡◌, ◌-◌, map}
use Rattle.jvm_class_formats.specs.Formats.{times_at}
use Rattle.jvm_class_formats.specs.Reads.{in_front}
use Rattle.jvm_class_grammar.specs.Grammar as grammar
use Rattle.jvm_class_types.specs.Seen.{handler_seen}
use Rattle.jvm_class_types.specs.declared.classes.Handler.{Handler}
use Rattle.class_reader_members.proofs.handlers.some_handlers.Given as goal

abbrev pub invariant-loop-i : goal.invariant-loop-i
invariant-loop-i l =
    in_front (map handler_seen l.handlers.items) (times_at (grammar.handler l.pool) (l.count - l.i) l.spot)
    ≡ times_at (grammar.handler l.pool) l.count l.initial.spot
