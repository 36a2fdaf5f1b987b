use Rattle.std.proofs.Common.{◌≡◌, ◌++◌, map, take}
use Rattle.std.specs.List.{flat_map}
use Rattle.jvm_pieces.specs.Pieces.{pieces}
use Rattle.jvm_class_grammar.specs.Grammar as grammar
use Rattle.jvm_class_types.specs.Seen.{method_seen}
use Rattle.class_writer.proofs.methods.put_each.Given as goal

abbrev pub invariant-loop-method : goal.invariant-loop-method
invariant-loop-method l =
    l.into.items ≡ l.fn.into.items
    ++ pieces l.pool (flat_map (grammar.method l.pool l.class).spell (map method_seen (take l.method-index l.methods)))
