use Rattle.std.proofs.Common.{◌≡◌, ◌++◌, map, take}
use Rattle.std.specs.List.{flat_map}
use Rattle.jvm_pieces.specs.Pieces.{pieces}
use Rattle.jvm_class_grammar.specs.Grammar as grammar
use Rattle.jvm_class_types.specs.Seen.{handler_seen}
use Rattle.class_writer_members.proofs.handlers.put_each.Given as goal

abbrev pub invariant-loop-handler : goal.invariant-loop-handler
invariant-loop-handler l =
    l.into.items ≡ l.fn.into.items
    ++ pieces l.pool (flat_map (grammar.handler l.pool).spell (map handler_seen (take l.handler-index l.handlers)))
