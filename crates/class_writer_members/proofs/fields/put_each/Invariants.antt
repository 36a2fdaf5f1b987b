use Rattle.std.proofs.Common.{◌≡◌, ◌++◌, map, take}
use Rattle.std.specs.List.{flat_map}
use Rattle.jvm_pieces.specs.Pieces.{pieces}
use Rattle.jvm_class_grammar.specs.Grammar as grammar
use Rattle.jvm_class_types.specs.Seen.{field_seen}
use Rattle.class_writer_members.proofs.fields.put_each.Given as goal

abbrev pub invariant-loop-field : goal.invariant-loop-field
invariant-loop-field l =
    l.into.items ≡ l.fn.into.items
    ++ pieces l.pool (flat_map (grammar.field l.pool).spell (map field_seen (take l.field-index l.fields)))
