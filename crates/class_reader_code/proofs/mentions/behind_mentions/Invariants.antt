use Rattle.std.proofs.Common.{◌≡◌, drop}
use Rattle.jvm_code.specs.Decoding.{rows}
use Rattle.jvm_class_grammar.specs.Instructions.{mentions_at}
use Rattle.class_reader_code.proofs.mentions.behind_mentions.Given as goal

abbrev pub invariant-loop-item : goal.invariant-loop-item
invariant-loop-item l =
    mentions_at l.pool l.start (rows (drop l.item-index l.instructions)) l.spot
    ≡ mentions_at l.pool l.start (rows l.instructions) l.initial.spot
