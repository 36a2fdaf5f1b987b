use Rattle.std.proofs.Common.{None, codes}
use Rattle.std.specs.Int.{w16, to_be_bytes}
use Rattle.jvm_pool.specs.declared.entries.Entry.TheVariants as entry
use Rattle.jvm_pieces.specs.Pieces.{index, pieces}
use Rattle.jvm_class_types.specs.Seen.{code_seen}
use Rattle.jvm_class_formats.specs.Formats.{sized}
use Rattle.jvm_maps.specs.Frames.{before}
use Rattle.jvm_class_grammar.specs.Grammar.{code_body}
use Rattle.class_writer_members.proofs.Appends.{two_parts}
use Rattle.class_writer.proofs.bodies.put_code.Goals as goal

pub returns : goal.returns
returns c =
    two_parts c.args.into.now.items c.put_code_name.new.into.items c.put_sized_body.new.into.items
    (to_be_bytes w16 (index c.args.pool.now (entry.Utf8 (codes "Code"))))
    (pieces c.args.pool.now ((sized (code_body c.args.pool.now (before None c.args.start.now))).spell
    (code_seen c.args.code.now))) c.in_ok-put_code_name.ensures c.in_ok-put_sized_body.ensures
