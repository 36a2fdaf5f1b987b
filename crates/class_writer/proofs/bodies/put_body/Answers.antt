use Rattle.std.proofs.Common.{None}
use Rattle.jvm_class_types.specs.Seen.{code_seen}
use Rattle.jvm_maps.specs.Frames.{before}
use Rattle.jvm_code.specs.Decoding.{rows}
use Rattle.class_writer.proofs.Written.{body_so, put_so}
use Rattle.class_writer.proofs.bodies.put_body.Goals as goal

pub returns : goal.returns
returns c =
    body_so c.args.pool.now (before None c.args.start.now) (code_seen c.args.code.now) c.requires.1.1.1.0.2
    c.args.into.now.items c.put_half.new.into.items c.put_half-2.new.into.items c.put_instructions.new.into.items
    c.put_behind_code.new.into.items c.in_ok-put_half.ensures c.in_ok-put_half-2.ensures
    (put_so c.deref.result.now c.args.code.now.instructions.items c.put_half-2.new.into.items
    c.put_instructions.new.into.items c.deref.ensures.value c.in_ok-put_instructions.ensures)
    c.in_ok-put_behind_code.ensures
