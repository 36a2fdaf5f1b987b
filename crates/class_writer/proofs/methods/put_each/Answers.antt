use Rattle.std.proofs.Common.{arith}
use Rattle.jvm_class_grammar.specs.Grammar as grammar
use Rattle.jvm_class_types.specs.Seen.{method_seen}
use Rattle.class_writer_members.proofs.Appends.{each_more}
use Rattle.class_writer.proofs.Written.{allowed_at}
use Rattle.class_writer.proofs.methods.put_each.Goals as goal

pub put_method-requires : goal.put_method-requires
put_method-requires c =
    allowed_at (grammar.method c.args.pool.now c.args.class.now).allows method_seen c.args.methods.now
    c.loop-method.method-index c.method-item.result (omega arith) c.method-item.is c.requires

pub loop-method-preserved : goal.loop-method-preserved
loop-method-preserved c =
    each_more c.args.pool.now (grammar.method c.args.pool.now c.args.class.now).spell method_seen c.args.methods.now
    c.loop-method.method-index c.method-item.result c.args.into.now.items c.loop-method.into.items
    c.put_method.new.into.items (omega arith) c.method-item.is c.loop-method.invariant c.in_ok-put_method.ensures
