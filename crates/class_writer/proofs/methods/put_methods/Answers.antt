use Rattle.jvm_class_grammar.specs.Grammar as grammar
use Rattle.jvm_class_types.specs.Seen.{method_seen}
use Rattle.class_writer_members.proofs.Appends.{counted_so}
use Rattle.class_writer.proofs.methods.put_methods.Goals as goal

pub returns : goal.returns
returns c =
    counted_so c.args.pool.now (grammar.method c.args.pool.now c.args.class.now) method_seen c.args.methods.now
    c.args.into.now.items c.put_half.new.into.items c.put_each.new.into.items c.in_ok-put_half.ensures
    c.in_ok-put_each.ensures
