use Rattle.jvm_class_types.specs.Seen.{class_seen}
use Rattle.class_writer.proofs.Written.{class_so}
use Rattle.class_writer.proofs.class.put_class_body.Goals as goal

pub returns : goal.returns
returns c =
    class_so c.args.class.now.pool (class_seen c.args.class.now) c.args.into.now.items c.put_names.new.into.items
    c.put_members.new.into.items c.in_ok-put_names.ensures c.in_ok-put_members.ensures
