use Rattle.std.proofs.Common.{rules}
use Rattle.class_index.proofs.AddingMembers.{puts}
use Rattle.class_index.proofs.members.MemberIndex.put.Goals as goal

pub returns-in_ok-_before : goal.returns-in_ok-_before
returns-in_ok-_before c =
    puts c.args.self.now c.insert.new.self c.args.class c.args.key c.args.place (search rules) c.in_ok-_before.ensures.updates
