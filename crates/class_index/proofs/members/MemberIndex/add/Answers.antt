use Rattle.std.proofs.lemmas.Result.{on_ok_weaker}
use Rattle.class_index.proofs.AddingMembers.{member_added}
use Rattle.class_index.proofs.members.MemberIndex.add.Goals as goal

pub returns-clause-added : goal.returns-clause-added
returns-clause-added c =
    on_ok_weaker c.put.result
    (member_added c.args.self.now c.requires _ _ c.args.name.now c.args.descriptor.now _ _ c.in_ok-name.ensures c.in_ok-descriptor.ensures c.put.new.self c.args.class c.args.place)
    c.put.ensures
