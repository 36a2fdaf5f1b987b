use Rattle.std.proofs.Common.{rules}
use Rattle.kt_types_builtins.specs.Members.{same_receiver}
use Rattle.kt_types_builtins.proofs.members.is_same_receiver.Goals as goal

pub returns : goal.returns
unfolding same_receiver
returns c = search rules
