use Rattle.std.proofs.Common.{◌∙◌}
use Rattle.jvm_class_first.proofs.Parts.{instructions_in_parts}
use Rattle.jvm_class_first.proofs.members.put_instructions.Goals as goal

pub returns-clause-ok : goal.returns-clause-ok
returns-clause-ok c =
    c.in_ok-bytes.ensures
    ∙ instructions_in_parts c.args.code.now c.args.draft.now c.put_turn.new.draft c.put_steps.new.draft c.in_ok-put_turn.ensures.ok c.in_ok-put_steps.ensures.ok
