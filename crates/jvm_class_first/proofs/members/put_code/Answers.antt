use Rattle.jvm_class_first.specs.Instructions.{instructions}
use Rattle.jvm_class_first.specs.Parts.{code_front, ending}
use Rattle.jvm_class_first.proofs.Parts.{three_parts}
use Rattle.jvm_class_first.proofs.members.put_code.Goals as goal

pub returns : goal.returns
returns c =
    three_parts c.put_ending.result (code_front c.args.code.now) (instructions c.args.code.now) ending c.args.draft.now c.put_code_front.new.draft c.put_instructions.new.draft c.put_ending.new.draft
    c.in_ok-put_code_front.ensures.ok c.in_ok-put_instructions.ensures.ok c.put_ending.ensures
