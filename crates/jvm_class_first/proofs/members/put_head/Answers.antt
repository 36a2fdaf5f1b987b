use Rattle.jvm_class_first.specs.Parts.{names, counts, method_front}
use Rattle.jvm_class_first.proofs.Parts.{three_parts}
use Rattle.jvm_class_first.proofs.members.put_head.Goals as goal

pub returns-clause-ok : goal.returns-clause-ok
returns-clause-ok c =
    three_parts c.put_method_front.result names counts method_front c.args.draft.now c.put_names.new.draft c.put_counts.new.draft c.put_method_front.new.draft
    c.in_ok-put_names.ensures.ok c.in_ok-put_counts.ensures.ok c.put_method_front.ensures.ok
