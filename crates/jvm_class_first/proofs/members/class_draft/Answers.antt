use Rattle.std.proofs.Common.{◌∙◌, [], ap, arith}
use Rattle.jvm_pool.specs.Entries.{units}
use Rattle.jvm_pieces.specs.Pieces.{draft, with_pieces}
use Rattle.jvm_class_first.specs.Parts.{names, counts, method_front}
use Rattle.jvm_class_first.proofs.Parts.{in_parts}
use Rattle.std.specs.Prelude.{◌++◌}
use Rattle.jvm_class_first.proofs.members.class_draft.Goals as goal

pub put_code-requires-clause-room : goal.put_code-requires-clause-room
put_code-requires-clause-room c =
    omega (arith, c.in_ok-put_head.ensures.grows, ap (λ d. units d.pool) c.new-draft.ensures)

pub returns : goal.returns
returns c =
    c.in_ok-put_code.ensures
    ∙ in_parts c.args.code.now (draft [] []) c.put_head.new.draft (c.in_ok-put_head.ensures.ok ∙ ap (with_pieces (names ++ (counts ++ method_front))) c.new-draft.ensures)
