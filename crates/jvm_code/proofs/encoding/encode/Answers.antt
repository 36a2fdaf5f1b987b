use Rattle.std.proofs.Common.{◌++◌, take, ap, sym, ◌∙◌}
use Rattle.jvm_code_instructions.specs.Table.{row_of}
use Rattle.jvm_code_instructions.specs.Spelling.{row_bytes}
use Rattle.jvm_code.specs.Spelling.{spelling}
use Rattle.jvm_code.specs.Decoding.{rows}
use Rattle.jvm_code.proofs.Following.{spelling_more}
use Rattle.jvm_code.proofs.encoding.encode.Goals as goal

pub loop-item-preserved : goal.loop-item-preserved
loop-item-preserved c =
    c.in_ok-put_instr.ensures ∙ ap (λ x. x ++ row_bytes c.item-item.result.0 (row_of c.item-item.result.1)) c.loop-item.invariant
    ∙ ap (λ x. spelling (rows (take c.loop-item.item-index c.args.code.now)) ++ row_bytes x.0 (row_of x.1)) c.item-item.is
    ∙ sym (spelling_more c.args.code.now c.loop-item.item-index c.item-item.result c.loop-item-test.true)
