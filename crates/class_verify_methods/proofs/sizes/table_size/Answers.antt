use Rattle.std.proofs.Common.{◌<◌, sym, subst, ◌∙◌, arith}
use Rattle.std.specs.Int.{w32, cast_unsigned}
use Rattle.jvm_code_instructions.proofs.Lengths.{table_length}
use Rattle.class_verify_methods.proofs.sizes.table_size.Goals as goal

pub returns-then-count-gt65535 : goal.returns-then-count-gt65535
returns-then-count-gt65535 c =
    subst (λ n. 65535 < n) (sym (table_length c.args.offset c.args.table.now.default (cast_unsigned w32 c.args.table.now.low) c.args.table.now.targets.items)) (omega arith)

pub returns : goal.returns
returns c = (sym (table_length c.args.offset c.args.table.now.default (cast_unsigned w32 c.args.table.now.low) c.args.table.now.targets.items ∙ omega arith), omega arith)
