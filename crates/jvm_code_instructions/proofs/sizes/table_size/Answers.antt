use Rattle.std.proofs.Common.{sym, ◌∙◌, arith}
use Rattle.std.specs.Int.{w32, cast_unsigned}
use Rattle.jvm_code_instructions.proofs.Lengths.{table_length}
use Rattle.jvm_code_instructions.proofs.sizes.table_size.Goals as goal

pub returns-clause-is : goal.returns-clause-is
returns-clause-is c = sym (table_length c.args.at c.args.table.now.default (cast_unsigned w32 c.args.table.now.low) c.args.table.now.targets.items ∙ omega arith)
