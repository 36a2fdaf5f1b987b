use Rattle.std.proofs.Common.{sym, ◌∙◌, arith}
use Rattle.std.specs.Prelude.{map}
use Rattle.std.proofs.lemmas.List.{length-map}
use Rattle.jvm_code_instructions.specs.Table.{pair_of}
use Rattle.jvm_code_instructions.proofs.Lengths.{lookup_length}
use Rattle.jvm_code_instructions.proofs.sizes.lookup_size.Goals as goal

pub returns-clause-is : goal.returns-clause-is
returns-clause-is c = sym (lookup_length c.args.at c.args.lookup.now.default (map pair_of c.args.lookup.now.pairs.items) ∙ omega (arith, length-map c.args.lookup.now.pairs.items pair_of))
