use Rattle.std.proofs.Common.{◌<◌, sym, subst, ◌∙◌, arith}
use Rattle.std.specs.Prelude.{map}
use Rattle.std.proofs.lemmas.List.{length-map}
use Rattle.jvm_code_instructions.specs.Table.{pair_of}
use Rattle.jvm_code_instructions.proofs.Lengths.{lookup_length}
use Rattle.class_verify_methods.proofs.sizes.lookup_size.Goals as goal

pub returns-then-count-gt65535 : goal.returns-then-count-gt65535
returns-then-count-gt65535 c =
    subst (λ n. 65535 < n) (sym (lookup_length c.args.offset c.args.lookup.now.default (map pair_of c.args.lookup.now.pairs.items)))
    (omega (arith, length-map c.args.lookup.now.pairs.items pair_of))

pub returns : goal.returns
returns c = (sym (lookup_length c.args.offset c.args.lookup.now.default (map pair_of c.args.lookup.now.pairs.items) ∙ omega (arith, length-map c.args.lookup.now.pairs.items pair_of)), omega arith)
