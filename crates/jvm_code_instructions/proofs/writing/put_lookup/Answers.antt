use Rattle.std.proofs.Common.{◌++◌, ◌∙◌, ap, ◌%◌, ◌^◌, length}
use Rattle.std.specs.Prelude.{map}
use Rattle.std.specs.List.{flat_map}
use Rattle.std.specs.Int.{w32, to_be_bytes}
use Rattle.std.proofs.lemmas.List.{length-map}
use Rattle.jvm_code_instructions.specs.Table.{pair_of}
use Rattle.jvm_code_instructions.specs.Spelling.{far_bytes, padding, pair_bytes}
use Rattle.jvm_code_instructions.proofs.Writes.{four_parts}
use Rattle.jvm_code_instructions.proofs.writing.put_lookup.Goals as goal

pub returns : goal.returns
returns c =
    rw length-map
    (four_parts c.args.out.now.items (padding c.args.at) (far_bytes c.args.at c.args.lookup.now.default) (to_be_bytes w32 (length c.args.lookup.now.pairs.items % 2 ^ 32))
    (flat_map (pair_bytes c.args.at) (map pair_of c.args.lookup.now.pairs.items))
    c.put_padding.new.out.items c.put_far.new.out.items c.put_u32.new.out.items c.put_pairs.new.out.items
    c.in_ok-put_padding.ensures c.in_ok-put_far.ensures
    (c.in_ok-put_u32.ensures ∙ ap (λ n. c.put_far.new.out.items ++ to_be_bytes w32 n) c.count_of-count.ensures)
    (rw c.deref.ensures.value at c.in_ok-put_pairs.ensures))
