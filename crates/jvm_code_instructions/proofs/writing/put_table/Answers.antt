use Rattle.std.proofs.Common.{◌++◌, ◌∙◌, ap, length}
use Rattle.std.specs.List.{flat_map}
use Rattle.std.specs.Int.{w32, to_be_bytes, cast_unsigned}
use Rattle.jvm_code_instructions.specs.Spelling.{far_bytes, padding, high_of}
use Rattle.jvm_code_instructions.proofs.Writes.{five_parts}
use Rattle.jvm_code_instructions.proofs.writing.put_table.Goals as goal

pub returns : goal.returns
returns c =
    five_parts c.args.out.now.items (padding c.args.at) (far_bytes c.args.at c.args.table.now.default) (to_be_bytes w32 (cast_unsigned w32 c.args.table.now.low))
    (to_be_bytes w32 (high_of (cast_unsigned w32 c.args.table.now.low) (length c.args.table.now.targets.items))) (flat_map (far_bytes c.args.at) c.args.table.now.targets.items)
    c.put_padding.new.out.items c.put_far.new.out.items c.put_u32.new.out.items c.put_u32-2.new.out.items c.put_targets.new.out.items
    c.in_ok-put_padding.ensures c.in_ok-put_far.ensures
    (c.in_ok-put_u32.ensures ∙ ap (λ n. c.put_far.new.out.items ++ to_be_bytes w32 n) c.low_bits_of-low.ensures)
    (c.in_ok-put_u32-2.ensures ∙ ap (λ n. c.put_u32.new.out.items ++ to_be_bytes w32 n) c.high_bits_of-high.ensures)
    (rw c.deref.ensures.value at c.in_ok-put_targets.ensures)
