use Rattle.std.proofs.Common.{ℕ, List, ◌++◌, refl, ap, ◌∙◌}
use Rattle.std.specs.Int.{w8, to_be_bytes}
use Rattle.std.proofs.lemmas.Result.{err_from_is_err_and}
use Rattle.jvm_pieces.specs.Pieces.{draft}
use Rattle.jvm_maps.specs.Types.{type_tag}
use Rattle.jvm_frames.specs.Fitting.{type_rest}
use Rattle.jvm_frames.proofs.Puts.{bytes_then, same_grew, one_byte, type_small}
use Rattle.jvm_frames.proofs.writing.put_type.Goals as goal

pub returns-in_err-put_bytes : goal.returns-in_err-put_bytes
returns-in_err-put_bytes c =
    let p = err_from_is_err_and c.from_residual.result c.from_residual.ensures.1 in
    rw (p.1, p.2) (same_grew c.args.pool.now c.args.pool.now c.args.into.now.items c.put_bytes.new.into.items refl
    c.in_err-put_bytes.ensures.err)

pub returns : goal.returns
returns c =
    let bytes = c.to_be_bytes.ensures ∙ one_byte c.tag_of.result (type_tag c.args.frame_type.now) c.tag_of.ensures
    (type_small c.args.frame_type.now) in
    let ok = c.in_ok-put_bytes.ensures.ok ∙ ap (λ (l : List ℕ). c.args.into.now.items ++ l) bytes in
    bytes_then c.args.pool.now c.args.into.now.items c.put_bytes.new.into.items
    (to_be_bytes w8 (type_tag c.args.frame_type.now))
    (draft c.put_behind_tag.new.pool c.put_behind_tag.new.into.items) (type_rest c.args.frame_type.now)
    c.put_behind_tag.result ok c.put_behind_tag.ensures
