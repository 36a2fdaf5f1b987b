use Rattle.std.proofs.Common.{◌≡◌, ℕ, List, ◌++◌, length, refl, ap, ◌∙◌}
use Rattle.std.specs.Int.{w16, to_be_bytes}
use Rattle.std.specs.List.{flat_map}
use Rattle.std.proofs.lemmas.Result.{err_from_is_err_and}
use Rattle.jvm_pieces.specs.Pieces.{draft}
use Rattle.jvm_frames.specs.Fitting.{type_pieces}
use Rattle.jvm_frames.proofs.Puts.{bytes_then, same_grew}
use Rattle.jvm_frames.proofs.writing.put_counted.Goals as goal

pub returns-in_err-put_bytes : goal.returns-in_err-put_bytes
returns-in_err-put_bytes c =
    let p = err_from_is_err_and c.from_residual.result c.from_residual.ensures.1 in
    rw (p.1, p.2) (same_grew c.args.pool.now c.args.pool.now c.args.into.now.items c.put_bytes.new.into.items refl
    c.in_err-put_bytes.ensures.err)

pub returns : goal.returns
returns c =
    let bytes : c.to_be_bytes.result ≡ to_be_bytes w16 (length c.args.types.now) = cc in
    let ok = c.in_ok-put_bytes.ensures.ok ∙ ap (λ (l : List ℕ). c.args.into.now.items ++ l) bytes in
    bytes_then c.args.pool.now c.args.into.now.items c.put_bytes.new.into.items
    (to_be_bytes w16 (length c.args.types.now)) (draft c.put_types.new.pool c.put_types.new.into.items)
    (flat_map type_pieces c.args.types.now) c.put_types.result ok c.put_types.ensures
