use Rattle.std.proofs.Common.{refl}
use Rattle.std.proofs.lemmas.Result.{err_from_is_err_and}
use Rattle.jvm_frames.proofs.Puts.{same_grew}
use Rattle.jvm_frames.proofs.writing.put_behind_tag.Goals as goal

pub returns-in_err-put_bytes-in-Uninitialized : goal.returns-in_err-put_bytes-in-Uninitialized
returns-in_err-put_bytes-in-Uninitialized c =
    let p = err_from_is_err_and c.from_residual.result c.from_residual.ensures.1 in
    rw (p.1, p.2) (same_grew c.args.pool.now c.args.pool.now c.args.into.now.items c.put_bytes.new.into.items refl
    c.in_err-put_bytes-in-Uninitialized.ensures.err)
