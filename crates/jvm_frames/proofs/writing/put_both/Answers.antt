use Rattle.std.proofs.lemmas.Result.{err_from_is_err_and}
use Rattle.jvm_pieces.specs.Pieces.{draft}
use Rattle.jvm_frames.specs.Fitting.{counted_pieces}
use Rattle.jvm_frames.proofs.Puts.{puts_stops, puts_then}
use Rattle.jvm_frames.proofs.writing.put_both.Goals as goal

pub returns-in_err-put_counted : goal.returns-in_err-put_counted
returns-in_err-put_counted c =
    let p = err_from_is_err_and c.from_residual.result c.from_residual.ensures.1 in
    rw (p.1, p.2) (puts_stops (draft c.args.pool.now c.args.into.now.items)
    (draft c.put_counted.new.pool c.put_counted.new.into.items) (counted_pieces c.args.locals.now)
    (counted_pieces c.args.stack.now) c.in_err-put_counted.field-0.0 c.in_err-put_counted.ensures)

pub returns : goal.returns
returns c =
    puts_then (draft c.args.pool.now c.args.into.now.items)
    (draft c.put_counted.new.pool c.put_counted.new.into.items) _ (counted_pieces c.args.locals.now)
    (counted_pieces c.args.stack.now) c.put_counted-2.result c.in_ok-put_counted.ensures c.put_counted-2.ensures
