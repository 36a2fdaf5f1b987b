use Rattle.std.specs.Vec.Iter.{into_iter_items}
use Rattle.std.proofs.lemmas.Result.{err_from_is_err_and}
use Rattle.jvm_pool.proofs.Growing.{each_fails}
use Rattle.jvm_pool.proofs.pool.Pool.add_each.Goals as goal

pub returns-in_err-add_one : goal.returns-in_err-add_one
returns-in_err-add_one c =
    let p = err_from_is_err_and c.from_residual.result c.from_residual.ensures.1 in
    rw (p.1, p.2) (each_fails c.args.self.now c.loop-e.self c.add_one.new.self c.args.entries.items (into_iter_items c.loop-e.e-iterator) (into_iter_items c.next.new.self) c.in-Some.e c.in_err-add_one.field-0.0
    c.loop-e.invariant.left c.loop-e.invariant.grown c.in-Some.ensures.steps.0 c.in_err-add_one.ensures)
