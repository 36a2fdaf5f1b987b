use Rattle.std.proofs.Common.{◌≡◌}
use Rattle.std.proofs.lemmas.Result.{err_from_is_err_and}
use Rattle.jvm_pool.proofs.Growing.{new_fails, then_each}
use Rattle.jvm_pool.proofs.pool.Pool.add_new.Goals as goal

pub returns-in_err-add_one : goal.returns-in_err-add_one
returns-in_err-add_one c =
    let copy : c.in_ok-clone.field-0 ≡ c.args.e.now = c.in_ok-clone.ensures.cases in
    let p = err_from_is_err_and c.from_residual-in_err-add_one.result c.from_residual-in_err-add_one.ensures.1 in
    rw (p.1, p.2) (new_fails c.args.self.now c.add_one.new.self c.args.e.now c.in_err-add_one.field-0.0 c.requires (rw copy at c.in_err-add_one.ensures))

pub returns : goal.returns
returns c =
    let copy : c.in_ok-clone.field-0 ≡ c.args.e.now = c.in_ok-clone.ensures.cases in
    then_each c.args.self.now c.add_one.new.self c.add_each.new.self c.args.e.now c.add_each.result c.requires (rw copy at c.in_ok-add_one.ensures) (rw c.in_ok-parts.ensures at c.add_each.ensures)
