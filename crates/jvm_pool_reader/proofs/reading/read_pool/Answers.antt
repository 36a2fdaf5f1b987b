use Rattle.std.proofs.Common.{ℕ, List, subst}
use Rattle.std.proofs.lemmas.Result.{err_from_is_err_and}
use Rattle.jvm_pool.specs.declared.entries.Entry.{Entry}
use Rattle.jvm_class_formats.specs.Formats.{Spot}
use Rattle.jvm_class_formats.specs.Lawful.{IsBytes}
use Rattle.jvm_pool_reader.proofs.PoolRead.{gives_pool, pool_step, pool_stop}
use Rattle.jvm_pool_reader.proofs.reading.read_pool.Goals as goal

pub returns-in_err-count : goal.returns-in_err-count
returns-in_err-count c =
    let p = err_from_is_err_and c.from_residual.result c.from_residual.ensures.1 in
    rw (p.1, p.2) (pool_stop (λ (x : ℕ × Spot). (x.0, x.1)) (λ (x : List Entry × Spot). (x.0, x.1)) c.args.place c.in_err-count.field-0.0
    c.in_err-count.ensures)

pub returns : goal.returns
returns c = rw (pool_step c.args.place c.in_ok-count.count c.in_ok-count.behind c.in_ok-count.ensures) c.pool_behind.ensures

pub pool_behind-requires-clause-pool : goal.pool_behind-requires-clause-pool
pool_behind-requires-clause-pool c =
    gives_pool c.args.place c.in_ok-count.count c.in_ok-count.behind
    (subst (λ (s : Spot). IsBytes s.bytes) c.place.view_is c.are_bytes.ensures) c.in_ok-count.ensures
