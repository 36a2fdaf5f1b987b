use Rattle.std.proofs.Common.{map, arith}
use Rattle.std.proofs.lemmas.List.{map_push}
use Rattle.std.proofs.lemmas.Result.{err_from_is_err_and}
use Rattle.std.specs.Global.{Vec}
use Rattle.jvm_class_formats.specs.Formats.{Spot}
use Rattle.class_reader_members.proofs.Times.{one_more, one_refused, all_read}
use Rattle.jvm_class_grammar.specs.Grammar as grammar
use Rattle.jvm_class_types.specs.Seen.{method_seen}
use Rattle.jvm_class_types.specs.declared.classes.Method.{Method}
use Rattle.class_reader.proofs.methods.some_methods.Goals as goal

pub loop-i-preserved : goal.loop-i-preserved
loop-i-preserved c =
    rw (c.in_ok-push.ensures.items, map_push method_seen _ _) (one_more (grammar.method c.args.pool.now
    c.args.class.now) c.args.count c.loop-i.i (map method_seen c.loop-i.methods.items)
    c.loop-i.spot c.in_ok-method.behind (method_seen c.in_ok-method.method) _ (omega (arith, c.loop-i-test.true))
    c.in_ok-method.ensures c.loop-i.invariant)

pub returns-in_err-method : goal.returns-in_err-method
returns-in_err-method c =
    let p = err_from_is_err_and c.from_residual.result c.from_residual.ensures.1 in
    rw (p.1, p.2) (one_refused (λ (x : Method × Spot). (method_seen x.0, x.1))
    (λ (x : Vec Method × Spot). (map method_seen x.0.items, x.1)) (grammar.method c.args.pool.now c.args.class.now)
    c.args.count c.loop-i.i
    (map method_seen c.loop-i.methods.items) c.loop-i.spot c.in_err-method.field-0.0 _ (omega (
      arith,
      c.loop-i-test.true,
    ))
    c.in_err-method.ensures c.loop-i.invariant)

pub returns : goal.returns
returns c =
    all_read (grammar.method c.args.pool.now c.args.class.now) c.args.count c.loop-i.i (map method_seen
    c.loop-i.methods.items) c.loop-i.spot _
    (omega (arith, c.loop-i-test.false)) c.loop-i.invariant
