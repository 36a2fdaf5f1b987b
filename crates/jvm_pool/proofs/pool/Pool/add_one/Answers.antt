use Rattle.std.proofs.Common.{◌≡◌, ◌+◌, ◌<◌, [], ◌∷◌, ap, ◌∙◌, arith}
use Rattle.jvm_pool.specs.Entries.{size, units}
use Rattle.jvm_pool.proofs.Growing.{absent, present, one_known, one_new, one_full}
use Rattle.jvm_pool.proofs.Same.{units-append}
use Rattle.jvm_pool.proofs.pool.Pool.add_one.Goals as goal

pub returns-then-is_some : goal.returns-then-is_some
returns-then-is_some c = one_known c.args.self.now c.args.e (present c.args.self.now c.args.e c.is_some.result c.index_of.result c.index_of.ensures c.is_some.ensures c.if-is_some.true)

pub returns : goal.returns
returns c =
    let new = absent c.args.self.now c.args.e c.is_some.result c.index_of.result c.index_of.ensures c.is_some.ensures c.if-is_some.false in
    c.in_ok-push.ensures.ok ∙ one_new c.args.self.now c.args.e new

pub returns-then-self-size-gt65535 : goal.returns-then-self-size-gt65535
returns-then-self-size-gt65535 c =
    let new = absent c.args.self.now c.args.e c.is_some.result c.index_of.result c.index_of.ensures c.is_some.ensures c.if-is_some.false in
    let counted : c.self.inside.count ≡ 1 + units c.args.self.now = c.self.invariant.counted ∙ ap (λ l. 1 + units l) c.self.view_is in
    let big : 65535 < c.self.inside.count + size c.args.e = omega (arith, c.size.ensures, c.if-self-size-gt65535.true) in
    one_full c.args.self.now c.args.e c.self.inside.count new counted big

pub push-requires-clause-absent : goal.push-requires-clause-absent
push-requires-clause-absent c = absent c.args.self.now c.args.e c.is_some.result c.index_of.result c.index_of.ensures c.is_some.ensures c.if-is_some.false

pub push-requires-clause-fits : goal.push-requires-clause-fits
push-requires-clause-fits c =
    let counted : c.self.inside.count ≡ 1 + units c.args.self.now = c.self.invariant.counted ∙ ap (λ l. 1 + units l) c.self.view_is in
    omega (arith, c.size.ensures, c.if-self-size-gt65535.false, units-append c.args.self.now (c.args.e ∷ []))
