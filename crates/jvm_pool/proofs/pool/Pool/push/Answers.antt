use Rattle.std.proofs.Common.{◌≡◌, ◌+◌, ◌<◌, ◌++◌, [], ◌∷◌, false, ap, ◌∙◌, arith}
use Rattle.std.specs.Map.{keys_of}
use Rattle.jvm_pool.specs.Entries.{units}
use Rattle.jvm_pool.specs.Mentions.{has}
use Rattle.jvm_pool.proofs.Growing.{inserted, keys-push, numbered-push}
use Rattle.jvm_pool.proofs.Same.{units-append}
use Rattle.jvm_pool.proofs.pool.Pool.push.Goals as goal

pub invariant_of-self-2 : goal.invariant_of-self-2
invariant_of-self-2 c =
    let new : has (keys_of c.self.inside.indices.entries) c.args.e ≡ false = ap (λ l. has l c.args.e) c.self.view_is ∙ c.requires.absent in
    let counted : c.self.inside.count ≡ 1 + units c.args.self.now = c.self.invariant.counted ∙ ap (λ l. 1 + units l) c.self.view_is in
    let entries = c.in_ok-insert.ensures.entries ∙ inserted c.self.inside.indices c.args.e c.self.inside.count c.self.invariant.numbered new in
    let fits : c.self.inside.count + c.size.result < 65536 = omega (arith, c.requires.fits, c.size.ensures, units-append c.args.self.now (c.args.e ∷ [])) in
    rw entries (numbered-push c.self.inside.indices.entries c.args.e c.self.inside.count (c.self.inside.count + c.size.result) c.self.invariant (ap (λ n. c.self.inside.count + n) c.size.ensures) fits)

pub returns-clause-ok : goal.returns-clause-ok
returns-clause-ok c =
    let new : has (keys_of c.self.inside.indices.entries) c.args.e ≡ false = ap (λ l. has l c.args.e) c.self.view_is ∙ c.requires.absent in
    let entries = c.in_ok-insert.ensures.entries ∙ inserted c.self.inside.indices c.args.e c.self.inside.count c.self.invariant.numbered new in
    ap keys_of entries ∙ keys-push c.self.inside.indices.entries c.args.e c.self.inside.count ∙ ap (λ l. l ++ c.args.e ∷ []) c.self.view_is
