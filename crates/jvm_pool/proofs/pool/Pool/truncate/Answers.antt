use Rattle.std.proofs.Common.{ap, sym, take, ◌∙◌}
use Rattle.std.specs.Map.{keys_of}
use Rattle.std.proofs.lemmas.List.{take-map}
use Rattle.jvm_pool.proofs.Growing.{all_before, cut_numbered}
use Rattle.jvm_pool.proofs.pool.Pool.truncate.Goals as goal

pub invariant_of-self : goal.invariant_of-self
invariant_of-self c =
    rw (c.truncate.ensures.entries, c.from-self-inside.ensures) (cut_numbered c.self.inside.indices.entries c.self.inside.count c.in-Some.start c.args.kept c.self.invariant (sym c.in-Some.ensures))

pub returns-in-Some : goal.returns-in-Some
returns-in-Some c =
    ap keys_of c.truncate.ensures.entries ∙ sym (take-map (λ p. p.0) c.args.kept c.self.inside.indices.entries) ∙ ap (take c.args.kept) c.self.view_is

pub returns-in_default : goal.returns-in_default
returns-in_default c =
    sym c.self.view_is ∙ all_before c.self.inside.indices.entries c.self.inside.count c.args.kept c.self.invariant (sym c.in_default.ensures) ∙ ap (take c.args.kept) c.self.view_is
