use Rattle.std.proofs.Common.{◌≡◌, ◌∷◌, [], length, drop, map, sym, ap, subst, ◌∙◌}
use Rattle.std.specs.Prelude.{reverse}
use Rattle.class_verify_rules.specs.Kinds.{TopFits, kind_of}
use Rattle.class_verify_steps.proofs.Taking.{split_fits, join_fits, drop_both}
use Rattle.class_verify_steps.proofs.calls.take_with_receiver.Goals as goal

pub returns-then-not-take_arguments : goal.returns-then-not-take_arguments
returns-then-not-take_arguments c = λ h. c.if-not-take_arguments.ensures (split_fits c.args.program.now (reverse (map kind_of c.args.parameters.now)) (c.args.receiver ∷ []) c.args.stack.now h).0

pub returns-then-take : goal.returns-then-take
returns-then-take c =
    let ws = reverse (map kind_of c.args.parameters.now) in
    let a = c.if-not-take_arguments.ensures in
    let b = c.if-take.ensures in (
      join_fits c.args.program.now ws (c.args.receiver ∷ []) c.args.stack.now a.0 (subst (TopFits c.args.program.now (c.args.receiver ∷ [])) a.1 b.0),
      b.1 ∙ ap (drop 1) a.1 ∙ sym (drop_both ws (c.args.receiver ∷ []) c.args.stack.now),
    )

pub returns-else-take : goal.returns-else-take
returns-else-take c = λ h.
    c.if-take.ensures (subst (TopFits c.args.program.now (c.args.receiver ∷ [])) (sym c.if-not-take_arguments.ensures.1)
    (split_fits c.args.program.now (reverse (map kind_of c.args.parameters.now)) (c.args.receiver ∷ []) c.args.stack.now h).1)
