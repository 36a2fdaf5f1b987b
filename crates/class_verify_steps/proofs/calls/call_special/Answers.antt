use Rattle.std.proofs.Common.{◌≡◌, ◌++◌, sym, ap, ◌∙◌}
use Rattle.std.specs.Prelude.{option_map}
use Rattle.class_verify_rules.specs.Bodies.{list_of}
use Rattle.class_verify_rules.specs.Kinds.{kind_of}
use Rattle.class_verify_frames.specs.Views.{body, frame}
use Rattle.class_verify_steps.proofs.Special.{no_arguments, no_object, allowed, stepped}
use Rattle.class_verify_steps.proofs.calls.call_special.Goals as goal

pub returns-then-not-take_arguments : goal.returns-then-not-take_arguments
returns-then-not-take_arguments c =
    no_arguments (body c.args.method.now) c.args.offset c.args.index (frame c.args.held.now) c.in-Some.mention c.in-Some-meant_method.callee.now
    (sym c.in-Some.ensures) (sym c.in-Some-meant_method.ensures) (rw c.as_slice.ensures at c.if-not-take_arguments.ensures)

pub returns-in-None-take_built : goal.returns-in-None-take_built
returns-in-None-take_built c =
    no_object (body c.args.method.now) c.args.offset c.args.index (frame c.args.held.now) c.in-Some.mention c.in-Some-meant_method.callee.now
    (sym c.in-Some.ensures) (sym c.in-Some-meant_method.ensures) _ (rw c.as_slice.ensures at c.if-not-take_arguments.ensures).1 c.in-None-take_built.ensures

pub returns-in_ok-push_result-in-Some-take_built : goal.returns-in_ok-push_result-in-Some-take_built
returns-in_ok-push_result-in-Some-take_built c =
    let t = (rw c.as_slice.ensures at c.if-not-take_arguments.ensures) in
    let left = sym t.1 ∙ c.in-Some-take_built.ensures.0 in
    let b = body c.args.method.now in
    let f = frame c.args.held.now in
    let named = sym c.in-Some.ensures in
    let means = sym c.in-Some-meant_method.ensures in
    let init = c.is_initializer.ensures.0 c.if-not-is_initializer.false in (
      allowed b c.args.offset c.args.index f c.in-Some.mention c.in-Some-meant_method.callee.now named means c.in-Some-take_built.kind _ t.0 left init c.in-Some-take_built.ensures.1,
      stepped b c.args.offset c.args.index f c.in-Some.mention c.in-Some-meant_method.callee.now named means c.in-Some-take_built.kind _ t.0 left init c.in-Some-take_built.ensures.1
          _ _ _ c.initialize.ensures.locals (c.in_ok-push_result-in-Some-take_built.ensures ∙ ap (λ ks. list_of (option_map kind_of c.in-Some-meant_method.callee.now.result) ++ ks) c.initialize.ensures.stack) c.initialize.ensures.raw,
    )
