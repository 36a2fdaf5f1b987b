use Rattle.std.proofs.Common.{◌≡◌, ◌≤◌, ◌<◌, ◌+◌, length, sym, ap, subst, ◌∙◌, arith}
use Rattle.std.specs.Prelude.{slice_get}
use Rattle.std.proofs.lemmas.Option.{slice_get-get_or, slice_get_within}
use Rattle.class_verify_frames.specs.Views.{body}
use Rattle.class_verify_methods.specs.Faults.{HandlersAt, Least}
use Rattle.class_verify_methods.proofs.Least.{handlers_more, least_same}
use Rattle.class_verify_methods.proofs.parts.first_bad_handler.Goals as goal

pub loop-handler-preserved : goal.loop-handler-preserved
loop-handler-preserved c =
    let b = body c.args.method.now in
    subst (Least (HandlersAt b (c.loop-handler.handler-index + 1))) (sym c.noted-least.ensures)
    (handlers_more b c.loop-handler.handler-index _ c.loop-handler.least c.handler_stands-stands.result
    (ap (λ xs. slice_get xs c.loop-handler.handler-index) (sym c.as_slice-handler-items.ensures) ∙ slice_get-get_or c.as_slice-handler-items.result.now c.loop-handler.handler-index _ c.loop-handler-test.true)
    c.handler_stands-stands.ensures c.loop-handler.invariant)

pub returns : goal.returns
returns c =
    let b = body c.args.method.now in
    least_same (HandlersAt b c.loop-handler.handler-index) (HandlersAt b (length c.args.method.now.code.now.handlers)) c.loop-handler.least
    (λ at h k lt x e. h k (omega (arith, lt, c.loop-handler-test.false, ap length c.as_slice-handler-items.ensures)) x e)
    (λ at h k lt x e. h k (slice_get_within c.args.method.now.code.now.handlers k x e) x e) c.loop-handler.invariant
