use Rattle.std.proofs.Common.{◌≡◌, ◌<◌, length, sym, ap, ◌∙◌, arith}
use Rattle.std.specs.Prelude.{slice_get}
use Rattle.std.proofs.lemmas.Option.{slice_get-get_or}
use Rattle.class_verify_frames.specs.Views.{body}
use Rattle.class_verify_turns.proofs.Rows.{handler_next}
use Rattle.class_verify_turns.proofs.paths.push_handlers.Goals as goal

pub loop-handler-preserved : goal.loop-handler-preserved
loop-handler-preserved c =
    let hs = c.as_slice-handler-items.result.now in
    handler_next (body c.args.method.now) c.args.method.now.code.now.handlers c.args.offset c.loop-handler.handler-index _ c.args.row.now c.loop-handler.row _
    (ap (λ xs. slice_get xs c.loop-handler.handler-index) (sym c.as_slice-handler-items.ensures) ∙ slice_get-get_or hs c.loop-handler.handler-index _ c.loop-handler-test.true)
    c.loop-handler.invariant c.in_ok-push_handler.ensures
