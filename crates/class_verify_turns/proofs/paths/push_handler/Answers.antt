use Rattle.std.proofs.Common.{ℕ}
use Rattle.class_verify_frames.specs.Views.{body}
use Rattle.class_verify_rules.specs.Typing.{Covers}
use Rattle.class_verify_turns.specs.Timing.{IsPlace}
use Rattle.class_verify_flow.proofs.Deciding.{holds}
use Rattle.class_verify_turns.proofs.Rows.{adds_same}
use Rattle.class_verify_turns.proofs.paths.push_handler.Goals as goal

pub returns-in_ok-push_place : goal.returns-in_ok-push_place
returns-in_ok-push_place c =
    let b = body c.args.method.now in
    adds_same (λ j. Covers c.args.handler.now c.args.offset × IsPlace b c.args.handler.now.handler j) c.args.row.now
    (IsPlace b c.args.handler.now.handler) _ c.in_ok-push_place.ensures (λ j q. (holds c.covers.result c.covers.ensures c.if-covers.true, q)) (λ j p. p.1)
