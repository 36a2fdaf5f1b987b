use Rattle.class_verify_frames.specs.Views.{body}
use Rattle.class_verify_turns.specs.Timing.{IsPlace}
use Rattle.class_verify_turns.proofs.Rows.{adds_nothing, adds_one, place_stands, same_place, stands_place}
use Rattle.class_verify_turns.proofs.paths.push_place.Goals as goal

pub returns-in-None : goal.returns-in-None
returns-in-None c =
    let b = body c.args.method.now in
    adds_nothing (IsPlace b c.args.offset) c.args.row.now (λ j p. c.in-None.ensures j (place_stands b c.args.method.now.starts.now c.args.offset j c.requires.starts p))

pub returns-in_ok-push-in-Some : goal.returns-in_ok-push-in-Some
returns-in_ok-push-in-Some c =
    let b = body c.args.method.now in
    let starts = c.args.method.now.starts.now in
    adds_one (IsPlace b c.args.offset) c.args.row.now c.in-Some.place _ c.in_ok-push-in-Some.ensures.ok
    (stands_place b starts c.args.offset c.in-Some.place c.requires.starts c.in-Some.ensures)
    (λ j p. same_place 0 starts j c.in-Some.place c.args.offset c.requires.ascending (place_stands b starts c.args.offset j c.requires.starts p) c.in-Some.ensures)
