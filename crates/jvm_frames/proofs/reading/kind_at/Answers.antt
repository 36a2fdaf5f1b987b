use Rattle.std.proofs.Common.{◌≡◌, ℕ, Bool, true, cond, Err, is_some, ap, sym, ◌∙◌}
use Rattle.std.specs.Int.{w8}
use Rattle.jvm_class_formats.specs.Formats.{Spot, here}
use Rattle.jvm_class_formats.proofs.Steps.{done}
use Rattle.jvm_maps.specs.Frames.{is_frame_tag}
use Rattle.jvm_frames.proofs.Ruled.{ruled}
use Rattle.jvm_frames.proofs.reading.kind_at.Goals as goal

pub returns-in-Some-clause-read : goal.returns-in-Some-clause-read
returns-in-Some-clause-read c =
    let is : is_frame_tag c.in_ok-tag.tag ≡ true = ap is_some (sym c.in-Some.ensures.seen) in
    ruled w8 is_frame_tag c.args.place (c.in_ok-tag.tag, c.in_ok-tag.place) c.in_ok-tag.ensures
    ∙ ap (λ (b : Bool). cond b (done {A = ℕ × Spot} (c.in_ok-tag.tag, c.in_ok-tag.place)) (Err (here c.args.place))) is
