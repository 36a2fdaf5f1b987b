use Rattle.std.proofs.Common.{ℕ, ap, subst}
use Rattle.jvm_class_types.specs.declared.frames.Frame as rust_frame
use Rattle.jvm_class_types.specs.Seen.{frame_seen}
use Rattle.jvm_class_formats.specs.Formats.{Spot, here, moved_to}
use Rattle.jvm_class_formats.specs.Reads.{Reads}
use Rattle.jvm_maps.specs.Frames.{before, inside}
use Rattle.jvm_frames.proofs.reading.read_frame.Goals as goal

pub returns : goal.returns
returns c =
    let read = (inside c.args.pool.now (before c.args.previous c.args.locals.now)).read c.args.place in
    let total = ap (λ (s : Spot). s.total) c.place.view_is in
    subst (λ (n : ℕ). Reads (λ (x : rust_frame.Frame × Spot). (frame_seen x.0, x.1)) c.as_item.result
    (moved_to (here c.args.place) n read)) total
    (subst (λ (n : ℕ). Reads (λ (x : rust_frame.Frame × Spot). (frame_seen x.0, x.1)) c.as_item.result
    (moved_to n c.place.inside.total read)) c.offset-start.ensures (c.as_item.ensures read c.inside_frame.ensures))
