use Rattle.std.proofs.Common.{◌≡◌, ◌+◌, List, drop, map, None, Some, refl, ap, sym, subst, ◌∙◌, arith}
use Rattle.std.proofs.lemmas.Result.{err_from_is_err_and}
use Rattle.jvm_pieces.specs.Pieces.{draft, with_pieces}
use Rattle.jvm_class_types.specs.declared.frames.Frame as rust_frame
use Rattle.jvm_class_types.specs.declared.frames.FrameType.{FrameType}
use Rattle.jvm_class_types.specs.Seen.{frame_seen}
use Rattle.jvm_maps.specs.Frames.{Before, before, frame, after, frames_spell}
use Rattle.jvm_frames.specs.Putting.{HaveSpelling}
use Rattle.jvm_frames.proofs.Puts.{next_of, none_behind, left_goes_on, grew_on, grew_nothing, left_fails}
use Rattle.jvm_frames.proofs.writing.put_each.Goals as goal

pub loop-frame-init : goal.loop-frame-init
loop-frame-init c = record {
  left = λ es. refl;
  grew = grew_nothing (draft c.args.pool.now c.args.into.now.items);
  spelled = c.requires;
}

pub put_frame-requires : goal.put_frame-requires
put_frame-requires c =
    let l = c.loop-frame in
    let b = before l.previous l.locals.now in
    let next = next_of c.args.frames.now l.frame-index c.frame-item.result (omega arith) c.frame-item.is in
    let s = subst (λ (fs : List rust_frame.Frame). HaveSpelling b (map frame_seen fs)) next l.invariant.spelled in
    (s.0, s.1.0)

pub loop-frame-preserved : goal.loop-frame-preserved
loop-frame-preserved c =
    let l = c.loop-frame in
    let b = before l.previous l.locals.now in
    let f = frame_seen c.frame-item.result in
    let now = draft l.pool l.into.items in
    let new = draft c.put_frame.new.pool c.put_frame.new.into.items in
    let old = draft c.args.pool.now c.args.into.now.items in
    let next = next_of c.args.frames.now l.frame-index c.frame-item.result (omega arith) c.frame-item.is in
    let s = subst (λ (fs : List rust_frame.Frame). HaveSpelling b (map frame_seen fs)) next l.invariant.spelled in
    let same : before (Some c.frame-item.result.offset) c.deref-locals.result.now ≡ after f =
    ap (λ (ls : List FrameType). before (Some c.frame-item.result.offset) ls) c.deref-locals.ensures.value in
    record {
      left = λ es.
          ap (λ (b : Before). with_pieces (frames_spell es b (map frame_seen (drop
          (l.frame-index + 1) c.args.frames.now))) new) same
          ∙ left_goes_on now new (with_pieces (frames_spell es (before None c.args.start.now)
          (map frame_seen c.args.frames.now)) old)
          ((frame es b).spell f) (frames_spell es (after f) (map frame_seen (drop
          (l.frame-index + 1) c.args.frames.now)))
          (ap (λ (fs : List rust_frame.Frame). with_pieces (frames_spell es b (map frame_seen fs)) now) (sym next)
          ∙ l.invariant.left es)
          (c.in_ok-put_frame.ensures es);
      grew = grew_on old now new ((frame s.0 b).spell f) l.invariant.grew (c.in_ok-put_frame.ensures s.0);
      spelled = subst (λ (b : Before). HaveSpelling b (map frame_seen (drop (l.frame-index + 1) c.args.frames.now)))
          (sym same)
          (s.0, s.1.1);
    }

pub returns-in_err-put_frame : goal.returns-in_err-put_frame
returns-in_err-put_frame c es =
    let l = c.loop-frame in
    let b = before l.previous l.locals.now in
    let f = frame_seen c.frame-item.result in
    let now = draft l.pool l.into.items in
    let p = err_from_is_err_and c.from_residual.result c.from_residual.ensures.1 in
    let next = next_of c.args.frames.now l.frame-index c.frame-item.result (omega arith) c.frame-item.is in
    rw (p.1, p.2) (left_fails (draft c.args.pool.now c.args.into.now.items) now
    (draft c.put_frame.new.pool c.put_frame.new.into.items) ((frame es b).spell f)
    (frames_spell es (after f) (map frame_seen (drop (l.frame-index + 1) c.args.frames.now)))
    (frames_spell es (before None c.args.start.now) (map frame_seen c.args.frames.now)) c.in_err-put_frame.field-0.0
    (ap (λ (fs : List rust_frame.Frame). with_pieces (frames_spell es b (map frame_seen fs)) now) (sym next)
    ∙ l.invariant.left es)
    l.invariant.grew (c.in_err-put_frame.ensures es))

pub returns : goal.returns
unfolding with_pieces
returns c es =
    let l = c.loop-frame in
    let none = none_behind c.args.frames.now l.frame-index (λ lt. omega arith) in
    ap (λ (fs : List rust_frame.Frame). with_pieces (frames_spell es (before l.previous l.locals.now)
    (map frame_seen fs))
    (draft l.pool l.into.items)) (sym none) ∙ l.invariant.left es
