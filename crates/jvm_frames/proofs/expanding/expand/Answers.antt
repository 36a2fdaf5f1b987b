use Rattle.std.proofs.Common.{◌≡◌, ℕ, suc, ◌+◌, None, Err, List, [], ◌∷◌, length, length-append, map, ap, refl, sym, subst, ◌∙◌, arith}
use Rattle.std.proofs.lemmas.List.{map_push, length-map}
use Rattle.std.proofs.lemmas.Result.{err_from_is_err_and}
use Rattle.jvm_class_types.specs.declared.frames.Frame as rust_frame
use Rattle.jvm_class_types.specs.Seen.{Frame, frame_seen}
use Rattle.jvm_class_formats.specs.Formats.{Spot, spot}
use Rattle.jvm_class_formats.specs.Lawful.{IsPool}
use Rattle.jvm_class_formats.specs.Reads.{Reads}
use Rattle.jvm_class_formats.proofs.Steps.{done}
use Rattle.jvm_pool.specs.Entries.{units}
use Rattle.jvm_maps.specs.Frames.{Before, before, frame, frames_at}
use Rattle.jvm_class_types.specs.declared.frames.FrameType.{FrameType}
use Rattle.jvm_frames.specs.Behind.{behind_all}
use Rattle.jvm_frames.specs.Expanding.{at_all}
use Rattle.jvm_frames.proofs.FrameLoops.{one_more}
use Rattle.jvm_frames.proofs.Expanded.{shorter, all_fit, one_reading, spelled_so, read_so, bad_only, bad_stops, none_there, some_there}
use Rattle.jvm_frames.proofs.expanding.expand.Goals as goal

pub loop-rest-preserved : goal.loop-rest-preserved
loop-rest-preserved c =
    let l = c.loop-rest in
    let b = before None c.args.first.now.locals.items in
    let last = c.before_next-previous.ensures
    ∙ ap (λ (ls : List FrameType). behind_all (before None ls)
    (map frame_seen c.deref-in-loop-rest.result.now)) c.deref.ensures.value
    ∙ ap (λ (fs : List rust_frame.Frame). behind_all b (map frame_seen fs)) c.deref-in-loop-rest.ensures.value in
    let next = ap (λ (b : Before). (frame c.args.pool.now b).read l.rest) (sym last) ∙ c.in_ok-frame.ensures in
    let more = one_more c.args.pool.now b (length l.frames.items) (at_all c.args.pool.now c.args.bytes.now)
    (map frame_seen l.frames.items) l.rest (frame_seen c.in_ok-frame.frame, c.in_ok-frame.behind) l.invariant next in
    let len : length c.push.new.self.items ≡ suc (length l.frames.items) =
    omega (arith, ap length c.in_ok-push.ensures.items, length-append l.frames.items (c.in_ok-frame.frame ∷ [])) in
    let seen = ap (map frame_seen) c.in_ok-push.ensures.items
    ∙ map_push frame_seen l.frames.items c.in_ok-frame.frame in
    ap (λ (n : ℕ). frames_at c.args.pool.now b n (at_all c.args.pool.now c.args.bytes.now)) len ∙ more
    ∙ ap (λ (fs : List Frame). done {A = List Frame × Spot} (fs, c.in_ok-frame.behind)) (sym seen)

pub loop-rest-smaller : goal.loop-rest-smaller
loop-rest-smaller c =
    let l = c.loop-rest in
    let b = before None c.args.first.now.locals.items in
    let pool : IsPool c.args.pool.now = omega (arith, c.count.ensures.value, c.count.ensures.fits) in
    let fits = all_fit c.args.pool.now pool b (length l.frames.items) (at_all c.args.pool.now c.args.bytes.now) l.rest
    (map frame_seen l.frames.items) c.are_bytes.ensures l.invariant in
    shorter c.args.pool.now pool (before c.before_next-previous.result.0 c.before_next-previous.result.1.now) l.rest
    (frame_seen c.in_ok-frame.frame, c.in_ok-frame.behind) fits c.in_ok-frame.ensures

pub returns-in_err-frame-clause-only : goal.returns-in_err-frame-clause-only
returns-in_err-frame-clause-only c gs s =
    let l = c.loop-rest in
    let b = before None c.args.first.now.locals.items in
    let p = err_from_is_err_and c.from_residual.result c.from_residual.ensures.1 in
    let pool : IsPool c.args.pool.now = omega (arith, c.count.ensures.value, c.count.ensures.fits) in
    let last = c.before_next-previous.ensures
    ∙ ap (λ (ls : List FrameType). behind_all (before None ls)
    (map frame_seen c.deref-in-loop-rest.result.now)) c.deref.ensures.value
    ∙ ap (λ (fs : List rust_frame.Frame). behind_all b (map frame_seen fs)) c.deref-in-loop-rest.ensures.value in
    let bad = subst (λ (b : Before). Reads (λ (x : rust_frame.Frame × Spot). (frame_seen x.0, x.1))
    (Err c.in_err-frame.field-0.0) ((frame c.args.pool.now b).read l.rest)) last c.in_err-frame.ensures in
    rw (p.1, p.2) (bad_only c.args.pool.now pool c.in_err-frame.field-0.0 b (length l.frames.items) c.args.bytes.now
    (map frame_seen l.frames.items) l.rest c.are_bytes.ensures l.invariant
    (some_there c.rest.inside.bytes.now _ l.rest c.is_empty.result c.rest.view_is refl c.is_empty.ensures
    c.loop-rest-test.true) bad gs s)

pub returns-in_err-frame-clause-bad : goal.returns-in_err-frame-clause-bad
returns-in_err-frame-clause-bad c =
    let l = c.loop-rest in
    let b = before None c.args.first.now.locals.items in
    let p = err_from_is_err_and c.from_residual.result c.from_residual.ensures.1 in
    let pool : IsPool c.args.pool.now = omega (arith, c.count.ensures.value, c.count.ensures.fits) in
    let last = c.before_next-previous.ensures
    ∙ ap (λ (ls : List FrameType). behind_all (before None ls)
    (map frame_seen c.deref-in-loop-rest.result.now)) c.deref.ensures.value
    ∙ ap (λ (fs : List rust_frame.Frame). behind_all b (map frame_seen fs)) c.deref-in-loop-rest.ensures.value in
    let bad = subst (λ (b : Before). Reads (λ (x : rust_frame.Frame × Spot). (frame_seen x.0, x.1))
    (Err c.in_err-frame.field-0.0) ((frame c.args.pool.now b).read l.rest)) last c.in_err-frame.ensures in
    rw (p.1, p.2) (bad_stops c.args.pool.now pool c.in_err-frame.field-0.0 b c.args.bytes.now
    (map frame_seen l.frames.items) l.rest
    (ap (λ (n : ℕ). frames_at c.args.pool.now b n (at_all c.args.pool.now c.args.bytes.now))
    (length-map l.frames.items frame_seen)
    ∙ l.invariant)
    (some_there c.rest.inside.bytes.now _ l.rest c.is_empty.result c.rest.view_is refl c.is_empty.ensures
    c.loop-rest-test.true) bad)

pub returns-clause-found : goal.returns-clause-found
returns-clause-found c =
    let l = c.loop-rest in
    let b = before None c.args.first.now.locals.items in
    let pool : IsPool c.args.pool.now = omega (arith, c.count.ensures.value, c.count.ensures.fits) in
    spelled_so c.args.pool.now pool b (length l.frames.items) c.args.bytes.now (map frame_seen l.frames.items) l.rest
    c.are_bytes.ensures l.invariant
    (none_there c.rest.inside.bytes.now _ l.rest c.is_empty.result c.rest.view_is refl c.is_empty.ensures
    c.loop-rest-test.false)

pub returns-clause-only : goal.returns-clause-only
returns-clause-only c gs s =
    let l = c.loop-rest in
    let b = before None c.args.first.now.locals.items in
    let pool : IsPool c.args.pool.now = omega (arith, c.count.ensures.value, c.count.ensures.fits) in
    one_reading c.args.pool.now pool b (length l.frames.items) (length gs)
    (at_all c.args.pool.now c.args.bytes.now) l.rest
    (spot (length c.args.bytes.now) (1 + units c.args.pool.now) [])
    (map frame_seen l.frames.items) gs c.are_bytes.ensures
    l.invariant
    (none_there c.rest.inside.bytes.now _ l.rest c.is_empty.result c.rest.view_is refl c.is_empty.ensures
    c.loop-rest-test.false) (read_so c.args.pool.now pool b c.args.bytes.now gs s) refl
