use Rattle.std.proofs.Common.{◌≡◌, ◌+◌, ◌≤◌, ℕ, rules, List, [], length, take, map, None, ap, subst, ◌∙◌}
use Rattle.jvm_pool.specs.declared.entries.Entry.{Entry}
use Rattle.jvm_pool.specs.declared.errors.PoolErr.TheVariants.{Full}
use Rattle.jvm_pool.specs.Entries.{units}
use Rattle.jvm_pieces.specs.Pieces.{Draft, draft}
use Rattle.jvm_class_types.specs.Seen.{frame_seen}
use Rattle.jvm_maps.specs.Frames.{before, frames_spell}
use Rattle.jvm_frames.proofs.Puts.{cut_pool, cut_bytes, pool_after, grew_of, full_of}
use Rattle.jvm_frames.proofs.writing.put_all.Goals as goal

pub returns-in-Ok-clause-room : goal.returns-in-Ok-clause-room
returns-in-Ok-clause-room c es =
    let ps = frames_spell es (before None c.args.start.now) (map frame_seen c.args.frames.now) in
    subst (λ (l : List Entry). 1 + units l ≤ 65535)
    (ap (λ (d : Draft). d.pool) (c.in-Ok.ensures {u = tt} es) ∙ pool_after ps
    (draft c.args.pool.now c.args.into.now.items))
    c.has_room.ensures

pub returns-in-Err-clause-full : goal.returns-in-Err-clause-full
returns-in-Err-clause-full c es is =
    full_of (draft c.args.pool.now c.args.into.now.items) (draft c.put_each.new.pool c.put_each.new.into.items)
    (frames_spell es (before None c.args.start.now) (map frame_seen c.args.frames.now)) c.in-Err.error
    (c.in-Err.ensures {u = tt} es) (let e : c.in-Err.error ≡ Full = cc in e)

pub returns-in-Err-clause-err : goal.returns-in-Err-clause-err
returns-in-Err-clause-err c =
    let ps = frames_spell [] (before None c.args.start.now) (map frame_seen c.args.frames.now) in
    let grew = grew_of (draft c.args.pool.now c.args.into.now.items)
    (draft c.put_each.new.pool c.put_each.new.into.items) ps
    c.in-Err.error (c.in-Err.ensures {u = tt} []) in
    let bytes : c.len-bytes.result ≡ length c.args.into.now.items = search rules in (
      c.truncate.ensures ∙ ap (λ (n : ℕ). take n c.put_each.new.pool) c.len-entries.ensures
          ∙ cut_pool c.args.pool.now c.put_each.new.pool c.args.into.now.items c.put_each.new.into.items grew,
      c.truncate-in-Err.ensures.items ∙ ap (λ (n : ℕ). take n c.put_each.new.into.items) bytes
          ∙ cut_bytes c.args.pool.now c.put_each.new.pool c.args.into.now.items c.put_each.new.into.items grew,
    )
