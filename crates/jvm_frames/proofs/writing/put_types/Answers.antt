use Rattle.std.proofs.Common.{◌+◌, List, length, drop, refl, ap, sym, ◌∙◌, arith}
use Rattle.std.specs.List.{flat_map}
use Rattle.std.proofs.lemmas.Option.{slice_get_read}
use Rattle.std.proofs.lemmas.Result.{err_from_is_err_and}
use Rattle.jvm_class_types.specs.declared.frames.FrameType.{FrameType}
use Rattle.jvm_pieces.specs.Pieces.{draft, with_pieces}
use Rattle.jvm_frames.specs.Fitting.{type_pieces}
use Rattle.jvm_frames.proofs.Puts.{next_of, none_behind, left_goes_on, grew_on, grew_nothing, left_fails}
use Rattle.jvm_frames.proofs.writing.put_types.Goals as goal

pub loop-frame_type-init : goal.loop-frame_type-init
loop-frame_type-init c = record { left = refl; grew = grew_nothing (draft c.args.pool.now c.args.into.now.items) }

pub put_type-requires : goal.put_type-requires
put_type-requires c =
    c.requires c.loop-frame_type.frame_type-index c.frame_type-item.result
    (slice_get_read c.args.types.now
    (length c.args.types.now) c.loop-frame_type.frame_type-index c.frame_type-item.result
    refl (omega arith) c.frame_type-item.is)

pub loop-frame_type-preserved : goal.loop-frame_type-preserved
loop-frame_type-preserved c =
    let l = c.loop-frame_type in
    let now = draft l.pool l.into.items in
    let new = draft c.put_type.new.pool c.put_type.new.into.items in
    let ps = type_pieces c.frame_type-item.result in
    let rest = flat_map type_pieces (drop (l.frame_type-index + 1) c.args.types.now) in
    let next = next_of c.args.types.now l.frame_type-index c.frame_type-item.result
    (omega arith) c.frame_type-item.is in
    record {
      left = left_goes_on now new (with_pieces (flat_map type_pieces c.args.types.now)
          (draft c.args.pool.now c.args.into.now.items))
          ps rest (ap (λ (ts : List FrameType). with_pieces (flat_map type_pieces ts) now) (sym next)
          ∙ l.invariant.left)
          c.in_ok-put_type.ensures;
      grew = grew_on (draft c.args.pool.now c.args.into.now.items) now new ps l.invariant.grew c.in_ok-put_type.ensures;
    }

pub returns-in_err-put_type : goal.returns-in_err-put_type
returns-in_err-put_type c =
    let l = c.loop-frame_type in
    let now = draft l.pool l.into.items in
    let p = err_from_is_err_and c.from_residual.result c.from_residual.ensures.1 in
    let next = next_of c.args.types.now l.frame_type-index c.frame_type-item.result
    (omega arith) c.frame_type-item.is in
    rw (p.1, p.2) (left_fails (draft c.args.pool.now c.args.into.now.items) now
    (draft c.put_type.new.pool c.put_type.new.into.items) (type_pieces c.frame_type-item.result)
    (flat_map type_pieces (drop (l.frame_type-index + 1) c.args.types.now)) (flat_map type_pieces c.args.types.now)
    c.in_err-put_type.field-0.0
    (ap (λ (ts : List FrameType). with_pieces (flat_map type_pieces ts) now) (sym next) ∙ l.invariant.left)
    l.invariant.grew c.in_err-put_type.ensures)

pub returns : goal.returns
unfolding with_pieces
returns c =
    let l = c.loop-frame_type in
    let none = none_behind c.args.types.now l.frame_type-index (λ lt. omega arith) in
    ap (λ (ts : List FrameType). with_pieces (flat_map type_pieces ts) (draft l.pool l.into.items)) (sym none)
    ∙ l.invariant.left
