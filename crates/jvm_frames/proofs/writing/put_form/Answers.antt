use Rattle.std.proofs.Common.{◌≡◌, ℕ, ◌<◌, List, ◌++◌, refl, subst, ap, ◌∙◌}
use Rattle.std.specs.Int.{w8, to_be_bytes}
use Rattle.std.proofs.lemmas.Result.{err_from_is_err_and}
use Rattle.jvm_pieces.specs.Pieces.{draft}
use Rattle.jvm_maps.specs.Frames.{Kind, kind_of, kind_tag}
use Rattle.jvm_frames_forms.specs.FormsSeen.{form_seen}
use Rattle.jvm_frames.specs.Fitting.{delta_pieces, types_in, form_rest}
use Rattle.jvm_frames.proofs.Puts.{bytes_then, same_grew, bytes_grew, puts_then, one_byte, kind_small}
use Rattle.jvm_frames.proofs.writing.put_form.Goals as goal

pub returns-in_err-put_bytes : goal.returns-in_err-put_bytes
returns-in_err-put_bytes c =
    let p = err_from_is_err_and c.from_residual.result c.from_residual.ensures.1 in
    rw (p.1, p.2) (same_grew c.args.pool.now c.args.pool.now c.args.into.now.items c.put_bytes.new.into.items refl
    c.in_err-put_bytes.ensures.err)

pub returns-in_err-put_delta : goal.returns-in_err-put_delta
returns-in_err-put_delta c =
    let p = err_from_is_err_and c.from_residual-in_err-put_delta.result c.from_residual-in_err-put_delta.ensures.1 in
    rw (p.1, p.2)
    (bytes_grew c.args.pool.now c.args.into.now.items c.put_bytes.new.into.items c.put_delta.new.into.items
    c.to_be_bytes.result c.in_ok-put_bytes.ensures.ok c.in_err-put_delta.ensures.err)

pub returns : goal.returns
returns c =
    let f = form_seen c.args.form.now in
    let tag : c.tag.result ≡ kind_tag (kind_of f) = c.tag.ensures ∙ ap kind_tag c.kind.ensures.seen in
    let small : kind_tag (kind_of f) < 256 =
    subst (λ (k : Kind). kind_tag k < 256) c.kind.ensures.seen (kind_small c.kind.result c.kind.ensures.bounded) in
    let bytes = c.to_be_bytes.ensures ∙ one_byte c.tag.result (kind_tag (kind_of f)) tag small in
    let ok = c.in_ok-put_bytes.ensures.ok ∙ ap (λ (l : List ℕ). c.args.into.now.items ++ l) bytes in
    bytes_then c.args.pool.now c.args.into.now.items c.put_bytes.new.into.items (to_be_bytes w8 (kind_tag (kind_of f)))
    (draft c.put_types_in.new.pool c.put_types_in.new.into.items) (form_rest f) c.put_types_in.result ok
    (puts_then (draft c.args.pool.now c.put_bytes.new.into.items) (draft c.args.pool.now c.put_delta.new.into.items)
    (draft c.put_types_in.new.pool c.put_types_in.new.into.items) (delta_pieces f) (types_in f) c.put_types_in.result
    (c.in_ok-put_delta.ensures.ok c.args.pool.now) c.put_types_in.ensures)
