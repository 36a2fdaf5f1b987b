use Rattle.std.proofs.Common.{ℕ, List, ◌++◌, ap, sym, ◌∙◌}
use Rattle.std.specs.Int.{w8, to_be_bytes}
use Rattle.jvm_frames_forms.specs.FormsSeen.{form_seen}
use Rattle.jvm_maps.specs.Frames.{kind_of, kind_tag}
use Rattle.class_writer_members.proofs.Appends.{two_parts}
use Rattle.class_writer_frames.specs.Tails.{tail}
use Rattle.class_writer_frames.proofs.Spelled.{form_bytes, has_types}
use Rattle.class_writer_frames.proofs.forms.put_form.Goals as goal

pub put_tail-requires : goal.put_tail-requires
put_tail-requires c = has_types c.args.pool.now c.args.form.now c.requires.form c.requires.allowed

pub returns : goal.returns
returns c =
    two_parts c.args.into.now.items c.put_byte.new.into.items c.put_tail.new.into.items
    (to_be_bytes w8 (kind_tag (kind_of (form_seen c.args.form.now)))) (tail c.args.pool.now (form_seen c.args.form.now))
    (c.in_ok-put_byte.ensures ∙ ap (λ (n : ℕ). c.args.into.now.items ++ to_be_bytes w8 n) c.tag.ensures)
    c.in_ok-put_tail.ensures
    ∙ ap (λ (l : List ℕ). c.args.into.now.items ++ l) (sym (form_bytes c.args.pool.now c.args.form.now c.requires.form))
