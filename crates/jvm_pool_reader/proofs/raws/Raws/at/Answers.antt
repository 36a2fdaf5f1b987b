use Rattle.std.proofs.Common.{◌≡◌, Some, List, ℕ, slice_get, length, refl, sym, ap, ◌∙◌}
use Rattle.std.proofs.lemmas.Option.{slice_get_read}
use Rattle.jvm_pool_bytes.specs.declared.raws.RawEntry.{RawEntry}
use Rattle.jvm_pool_reader.proofs.Judging.{both_at}
use Rattle.jvm_pool_reader.proofs.raws.Raws.at.Goals as goal

pub returns : goal.returns
returns c =
    let offset : slice_get c.self.inside.offsets.items c.args.position ≡ Some c.in_ok-offset.offset.now =
    ap (λ (l : List ℕ). slice_get l c.args.position) (sym c.deref.ensures.value)
    ∙ slice_get_read c.deref.result.now (length c.deref.result.now) c.args.position c.in_ok-offset.offset.now refl
    c.in_ok-offset.ensures.lookup.3.0 c.in_ok-offset.ensures.lookup.1 in
    sym (both_at c.self.inside.offsets.items c.self.inside.entries.keys c.args.position c.in_ok-offset.offset.now
    c.in_ok-raw.raw.now offset (sym c.in_ok-raw.ensures.key))
    ∙ ap (λ (l : List (ℕ × RawEntry)). slice_get l c.args.position) c.self.view_is
