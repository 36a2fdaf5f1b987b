use Rattle.std.proofs.Common.{◌≡◌, ℕ, ◌+◌, ◌≤◌, false, ◌++◌, ◌∷◌, [], List, ap, ◌∙◌, arith}
use Rattle.std.specs.List.{list_any}
use Rattle.jvm_pool_bytes.specs.declared.raws.RawEntry.{RawEntry}
use Rattle.jvm_pool_bytes.specs.Raws.{raw_size, raw_units, same_raw}
use Rattle.jvm_pool_reader.proofs.Steps.{inserted, numbered_push, seen_raws, zip_push}
use Rattle.jvm_pool_reader.proofs.raws.Raws.with.Goals as goal

pub invariant_of-result : goal.invariant_of-result
invariant_of-result c =
    let seen = seen_raws _ _ _ c.self.invariant.each c.self.view_is in
    let new : list_any (same_raw c.args.raw) c.self.inside.entries.keys ≡ false =
    ap (λ (l : List RawEntry). list_any (same_raw c.args.raw) l) seen ∙ c.requires.absent in
    let keys : c.insert.new.self.keys ≡ c.self.inside.entries.keys ++ c.args.raw ∷ [] =
    c.in_ok-insert.ensures.keys ∙ inserted c.args.raw c.self.inside.entries.keys new in
    let more : c.self.inside.next + c.size.result ≡ c.self.inside.next + raw_size c.args.raw =
    ap (λ (n : ℕ). c.self.inside.next + n) c.size.ensures in
    let units : c.self.inside.next ≡ 1 + raw_units _ =
    c.self.invariant.counted ∙ ap (λ (l : List RawEntry). 1 + raw_units l) seen in
    let fits : c.self.inside.next + c.size.result ≤ 65535 =
    omega (arith, c.requires.fits, c.size.ensures, units) in
    rw (keys, c.in_ok-push.ensures.items, c.in_ok-push-2.ensures.items)
    (numbered_push c.self.inside.offsets.items c.self.inside.entries.keys c.self.inside.starts.items c.self.inside.next
    (c.self.inside.next + c.size.result) c.args.at c.args.raw c.self.invariant more fits)

pub returns : goal.returns
returns c =
    let seen = seen_raws _ _ _ c.self.invariant.each c.self.view_is in
    let new : list_any (same_raw c.args.raw) c.self.inside.entries.keys ≡ false =
    ap (λ (l : List RawEntry). list_any (same_raw c.args.raw) l) seen ∙ c.requires.absent in
    let keys : c.insert.new.self.keys ≡ c.self.inside.entries.keys ++ c.args.raw ∷ [] =
    c.in_ok-insert.ensures.keys ∙ inserted c.args.raw c.self.inside.entries.keys new in
    rw (keys, c.in_ok-push-2.ensures.items)
    (zip_push c.self.inside.offsets.items c.self.inside.entries.keys c.args.at c.args.raw c.self.invariant.each
    ∙ ap (λ l. l ++ (c.args.at, c.args.raw) ∷ []) c.self.view_is)
