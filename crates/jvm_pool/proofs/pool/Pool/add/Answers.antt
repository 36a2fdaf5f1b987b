use Rattle.std.proofs.Common.{◌≡◌, ◌+◌, ◌<◌, ℕ, true, false, length, is_some, Some, sym, ap, ◌∙◌, arith}
use Rattle.std.specs.Map.{keys_of}
use Rattle.std.proofs.lemmas.List.{length-map}
use Rattle.jvm_pool.specs.Entries.{units}
use Rattle.jvm_pool.specs.Mentions.{has, seek, with_mention}
use Rattle.jvm_pool.proofs.Growing.{mention_known, new_index, grown_front, cut_keys, cut_back}
use Rattle.jvm_pool.proofs.Seeking.{has_seek}
use Rattle.jvm_pool.proofs.pool.Pool.add.Goals as goal

pub returns-in-Some-clause-grown : goal.returns-in-Some-clause-grown
returns-in-Some-clause-grown c =
    let there : has c.args.self.now c.args.e.now ≡ true = has_seek 1 c.args.self.now c.args.e.now ∙ ap is_some (sym c.in-Some.ensures) in
    mention_known c.args.self.now c.args.e.now there

pub returns-in-Some-clause-room : goal.returns-in-Some-clause-room
returns-in-Some-clause-room c =
    let there : has c.args.self.now c.args.e.now ≡ true = has_seek 1 c.args.self.now c.args.e.now ∙ ap is_some (sym c.in-Some.ensures) in
    let counted : c.self.inside.count ≡ 1 + units c.args.self.now = c.self.invariant.counted ∙ ap (λ l. 1 + units l) c.self.view_is in
    let kept : units c.args.self.now ≡ units (with_mention c.args.e.now c.args.self.now) = ap units (mention_known c.args.self.now c.args.e.now there) in
    omega (arith, c.self.invariant.fits)

pub add_new-requires : goal.add_new-requires
add_new-requires c = has_seek 1 c.args.self.now c.args.e.now ∙ ap is_some (sym c.in_default.ensures)

pub returns-in-Ok-clause-index : goal.returns-in-Ok-clause-index
returns-in-Ok-clause-index c =
    let absent : has c.args.self.now c.args.e.now ≡ false = has_seek 1 c.args.self.now c.args.e.now ∙ ap is_some (sym c.in_default.ensures) in
    let counted : c.self.inside.count ≡ 1 + units c.args.self.now = c.self.invariant.counted ∙ ap (λ l. 1 + units l) c.self.view_is in
    ap (λ l. seek 1 l c.args.e.now) c.in-Ok.ensures ∙ new_index c.args.self.now c.args.e.now absent ∙ ap (λ (n : ℕ). Some n) (sym counted)

pub invariant_of-self : goal.invariant_of-self
invariant_of-self c =
    let counted : c.self.inside.count ≡ 1 + units c.args.self.now = c.self.invariant.counted ∙ ap (λ l. 1 + units l) c.self.view_is in
    let x = grown_front c.args.self.now c.add_new.new.self (with_mention c.args.e.now c.args.self.now) c.in-Err.error c.in-Err.ensures in
    let len : c.len-length.result ≡ length c.args.self.now = c.len-length.ensures.len ∙ sym (length-map c.self.inside.indices.entries (λ p. p.0)) ∙ ap length c.self.view_is in
    let fits : c.self.inside.count < 65536 = omega (arith, c.self.invariant.fits) in
    rw c.truncate.ensures.entries (cut_back c.self-2.inside.indices.entries c.self.inside.count c.self-2.inside.count c.args.self.now x.0 c.len-length.result (c.self-2.view_is ∙ x.1) len c.self-2.invariant counted fits)

pub returns-in-Err-clause-err : goal.returns-in-Err-clause-err
returns-in-Err-clause-err c =
    let x = grown_front c.args.self.now c.add_new.new.self (with_mention c.args.e.now c.args.self.now) c.in-Err.error c.in-Err.ensures in
    let len : c.len-length.result ≡ length c.args.self.now = c.len-length.ensures.len ∙ sym (length-map c.self.inside.indices.entries (λ p. p.0)) ∙ ap length c.self.view_is in
    ap keys_of c.truncate.ensures.entries ∙ cut_keys c.self-2.inside.indices.entries c.args.self.now x.0 c.len-length.result (c.self-2.view_is ∙ x.1) len
