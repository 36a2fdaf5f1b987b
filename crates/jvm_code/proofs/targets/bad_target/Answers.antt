use Rattle.std.proofs.Common.{◌≡◌, ◌+◌, ◌∷◌, drop, ap, sym, ◌∙◌}
use Rattle.std.proofs.lemmas.List.{drop_more, drop_all}
use Rattle.jvm_code.specs.Decoding.{rows, at_row, starts_of, first_bad}
use Rattle.jvm_code.proofs.Passes.{good_here, bad_here, none_bad}
use Rattle.jvm_code.proofs.targets.bad_target.Goals as goal

pub returns-then-not-aims_at : goal.returns-then-not-aims_at
returns-then-not-aims_at c =
    let e : rows (drop c.loop-item.item-index c.args.code.now) ≡ at_row c.item-item.result ∷ rows (drop (c.loop-item.item-index + 1) c.args.code.now) =
    ap rows (drop_more c.args.code.now c.loop-item.item-index c.item-item.result c.loop-item-test.true ∙ ap (λ x. x ∷ drop (c.loop-item.item-index + 1) c.args.code.now) (sym c.item-item.is)) in
    bad_here (starts_of (rows c.args.code.now)) (at_row c.item-item.result) (rows (drop (c.loop-item.item-index + 1) c.args.code.now)) _ (sym c.aims_at.ensures ∙ c.if-not-aims_at.true) (ap (first_bad (starts_of (rows c.args.code.now))) (sym e) ∙ c.loop-item.invariant)

pub loop-item-preserved : goal.loop-item-preserved
loop-item-preserved c =
    let e : rows (drop c.loop-item.item-index c.args.code.now) ≡ at_row c.item-item.result ∷ rows (drop (c.loop-item.item-index + 1) c.args.code.now) =
    ap rows (drop_more c.args.code.now c.loop-item.item-index c.item-item.result c.loop-item-test.true ∙ ap (λ x. x ∷ drop (c.loop-item.item-index + 1) c.args.code.now) (sym c.item-item.is)) in
    good_here (starts_of (rows c.args.code.now)) (at_row c.item-item.result) (rows (drop (c.loop-item.item-index + 1) c.args.code.now)) _ (sym c.aims_at.ensures ∙ c.if-not-aims_at.false) (ap (first_bad (starts_of (rows c.args.code.now))) (sym e) ∙ c.loop-item.invariant)

pub returns : goal.returns
returns c = none_bad (starts_of (rows c.args.code.now)) (rows (drop c.loop-item.item-index c.args.code.now)) _ (ap rows (drop_all c.loop-item.item-index c.args.code.now c.loop-item-test.false)) c.loop-item.invariant
