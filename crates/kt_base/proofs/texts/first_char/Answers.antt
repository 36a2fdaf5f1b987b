use Rattle.std.proofs.Common.{◌≡◌, ◌-◌, length, take, drop, refl, sym, ◌∙◌, arith}
use Rattle.std.proofs.lemmas.List.{take_all, length-drop}
use Rattle.kt_base.proofs.Utf16.{utf16_chars_first_pair, utf16_chars_first_lone}
use Rattle.kt_base.proofs.texts.first_char.Goals as goal

pub returns-then-starts_with_pair-clause-first : goal.returns-then-starts_with_pair-clause-first
returns-then-starts_with_pair-clause-first c =
    let units = c.args.units.now in
    let pair = sym c.starts_with_pair.ensures.pair ∙ c.if-starts_with_pair.true in
    let rest : take (length units - 2) (drop 2 units) ≡ drop 2 units =
    take_all _ _ (omega (arith, length-drop 2 units)) in
    utf16_chars_first_pair units pair ∙ rw (rest, c.pair_char.ensures) refl

pub returns-else-starts_with_pair-clause-first : goal.returns-else-starts_with_pair-clause-first
returns-else-starts_with_pair-clause-first c =
    let units = c.args.units.now in
    let lone = sym c.starts_with_pair.ensures.pair ∙ c.if-starts_with_pair.false in
    let rest : take (length units - 1) (drop 1 units) ≡ drop 1 units =
    take_all _ _ (omega (arith, length-drop 1 units)) in
    utf16_chars_first_lone units c.requires lone ∙ rw (rest, c.lone_char.ensures) refl
