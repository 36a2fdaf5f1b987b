-- What the judgement of a class tells of its class file.
use Rattle.std.proofs.Common.{◌≡◌, ℕ, ◌+◌, ◌≤◌, ◌<◌, ◌^◌, true, nat_eq, List, None, Some, sym, ap, ◌∙◌, arith}
use Rattle.std.proofs.lemmas.Bool.{eqb-true, eq-eqb}
use Rattle.jvm_pool.specs.declared.entries.Entry.{Entry}
use Rattle.jvm_pool.specs.Entries.{units}
use Rattle.jvm_pool_bytes.specs.Spelling.{AreEntries}
use Rattle.jvm_class_types.specs.Seen.{Class}
use Rattle.jvm_class_grammar.specs.File.{HasClassFile}
use Rattle.jvm_class_tally.specs.declared.tally.Tally.{Tally}
use Rattle.jvm_class_tally.specs.Tallies.{tally}
use Rattle.jvm_class_judging.specs.Judging.{judge_class}
use Rattle.jvm_class_judging.proofs.Whole.{LaidClass, has_file, file_judged}

same_tally : (t u : Tally) → Some t ≡ Some u → t ≡ u
same_tally t u h = cc

pub judged_has : (es : List Entry) (c : Class) (t : Tally) (count : ℕ) → AreEntries es → count ≡ 1 + units es
    → count ≤ 65535 → LaidClass es c → Some t ≡ judge_class es c (tally 1 None) → nat_eq t.counter count ≡ true
    → HasClassFile es c
judged_has es c t count entries is fits laid judged whole =
    let few : 1 + units es < 2 ^ 16 = omega (arith, is, fits) in
    has_file es c t entries few laid (sym judged) (eqb-true t.counter count whole ∙ is)

pub has_judged : (es : List Entry) (c : Class) (t : Tally) (count : ℕ) → count ≡ 1 + units es
    → Some t ≡ judge_class es c (tally 1 None) → HasClassFile es c → nat_eq t.counter count ≡ true
has_judged es c t count is judged h =
    let q = file_judged es c h in
    let same = same_tally t q.0 (judged ∙ q.1) in
    eq-eqb t.counter count (ap (λ (u : Tally). u.counter) same ∙ q.2 ∙ sym is)

pub none_judged : (es : List Entry) (c : Class) → None ≡ judge_class es c (tally 1 None) → HasClassFile es c → ⊥
none_judged es c judged h =
    let q = file_judged es c h in clash q.0 (judged ∙ q.1)
  where
    clash : (t : Tally) → None ≡ Some t → ⊥
    clash t e = absurd cc
