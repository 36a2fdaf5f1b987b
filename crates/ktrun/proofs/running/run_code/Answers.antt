use Rattle.std.proofs.Common.{ℕ, List, ℤ, length, sym, ap, ◌∙◌}
use Rattle.std.proofs.Math.ListN.{replicate}
use Rattle.ktrun.specs.FirstRuns.{text_of}
use Rattle.ktrun.proofs.Runs.{choices_of}
use Rattle.ktrun.proofs.running.run_code.Goals as goal

pub returns : goal.returns
returns c =
    let values = c.in_ok-values.values.items in (
      values,
      c.in_ok-values.ensures,
      c.in_ok-text.ensures ∙ ap (λ (l : List ℤ). text_of l) c.as_slice.ensures.value,
      c.in_ok-choices.ensures.items_if_clones_equal (λ y is. is) ∙ ap (λ n. replicate {A = ℕ} n 0) (c.len.ensures ∙ sym c.as_slice.ensures.len ∙ ap (λ (l : List ℤ). length l) c.as_slice.ensures.value) ∙ choices_of values,
    )
