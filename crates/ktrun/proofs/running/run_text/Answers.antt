use Rattle.std.proofs.Common.{◌≡◌, List, ℤ, ℕ, map, sym, ap, subst, ◌∙◌}
use Rattle.kt_base.specs.declared.stack_code.Plain.{Plain}
use Rattle.kt_base.specs.StackCode.{Prints}
use Rattle.jvm_class_first.specs.Instructions.{IsPlainCode}
use Rattle.kt_first.specs.Programs.{values_of}
use Rattle.ktrun.specs.FirstRuns.{text_of}
use Rattle.ktrun.proofs.Runs.{plain_code, prints_one, run_ends}
use Rattle.ktrun.proofs.Causes.{foreign_text}
use Rattle.ktrun.proofs.running.run_text.Goals as goal

pub through_class-requires : goal.through_class-requires
through_class-requires c =
    let read = c.in_ok-code.ensures.read in
    subst (λ (l : List Plain). IsPlainCode l) (sym c.as_slice.ensures.value) (plain_code read.0 _ c.in_ok-code.ensures.short (c.in_ok-code.ensures.prints read.0 read.1))

pub run_code-requires : goal.run_code-requires
run_code-requires c =
    let read = c.in_ok-code.ensures.read in
    let same = c.as_slice-2.ensures.value ∙ c.in_ok-read.ensures ∙ c.as_slice.ensures.value in
    (values_of read.0, subst (λ (l : List Plain). Prints l (values_of read.0)) (sym same) (c.in_ok-code.ensures.prints read.0 read.1))

pub returns-clause-ran : goal.returns-clause-ran
returns-clause-ran c =
    let read = c.in_ok-code.ensures.read in
    let same_code = c.as_slice-2.ensures.value ∙ c.in_ok-read.ensures ∙ c.as_slice.ensures.value in
    let prints = subst (λ (l : List Plain). Prints l (values_of read.0)) (sym same_code) (c.in_ok-code.ensures.prints read.0 read.1) in
    let ran = c.in_ok-run_code.ensures in
    let same : ran.0 ≡ values_of read.0 = prints_one c.as_slice-2.result.now ran.0 (values_of read.0) ran.1 prints in
    run_ends c.args.source.now read.0 read.1 c.in_ok-run_code.field-0.choices.items c.in_ok-run_code.field-0.text.items
    (ran.2 ∙ ap (λ (l : List ℤ). text_of l) same) (ran.3 ∙ ap (λ (l : List ℤ). map {A = ℤ} {B = ℕ} (λ _. 0) l) same)

pub returns-in_err-code-clause-not_built : goal.returns-in_err-code-clause-not_built
returns-in_err-code-clause-not_built c = foreign_text c.from_residual-in_err-code.result _ c.args.source.now c.from_residual-in_err-code.ensures (_, c.in_ok-_tree.ensures.read) c.in_err-code.ensures.only
