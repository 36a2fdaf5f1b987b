-- What the clauses of a run stand on.
use Rattle.std.proofs.Common.{◌≡◌, ◌≤◌, ℕ, ℤ, List, [], ◌∷◌, ◌++◌, length, map, Option, None, Some, inl, inr, Result, Ok, Err, refl, sym, ap, ◌∙◌}
use Rattle.std.proofs.Math.ListN.{replicate}
use Rattle.kt_base.specs.declared.stack_code.Plain.{Plain}
use Rattle.kt_base.specs.declared.events.End.TheVariants as end
use Rattle.kt_base.specs.declared.events.Halt.TheVariants as halt
use Rattle.kt_base.specs.StackCode.{Stacked, Prints}
use Rattle.kt_first.specs.Programs.{Program, values_of}
use Rattle.kt_first.specs.Trees.{IsFirst}
use Rattle.std.specs.Prelude.{is_some}
use Rattle.std.specs.Result.{IfOk}
use Rattle.jvm_class_first.specs.Instructions.{IsPlainCode}
use Rattle.kt_outside.specs.Held.{Contents, file_in, Holds, Lacks}
use Rattle.ktrun.specs.declared.running.Stop.{Stop}
use Rattle.ktrun.specs.declared.running.Finished.{Finished}
use Rattle.ktrun.specs.FirstRuns.{Ends, text_of, numbers}
use Rattle.ktrun.specs.Headline.{HasSource, Ran}
use Rattle.ktrun.proofs.Worlds.{onto, prints_all, finishes, writes}

-- a choice for each value
pub choices_of : (values : List ℤ) → replicate {A = ℕ} (length values) 0 ≡ map (λ _. 0) values
choices_of [] = refl
choices_of (n ∷ values) = ap (λ l. 0 ∷ l) (choices_of values)

-- code prints one list of values
pub prints_one : (code : List Plain) (values others : List ℤ) → Prints code values → Prints code others → values ≡ others
prints_one code values others p q =
    let states : Some (record { stack = []; printed = values }) ≡ Some (record { stack = []; printed = others }) = sym p ∙ q in
    let same : ◌≡◌ {A = Stacked} (record { stack = []; printed = values }) (record { stack = []; printed = others }) = cc in
    ap (λ (s : Stacked). s.printed) same

-- the code of a text can be a class file: it runs, and is short
pub plain_code : (p : Program) (code : List Plain) → length code ≤ 512 → Prints code (values_of p) → IsPlainCode code
plain_code p code short prints = record { steps = short; runs = ap is_some prints }

-- the run of a program that prints these values
pub run_ends : (source : List ℕ) (p : Program) → IsFirst source p → (choices text : List ℕ) → text ≡ text_of (values_of p) → choices ≡ map (λ _. 0) (values_of p)
    → Ends source choices text [] 0
run_ends source p is choices text written chosen =
    let values = values_of p in
    record {
      program = p;
      history = onto [] values;
      halts = (0, halt.Ended end.Returned) ∷ [];
      source_is = is;
      played = ap (Rattle.kt_base.specs.World.world (Rattle.ktrun.specs.FirstRuns.meaning_of values) numbers) chosen ∙ prints_all numbers values;
      final = finishes numbers values;
      text_is = written ∙ sym (writes [] values);
      report_is = refl;
      status_is = refl;
    }

-- what was read is what the file is told to hold
pub told : {old new now : List ℕ} (bytes : List ℕ) → new ≡ old ++ bytes → old ≡ [] → now ≡ new → bytes ≡ now
told {old} {new} {now} bytes read empty same = sym (same ∙ read ∙ ap (λ l. l ++ bytes) empty)

source_by : (contents : Contents) (name source : List ℕ) → ((bytes : List ℕ) → Holds contents name bytes → bytes ≡ source)
    → (Lacks contents name → ⊥) → (o : Option (Option (List ℕ))) → file_in contents name ≡ o → HasSource contents name source
source_by contents name source whole there None is = inr is
source_by contents name source whole there (Some None) is = absurd (there is)
source_by contents name source whole there (Some (Some bytes)) is = inl (is ∙ ap (λ l. Some (Some l)) (whole bytes is))

-- a file that was read has the source that was read
pub has_source : (contents : Contents) (name source : List ℕ) → ((bytes : List ℕ) → Holds contents name bytes → bytes ≡ source)
    → (Lacks contents name → ⊥) → HasSource contents name source
has_source contents name source whole there = source_by contents name source whole there _ refl

pub read_ran : (contents : Contents) (name source : List ℕ) (r : Result Finished Stop) → HasSource contents name source
    → IfOk r (λ run. Ends source run.choices.items run.text.items [] 0) → IfOk r (λ run. Ran contents name run.choices.items run.text.items)
read_ran contents name source (Ok run) has ends = (source, has, ends)
read_ran contents name source (Err stop) has ends = tt
