-- What a run says, by the way in which it ended.
use Rattle.std.proofs.Common.{◌≡◌, ◌≢◌, ◌⊎◌, inl, inr, ℕ, List, [], Some, Result, Err, refl, sym, ap, subst, ◌∙◌, arith}
use Rattle.std.specs.Io.KnownBytes.{Appends}
use Rattle.kt_base.specs.declared.refusals.Refusal.{Refusal}
use Rattle.kt_base.specs.Refusals.{refusal_text}
use Rattle.kt_base.specs.Report.{line}
use Rattle.kt_outside.specs.Faults.{Rose, Adds}
use Rattle.kt_outside.specs.Held.{AppendsPrefix}
use Rattle.ktrun.specs.declared.running.Finished.{Finished}
use Rattle.ktrun.specs.declared.running.Stop.{Stop}
use Rattle.ktrun.specs.declared.running.Stop.TheVariants as stop
use Rattle.ktrun.specs.Headline.{Outside, Stream, Ran, HoldsRefused, HoldsForeign, Tells, ReadsAll, Says, Headline}
use Rattle.ktrun.specs.Statuses as status
use Rattle.ktrun.specs.Statuses.{IsOfFile, IsUnrun, status_line}
use Rattle.ktrun.proofs.Causes.{comes}

-- files stay as they were
pub record Kept (before after : Outside) : Type 0 where
  pub held : after.held ≡ before.held
  pub put_faults : after.put_faults ≡ before.put_faults

-- ... and nothing was run
pub record Unrun (before after : Outside) (choices : List ℕ) : Type 0 where
  pub kept : Kept before after
  pub out : after.out ≡ before.out
  pub none : choices ≡ []

is_unrun : (ended s : ℕ) → ended ≡ s → IsUnrun s → IsUnrun ended
is_unrun ended s is unrun = subst (λ (s : ℕ). IsUnrun s) (sym is) unrun

of_file : (ended : ℕ) → IsUnrun ended → IsOfFile ended
of_file ended unrun = grind arith

-- what comes of every result but that of a file that couldn't be read
pub not_unread : {A : Type 0} (r : Result Finished Stop) (e : Stop) → r ≡ Err e → (e ≡ stop.ReadFault → ⊥)
    → (r ≢ Err stop.ReadFault → A) → A
not_unread r e is isn't reads = reads (λ same. isn't (let both : ◌≡◌ {A = Result Finished Stop} (Err e) (Err stop.ReadFault) = sym is ∙ same in cc))

module _ (name : List ℕ) (before after : Outside) (ended : ℕ) (choices : List ℕ) where
  pub whole : Says name before after ended choices → Headline (Some name) before after ended choices
  whole says = (says, comes name before after ended choices says)

  of_status : (s : ℕ) → ended ≡ s → Tells before.err after.err (status_line s name)
      → Tells before.err after.err (status_line ended name)
  of_status s is told = subst (λ (s : ℕ). Tells before.err after.err (status_line s name)) (sym is) told

  not_run : IsUnrun ended → Unrun before after choices
      → (ended ≡ status.refused → (r : Refusal) × HoldsRefused before.held name r × Tells before.err after.err (line (refusal_text r)))
      → (ended ≡ status.not_built → HoldsForeign before.held name) → (ended ≡ status.cannot_read → Adds name before.read_faults after.read_faults)
      → (ended ≢ status.cannot_read → ReadsAll before after) → (ended ≢ status.refused → Tells before.err after.err (status_line ended name))
      → Says name before after ended choices
  not_run early unrun refused foreign adds reads told = record {
    is_status = of_file ended early;
    done = λ is. let x = subst (λ (s : ℕ). IsUnrun s) is early in cc;
    cannot_write = λ is. let x = subst (λ (s : ℕ). IsUnrun s) is early in cc;
    refused = refused;
    not_built = foreign;
    cannot_read = adds;
    no_read_fault = reads;
    no_write_fault = λ _. ap (λ (s : Stream). s.faults) unrun.out;
    nothing_written = λ _. unrun.out;
    no_choices = λ _. unrun.none;
    told = told;
    files_stay = unrun.kept.held;
    nothing_put = unrun.kept.put_faults;
  }

  -- the file couldn't be read
  pub unread : ended ≡ status.cannot_read → Unrun before after choices → Adds name before.read_faults after.read_faults
      → Tells before.err after.err (status_line status.cannot_read name) → Says name before after ended choices
  unread is unrun adds told =
      not_run (is_unrun ended _ is refl) unrun (λ x. absurd (omega (arith, is, x))) (λ x. absurd (omega (arith, is, x)))
      (λ _. adds) (λ isn't. absurd (isn't is)) (λ _. of_status _ is told)

  -- its text isn't run yet
  pub unbuilt : ended ≡ status.not_built → Unrun before after choices → HoldsForeign before.held name → ReadsAll before after
      → Tells before.err after.err (status_line status.not_built name) → Says name before after ended choices
  unbuilt is unrun foreign reads told =
      not_run (is_unrun ended _ is refl) unrun (λ x. absurd (omega (arith, is, x))) (λ _. foreign)
      (λ x. absurd (omega (arith, is, x))) (λ _. reads) (λ _. of_status _ is told)

  -- it is refused, or memory for the line was
  pub refuses : (r : Refusal) → (ended ≡ status.refused) ⊎ (ended ≡ status.no_memory) → Unrun before after choices
      → HoldsRefused before.held name r → ReadsAll before after
      → (ended ≡ status.refused → Tells before.err after.err (line (refusal_text r)))
      → (ended ≡ status.no_memory → Tells before.err after.err (status_line status.no_memory [])) → Says name before after ended choices
  refuses r (inl is) unrun holds reads told short =
      not_run (is_unrun ended _ is refl) unrun (λ _. (r, holds, told is)) (λ x. absurd (omega (arith, is, x)))
      (λ x. absurd (omega (arith, is, x))) (λ _. reads) (λ isn't. absurd (isn't is))
  refuses r (inr is) unrun holds reads told short =
      not_run (is_unrun ended _ is refl) unrun (λ x. absurd (omega (arith, is, x))) (λ x. absurd (omega (arith, is, x)))
      (λ x. absurd (omega (arith, is, x))) (λ _. reads)
      (λ _. of_status _ is (short is))

  -- it was run
  pub ran : (text : List ℕ) → (ended ≡ status.done) ⊎ (ended ≡ status.cannot_write) → Kept before after → Ran before.held name choices text
      → ReadsAll before after → (ended ≡ status.done → Appends before.out.taken after.out.taken text)
      → (ended ≡ status.cannot_write → AppendsPrefix before.out.taken after.out.taken text × Rose before.out.faults after.out.faults)
      → (ended ≢ status.cannot_write → after.out.faults ≡ before.out.faults)
      → Tells before.err after.err (status_line ended name) → Says name before after ended choices
  ran text ends kept was reads appends prefix unfailed told = record {
    is_status = is_of_file ends;
    done = λ x. (text, was, appends x);
    cannot_write = λ x. let p = prefix x in (text, was, p.0, p.1);
    refused = λ x. absurd (not_early ends (inl x));
    not_built = λ x. absurd (not_early ends (inr (inl x)));
    cannot_read = λ x. absurd (not_early ends (inr (inr x)));
    no_read_fault = λ _. reads;
    no_write_fault = unfailed;
    nothing_written = λ x. absurd (not_unrun ends x);
    no_choices = λ x. absurd (not_unrun ends x);
    told = λ _. told;
    files_stay = kept.held;
    nothing_put = kept.put_faults;
  }
    where
      is_of_file : (ended ≡ status.done) ⊎ (ended ≡ status.cannot_write) → IsOfFile ended
      is_of_file (inl is) = subst (λ (s : ℕ). IsOfFile s) (sym is) refl
      is_of_file (inr is) = subst (λ (s : ℕ). IsOfFile s) (sym is) refl

      not_early : (ended ≡ status.done) ⊎ (ended ≡ status.cannot_write) → (ended ≡ status.refused) ⊎ ((ended ≡ status.not_built) ⊎ (ended ≡ status.cannot_read)) → ⊥
      not_early is early = grind arith

      not_unrun : (ended ≡ status.done) ⊎ (ended ≡ status.cannot_write) → IsUnrun ended → ⊥
      not_unrun (inl is) unrun = let x = subst (λ (s : ℕ). IsUnrun s) is unrun in cc
      not_unrun (inr is) unrun = let x = subst (λ (s : ℕ). IsUnrun s) is unrun in cc
