-- Which statuses a source leaves, by what it is.
use Rattle.std.proofs.Common.{◌≡◌, ℕ, List, [], ◌∷◌, length, length-append, Option, None, Some, inl, inr, Result, Ok, Err, ◌⊎◌, sym, ap, subst, ◌∙◌, arith}
use Rattle.std.specs.Result.{IsErr, IsErrAnd}
use Rattle.kt_base.specs.declared.refusals.Refusal.{Refusal}
use Rattle.kt_first.specs.declared.reading.FirstErr.{FirstErr}
use Rattle.kt_first.specs.declared.reading.FirstErr.TheVariants as text
use Rattle.kt_first.specs.Programs.{Program}
use Rattle.kt_first.specs.Trees.{IsFirst}
use Rattle.kt_outside.specs.Faults.{Adds}
use Rattle.kt_outside.specs.Held.{Contents, Holds, Lacks}
use Rattle.kt_parser.specs.Refusals.{HasTree, IsRefused}
use Rattle.kt_parser.proofs.OneAnswer.{tree_excludes_refusal}
use Rattle.ktrun.specs.declared.running.Stop.{Stop}
use Rattle.ktrun.specs.declared.running.Stop.TheVariants as stop
use Rattle.ktrun.specs.declared.running.Finished.{Finished}
use Rattle.ktrun.specs.FirstRuns.{IsOfFirst}
use Rattle.ktrun.specs.Statuses as status
use Rattle.ktrun.specs.Statuses.{IsOfFile}
use Rattle.ktrun.specs.Headline.{Outside, HasSource, IsForeign, HoldsForeign, HoldsRefused, Ran, Says, Comes, ReadsAll}
use Rattle.ktrun.specs.Stops.{stop_of_text}

-- a text that isn't of the first subset, and has a tree
pub foreign_text : (r : Result Finished Stop) (e : FirstErr) (source : List ℕ) → IsErr r × IsErrAnd r (λ x. x ≡ stop_of_text e) → HasTree source
    → ((p : Program) → IsFirst source p → e ≡ text.NoMemory) → r ≡ Err stop.NotBuilt → IsForeign source
foreign_text (Ok run) e source is tree only same = absurd cc
foreign_text (Err x) e source is tree only same = (tree, λ first. clash x same (is.1 ∙ ap stop_of_text (only first.0 first.1)))
  where
    clash : (x : Stop) → ◌≡◌ {A = Result Finished Stop} (Err x) (Err stop.NotBuilt) → x ≡ stop.NoMemory → ⊥
    clash x same is = let not_built : x ≡ stop.NotBuilt = cc in let both : stop.NoMemory ≡ stop.NotBuilt = sym is ∙ not_built in absurd cc

-- a text of the first subset is a file
pub first_has_tree : (source : List ℕ) → IsOfFirst source → HasTree source
first_has_tree source x = (x.1.file, (x.1.tokens, x.1.has_tokens, x.1.is_file))

-- no text is both
pub not_both : (source : List ℕ) (r : Refusal) → HasTree source → IsRefused source r → ⊥
not_both source r tree refused = tree_excludes_refusal source tree.0 r tree.1 refused

-- a file that is told to hold a source has no other
one_source : (contents : Contents) (name source other : List ℕ) → Holds contents name source → HasSource contents name other → other ≡ source
one_source contents name source other holds (inl has) = let same : Some (Some other) ≡ Some (Some source) = sym has ∙ holds in cc
one_source contents name source other holds (inr untold) = absurd (let same : None ≡ Some (Some source) = sym untold ∙ holds in cc)

-- an absent file has no source
no_source : (contents : Contents) (name source : List ℕ) → Lacks contents name → HasSource contents name source → ⊥
no_source contents name source lacks (inl has) = let same : Some (Some source) ≡ Some None = sym has ∙ lacks in cc
no_source contents name source lacks (inr untold) = let same : None ≡ Some None = sym untold ∙ lacks in cc

-- what is said of the file's source is said of the source that it is told to hold
module _ (contents : Contents) (name source : List ℕ) (holds : Holds contents name source) where
  refused_source : (r : Refusal) → HoldsRefused contents name r → IsRefused source r
  refused_source r x = subst (λ (s : List ℕ). IsRefused s r) (one_source contents name source x.0 holds x.1) x.2

  foreign_source : HoldsForeign contents name → IsForeign source
  foreign_source x = subst (λ (s : List ℕ). IsForeign s) (one_source contents name source x.0 holds x.1) x.2

  ran_source : (choices text : List ℕ) → Ran contents name choices text → IsOfFirst source
  ran_source choices text x =
      subst (λ (s : List ℕ). IsOfFirst s) (one_source contents name source x.0 holds x.1) (x.2.program, x.2.source_is)

-- a list that a name was added to isn't as it was
no_added : (name : List ℕ) (before after : List (List ℕ)) → Adds name before after → after ≡ before → ⊥
no_added name before after added same = omega (arith, ap (λ (l : List (List ℕ)). length l) (sym added ∙ same), length-append before (name ∷ []))

-- ---- one of the statuses is left

only_done : (ended : ℕ) → IsOfFile ended → (ended ≡ 1 → ⊥) → (ended ≡ 7 → ⊥) → (ended ≡ 8 → ⊥) → (ended ≡ 11 → ⊥) → (ended ≡ 0) ⊎ (ended ≡ 6)
only_done ended is a b c d = grind arith

only_refused : (ended : ℕ) → IsOfFile ended → (ended ≡ 0 → ⊥) → (ended ≡ 7 → ⊥) → (ended ≡ 8 → ⊥) → (ended ≡ 11 → ⊥) → (ended ≡ 1) ⊎ (ended ≡ 6)
only_refused ended is a b c d = grind arith

only_foreign : (ended : ℕ) → IsOfFile ended → (ended ≡ 0 → ⊥) → (ended ≡ 1 → ⊥) → (ended ≡ 7 → ⊥) → (ended ≡ 8 → ⊥) → (ended ≡ 11) ⊎ (ended ≡ 6)
only_foreign ended is a b c d = grind arith

only_unread : (ended : ℕ) → IsOfFile ended → (ended ≡ 0 → ⊥) → (ended ≡ 1 → ⊥) → (ended ≡ 8 → ⊥) → (ended ≡ 11 → ⊥) → (ended ≡ 7) ⊎ (ended ≡ 6)
only_unread ended is a b c d = grind arith

-- what is said of a status leaves one to each kind of source
pub comes : (name : List ℕ) (before after : Outside) (ended : ℕ) (choices : List ℕ) → Says name before after ended choices → Comes name before after ended
comes name before after ended choices x = record {
  runs = λ source holds first quiet unbroken.
      only_done ended x.is_status
      (λ is. let said = x.refused is in not_both source said.0 (first_has_tree source first) (refused_source before.held name source holds said.0 said.1))
      (λ is. no_added _ _ _ (x.cannot_read is) quiet)
      (λ is. unbroken (x.cannot_write is).3)
      (λ is. (foreign_source before.held name source holds (x.not_built is)).1 first);
  refuses = λ source r holds refused quiet.
      only_refused ended x.is_status
      (λ is. not_both source r (first_has_tree source (ran_source before.held name source holds _ _ (x.done is).1)) refused)
      (λ is. no_added _ _ _ (x.cannot_read is) quiet)
      (λ is. not_both source r (first_has_tree source (ran_source before.held name source holds _ _ (x.cannot_write is).1)) refused)
      (λ is. not_both source r (foreign_source before.held name source holds (x.not_built is)).0 refused);
  foreign = λ source holds foreign quiet.
      only_foreign ended x.is_status
      (λ is. foreign.1 (ran_source before.held name source holds _ _ (x.done is).1))
      (λ is. let said = x.refused is in not_both source said.0 foreign.0 (refused_source before.held name source holds said.0 said.1))
      (λ is. no_added _ _ _ (x.cannot_read is) quiet)
      (λ is. foreign.1 (ran_source before.held name source holds _ _ (x.cannot_write is).1));
  absent = λ lacks.
      only_unread ended x.is_status
      (λ is. no_source before.held name _ lacks (x.done is).1.1)
      (λ is. no_source before.held name _ lacks (x.refused is).1.1)
      (λ is. no_source before.held name _ lacks (x.cannot_write is).1.1)
      (λ is. no_source before.held name _ lacks (x.not_built is).1);
}
