-- The lines of the error stream.
use Rattle.std.proofs.Common.{◌≡◌, ℕ, List, [], ◌∷◌, Option, ◌⊎◌, inl, inr, Result, Ok, Err, sym, subst}
use Rattle.std.specs.Prelude.{codes, OnOk, OnErr}
use Rattle.std.specs.Io.KnownBytes.{Appends}
use Rattle.std.proofs.lemmas.List.{append_assoc}
use Rattle.kt_base.specs.Report.{line}
use Rattle.kt_outside.proofs.Appending.{appends_more}
use Rattle.ktrun.specs.Statuses.{status_line}

abbrev Known : Type 0
Known = Option (List ℕ)

-- the line of a file that can't be read, in two pieces
pub name_line : {E : Type 0} {status : ℕ} → status ≡ 7 → (a b c : Known) (name : List ℕ) (r : Result Unit E)
    → Appends a b (codes "ktrun: cannot read ") → OnOk r (Appends b c (line name)) → OnOk r (Appends a c (status_line status name))
name_line is a b c name (Err e) x y = tt
name_line is a b c name (Ok u) x y =
    subst (λ (s : ℕ). Appends a c (status_line s name)) (sym is)
    (subst (λ (text : List ℕ). Appends a c text) (sym (append_assoc (codes "ktrun: cannot read ") name (10 ∷ []))) (appends_more a b c (codes "ktrun: cannot read ") (line name) x y))

-- the line was taken, or the stream failed
pub taken_or_risen : {E : Type 0} (r : Result Unit E) (A B : Type 0) → OnOk r A → OnErr r B → A ⊎ B
taken_or_risen (Ok u) A B a b = inl a
taken_or_risen (Err e) A B a b = inr b
