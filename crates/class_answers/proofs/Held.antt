-- What a file that was read may hold, and what is answered where it wasn't.
use Rattle.std.proofs.Common.{◌≡◌, ℕ, List, [], ◌++◌, Option, None, Some, inl, inr, refl, sym, ap, ◌∙◌}
use Rattle.kt_outside.specs.Faults.{Adds}
use Rattle.kt_outside.specs.Held.{Contents, file_in, Holds, Lacks}
use Rattle.class_answers.specs.declared.answers.Answer.{Answer}
use Rattle.class_answers.specs.declared.answers.Answer.TheVariants as answer
use Rattle.class_answers.specs.Naming.{IsUnread, MayHold, NamesUnread}

holds_by : (held : Contents) (name now : List ℕ) → ((bytes : List ℕ) → Holds held name bytes → bytes ≡ now)
    → (Lacks held name → ⊥) → (o : Option (Option (List ℕ))) → file_in held name ≡ o → MayHold held name now
holds_by held name now whole there None is = inr is
holds_by held name now whole there (Some None) is = absurd (there is)
holds_by held name now whole there (Some (Some bytes)) is = inl (is ∙ ap (λ (l : List ℕ). Some (Some l)) (whole bytes is))

-- what was read is what the file may hold
pub may_hold : (held : Contents) (name now : List ℕ) → ((bytes : List ℕ) → Holds held name bytes → bytes ≡ now)
    → (Lacks held name → ⊥) → MayHold held name now
may_hold held name now whole there = holds_by held name now whole there _ refl

-- what was read behind nothing is the whole
pub whole_is : {old new : List ℕ} (bytes : List ℕ) → new ≡ old ++ bytes → old ≡ [] → bytes ≡ new
whole_is {old} {new} bytes read empty = sym (read ∙ ap (λ (l : List ℕ). l ++ bytes) empty)

-- a read that failed
pub unread : (a : Answer) (name : List ℕ) (before after : List (List ℕ)) → NamesUnread name a → Adds name before after
    → IsUnread name before after a
unread (answer.CannotRead file) name before after named adds = (named, adds)
unread answer.NoMemory name before after named adds = inr adds
unread answer.Fine name before after named adds = absurd named
unread (answer.Altered file) name before after named adds = absurd named
unread answer.Usage name before after named adds = absurd named
unread (answer.BadBytes file at) name before after named adds = absurd named
unread (answer.Missing class) name before after named adds = absurd named
unread (answer.Cyclic class) name before after named adds = absurd named
unread answer.NoMain name before after named adds = absurd named
unread (answer.Rejected class method at) name before after named adds = absurd named
