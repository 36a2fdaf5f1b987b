-- Lines that are written in pieces.
use Rattle.std.proofs.Common.{◌≡◌, ℕ, List, [], ◌∷◌, ◌++◌, Option, Result, Ok, Err, sym, ap, subst, ◌∙◌}
use Rattle.std.specs.Prelude.{OnOk}
use Rattle.std.specs.Io.KnownBytes.{Appends}
use Rattle.std.proofs.lemmas.List.{append_assoc}
use Rattle.kt_base.specs.Report.{line}
use Rattle.kt_outside.proofs.Appending.{appends_more}
use Rattle.class_answers.specs.Answers.{err_line}
use Rattle.class_answers.specs.declared.answers.Answer.{Answer}

abbrev Known : Type 0
Known = Option (List ℕ)

-- a piece, and the line of the rest
pub joined : {E : Type 0} (r : Result Unit E) (a b c : Known) (piece front rest : List ℕ) → piece ≡ front → Appends a b piece
    → OnOk r (Appends b c (line rest)) → OnOk r (Appends a c (line (front ++ rest)))
joined (Err e) a b c piece front rest is x y = tt
joined (Ok u) a b c piece front rest is x y =
    subst (λ (text : List ℕ). Appends a c text) (ap (λ p. p ++ line rest) is ∙ sym (append_assoc front rest (10 ∷ [])))
    (appends_more a b c piece (line rest) x y)

-- the line of an answer, whose text is known by an equation
pub told : {E : Type 0} (r : Result Unit E) (a c : Known) (answer other : Answer) (text wanted : List ℕ) → answer ≡ other
    → text ≡ wanted → err_line other ≡ line wanted → OnOk r (Appends a c (line text)) → OnOk r (Appends a c (err_line answer))
told (Err e) a c answer other text wanted is same named x = tt
told (Ok u) a c answer other text wanted is same named x =
    subst (λ (t : List ℕ). Appends a c t) (ap line same ∙ sym named ∙ ap err_line (sym is)) x

-- the same line
pub on_line : {E : Type 0} (r : Result Unit E) (a c : Known) (text other : List ℕ) → text ≡ other → OnOk r (Appends a c (line text))
    → OnOk r (Appends a c (line other))
on_line (Err e) a c text other is x = tt
on_line (Ok u) a c text other is x = subst (λ (t : List ℕ). Appends a c (line t)) is x
