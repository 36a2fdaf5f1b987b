-- Captures in order, those before in a list.
use Rattle.std.proofs.Common.{◌≡◌, List, [], ◌∷◌, ◌++◌, refl, sym, ap, ◌∙◌}
use Rattle.std.specs.Prelude.{map}
use Rattle.std.proofs.lemmas.List.{append_assoc}
use Rattle.kt_typed.specs.Operators.{CaptureForm}
use Rattle.kt_values.specs.Values.{Value}
use Rattle.kt_values.specs.Runs.{Store, Gives, Run, gave, thrown, returned, broken, continued, stopped, then_do, give}
use Rattle.kt_meaning.specs.Activations.{Activation}
use Rattle.kt_meaning.specs.Variables.{captured_all, captured_from}

-- behind those that are taken
abbrev pub behind : List Value → Gives (List Value) → Gives (List Value)
behind taken g = then_do g (λ rest. give (taken ++ rest))

pub behind_none : (g : Gives (List Value)) → g ≡ behind [] g
behind_none (gave xs s) = refl
behind_none (thrown x s) = refl
behind_none (returned x s) = refl
behind_none (broken s) = refl
behind_none (continued s) = refl
behind_none (stopped why w) = refl

pub one_more : (taken : List Value) (x : Value) (g : Gives (List Value))
    → behind taken (then_do g (λ rest. give (x ∷ rest))) ≡ behind (taken ++ x ∷ []) g
one_more taken x (gave xs s) = ap (λ all. gave all s) (sym (append_assoc taken (x ∷ []) xs))
one_more taken x (thrown y s) = refl
one_more taken x (returned y s) = refl
one_more taken x (broken s) = refl
one_more taken x (continued s) = refl
one_more taken x (stopped why w) = refl

pub next_captured : (here : Activation) (c : CaptureForm) (cs : List CaptureForm) (taken : List Value) (x : Value) (s : Store)
    → captured_from here c.source s ≡ gave x s
    → behind taken (captured_all here (c ∷ cs) s) ≡ behind (taken ++ x ∷ []) (captured_all here cs s)
next_captured here c cs taken x s is =
    ap (λ g. behind taken (then_do g (λ first. λ s. then_do (captured_all here cs s) (λ rest. give (first ∷ rest))))) is
    ∙ one_more taken x (captured_all here cs s)
