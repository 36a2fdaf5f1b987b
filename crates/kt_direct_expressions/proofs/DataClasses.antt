-- The generated functions of data classes, property by property.
use Rattle.std.proofs.Common.{◌≡◌, ◌+◌, ◌++◌, ℕ, Bool, false, cond, List, ◌∷◌, refl, sym, subst, ap, ◌∙◌}
use Rattle.std.specs.Prelude.{codes}
use Rattle.kt_typed.specs.Headers.{PropertyForm}
use Rattle.kt_values.specs.Values as v
use Rattle.kt_values.specs.Values.{Value, as_truth}
use Rattle.kt_values.specs.Runs.{Store, Gives, Run, gave, then_do, give, or_unfit, ◌>>=◌}
use Rattle.kt_values.specs.Heap.{read_slot}
use Rattle.kt_meaning.specs.Activations.{Activation}
use Rattle.kt_meaning.specs.Equality.{equal, properties_equal}
use Rattle.kt_meaning.specs.Printing.{joined, put_properties, text_of}
use Rattle.kt_direct_values.specs.declared.ends.Abrupt.{Abrupt}
use Rattle.kt_direct_values.specs.Agree.{Fails}
use Rattle.kt_direct_values.proofs.Passing.{passes}
use Rattle.kt_direct_frames.specs.Results.{as_text_value, as_truth_value}
use Rattle.kt_direct_frames.proofs.Binding.{then_same, then_then, three_in, through_truth}

-- whether they are equal in a slot, and then behind it
pub same_then : (e : Gives Bool) (rest : Run Bool)
    → then_do (then_do e (λ same. cond same rest (give false))) (λ b. give (v.truth b))
    ≡ then_do (then_do e (λ b. give (v.truth b)))
    (λ x. or_unfit (as_truth x) >>= λ same. as_truth_value (cond same rest (give false)))
same_then e rest =
    then_then e (λ same. cond same rest (give false)) (λ b. give (v.truth b))
    ∙ through_truth e (λ same. as_truth_value (cond same rest (give false)))

pub same_property : (here : Activation) (x y a b : Value) (slot : ℕ) (p : PropertyForm) (ps : List PropertyForm) (s : Store)
    → read_slot x slot s ≡ gave a s → read_slot y slot s ≡ gave b s
    → as_truth_value (properties_equal here x y slot (p ∷ ps)) s
    ≡ then_do (as_truth_value (equal here a b) s) (λ v. or_unfit (as_truth v) >>= λ same.
    as_truth_value (cond same (properties_equal here x y (slot + 1) ps) (give false)))
same_property here x y a b slot p ps s first second =
    ap (λ g. then_do (then_do g (λ a. read_slot y slot >>= λ b. equal here a b >>= λ same.
    cond same (properties_equal here x y (slot + 1) ps) (give false))) (λ b. give (v.truth b))) first
    ∙ ap (λ g. then_do (then_do g (λ b. equal here a b >>= λ same.
    cond same (properties_equal here x y (slot + 1) ps) (give false))) (λ b. give (v.truth b))) second
    ∙ same_then (equal here a b s) (properties_equal here x y (slot + 1) ps)

-- what a slot can't be read for
pub first_fails : (here : Activation) (x y : Value) (slot : ℕ) (p : PropertyForm) (ps : List PropertyForm) (e : Abrupt)
    (s : Store) → Fails e s (read_slot x slot s) → Fails e s (as_truth_value (properties_equal here x y slot (p ∷ ps)) s)
first_fails here x y slot p ps e s fails =
    passes e s (properties_equal here x y slot (p ∷ ps) s) (λ b. give (v.truth b))
    (passes e s (read_slot x slot s) (λ a. read_slot y slot >>= λ b. equal here a b >>= λ same.
    cond same (properties_equal here x y (slot + 1) ps) (give false)) fails)

pub second_fails : (here : Activation) (x y a : Value) (slot : ℕ) (p : PropertyForm) (ps : List PropertyForm) (e : Abrupt)
    (s : Store) → read_slot x slot s ≡ gave a s → Fails e s (read_slot y slot s)
    → Fails e s (as_truth_value (properties_equal here x y slot (p ∷ ps)) s)
second_fails here x y a slot p ps e s first fails =
    passes e s (properties_equal here x y slot (p ∷ ps) s) (λ b. give (v.truth b))
    (subst (λ g. Fails e s (then_do g (λ a. read_slot y slot >>= λ b. equal here a b >>= λ same.
    cond same (properties_equal here x y (slot + 1) ps) (give false)))) (sym first)
    (passes e s (read_slot y slot s) (λ b. equal here a b >>= λ same.
    cond same (properties_equal here x y (slot + 1) ps) (give false)) fails))

-- the name of a property, its content and its text, and then the others
pub named_then : (here : Activation) (x : Value) (done before : List ℕ) (slot : ℕ) (p : PropertyForm) (ps : List PropertyForm)
    (s : Store)
    → as_text_value (put_properties here x done before slot (p ∷ ps)) s
    ≡ then_do (joined done (before ++ p.name ++ codes "=") s) (λ named. read_slot x slot >>= λ content.
    text_of here content >>= λ t. joined named t >>= λ more.
    as_text_value (put_properties here x more (codes ", ") (slot + 1) ps))
named_then here x done before slot p ps s =
    then_then (joined done (before ++ p.name ++ codes "=") s) (λ named. read_slot x slot >>= λ content.
    text_of here content >>= λ t. joined named t >>= λ more. put_properties here x more (codes ", ") (slot + 1) ps)
    (λ t. give (v.text t))
    ∙ then_same (joined done (before ++ p.name ++ codes "=") s)
    (λ named. λ s. as_text_value (read_slot x slot >>= λ content. text_of here content >>= λ t. joined named t >>= λ more.
    put_properties here x more (codes ", ") (slot + 1) ps) s)
    (λ named. read_slot x slot >>= λ content. text_of here content >>= λ t. joined named t >>= λ more.
    as_text_value (put_properties here x more (codes ", ") (slot + 1) ps))
    (λ named s. three_in (read_slot x slot s) (λ content. text_of here content) (λ content t. joined named t)
    (λ content t more. put_properties here x more (codes ", ") (slot + 1) ps) (λ t. give (v.text t)))
