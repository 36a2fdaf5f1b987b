-- Laws of runs behind one another.
use Rattle.std.proofs.Common.{◌≡◌, ℕ, Bool, true, false, List, Option, Some, None, refl, sym, ap, ◌∙◌}
use Rattle.std.specs.Prelude.{option_map}
use Rattle.kt_values.specs.Values as v
use Rattle.kt_values.specs.Values.{Value, as_text, as_truth}
use Rattle.kt_values.specs.Runs.{Store, Gives, Run, gave, thrown, returned, broken, continued, stopped, then_do, give, ◌>>=◌, ◌>>◌, or_unfit}
use Rattle.kt_direct_frames.specs.Results.{as_unit, as_text_value, as_truth_value, without_value}
use Rattle.kt_direct_frames.specs.Frames.{unit_given}

-- what goes on alike ends alike
pub then_same : {A B : Type 0} (g : Gives A) (f h : A → Run B) → ((a : A) (s : Store) → f a s ≡ h a s)
    → then_do g f ≡ then_do g h
then_same (gave a s) f h same = same a s
then_same (thrown x s) f h same = refl
then_same (returned x s) f h same = refl
then_same (broken s) f h same = refl
then_same (continued s) f h same = refl
then_same (stopped why w) f h same = refl

pub then_then : {A B C : Type 0} (g : Gives A) (f : A → Run B) (h : B → Run C)
    → then_do (then_do g f) h ≡ then_do g (λ a. λ s. then_do (f a s) h)
then_then (gave a s) f h = refl
then_then (thrown x s) f h = refl
then_then (returned x s) f h = refl
then_then (broken s) f h = refl
then_then (continued s) f h = refl
then_then (stopped why w) f h = refl

-- what follows several runs follows the last of them
pub two_in : {A B C D : Type 0} (j : Gives A) (r : A → Run B) (p : A → B → Run C) (g : C → Run D)
    → then_do (then_do j (λ a. r a >>= p a)) g ≡ then_do j (λ a. r a >>= λ b. λ s. then_do (p a b s) g)
two_in j r p g =
    then_then j (λ a. r a >>= p a) g
    ∙ then_same j (λ a. λ s. then_do (then_do (r a s) (p a)) g) (λ a. r a >>= λ b. λ s. then_do (p a b s) g)
    (λ a s. then_then (r a s) (p a) g)

pub three_in : {A B C D E : Type 0} (j : Gives A) (r : A → Run B) (t : A → B → Run C) (p : A → B → C → Run D) (g : D → Run E)
    → then_do (then_do j (λ a. r a >>= λ b. t a b >>= p a b)) g
    ≡ then_do j (λ a. r a >>= λ b. t a b >>= λ c. λ s. then_do (p a b c s) g)
three_in j r t p g =
    then_then j (λ a. r a >>= λ b. t a b >>= p a b) g
    ∙ then_same j (λ a. λ s. then_do (then_do (r a s) (λ b. t a b >>= p a b)) g)
    (λ a. r a >>= λ b. t a b >>= λ c. λ s. then_do (p a b c s) g)
    (λ a s. two_in (r a s) (t a) (p a) g)

-- a text that is there
pub text_there : (o : Option (List ℕ)) (s : Store)
    → then_do (or_unfit o s) (λ t. give (v.text t)) ≡ or_unfit (option_map v.text o) s
text_there None s = refl
text_there (Some t) s = refl

-- a text that becomes a value, and is a text again
pub through_text : {B : Type 0} (g : Gives (List ℕ)) (go : List ℕ → Run B)
    → then_do g go ≡ then_do (then_do g (λ t. give (v.text t))) (λ x. or_unfit (as_text x) >>= go)
through_text (gave t s) go = refl
through_text (thrown x s) go = refl
through_text (returned x s) go = refl
through_text (broken s) go = refl
through_text (continued s) go = refl
through_text (stopped why w) go = refl

-- a truth value that becomes a value, and is one again
pub through_truth : {B : Type 0} (g : Gives Bool) (go : Bool → Run B)
    → then_do g go ≡ then_do (then_do g (λ b. give (v.truth b))) (λ x. or_unfit (as_truth x) >>= go)
through_truth (gave b s) go = refl
through_truth (thrown x s) go = refl
through_truth (returned x s) go = refl
through_truth (broken s) go = refl
through_truth (continued s) go = refl
through_truth (stopped why w) go = refl

-- a run without a value, and one behind it
pub unit_then : (g : Gives (Unit {0})) (run : Run (Unit {0}))
    → unit_given (then_do g (λ u. run)) ≡ then_do (unit_given g) (λ x. as_unit run)
unit_then (gave u s) run = refl
unit_then (thrown x s) run = refl
unit_then (returned x s) run = refl
unit_then (broken s) run = refl
unit_then (continued s) run = refl
unit_then (stopped why w) run = refl

pub unit_then_value : (g : Gives (Unit {0})) (run : Run Value)
    → then_do g (λ u. run) ≡ then_do (unit_given g) (λ x. run)
unit_then_value (gave u s) run = refl
unit_then_value (thrown x s) run = refl
unit_then_value (returned x s) run = refl
unit_then_value (broken s) run = refl
unit_then_value (continued s) run = refl
unit_then_value (stopped why w) run = refl

-- the value `Unit` that isn't used
pub unit_dropped : (g : Gives (Unit {0})) → without_value (unit_given g) ≡ g
unit_dropped (gave u s) = refl
unit_dropped (thrown x s) = refl
unit_dropped (returned x s) = refl
unit_dropped (broken s) = refl
unit_dropped (continued s) = refl
unit_dropped (stopped why w) = refl
