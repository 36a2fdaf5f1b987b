-- What it means that a rule is decided, and the steps of which decisions are made.
use Rattle.std.proofs.Common.{List, [], ◌∷◌, Option, Some, None, ◌≡◌, refl, subst, Bool, true, false}
use Rattle.kt_typed.specs.Bodies.{ExpressionForm}
use Rattle.kt_check_rules.specs.States.{State}
use Rattle.kt_check_rules.specs.Typings.{Use, GivesOne, GivesIf, GivesSome}
use Rattle.kt_check_deciding.specs.Outcomes.{Outcome, found, none, unbuilt, Reading, reading, Decision, DecisionAt, then_go, only_if, there, gives_some, gives_one, gives_if}

-- an outcome is this one, or the form isn't decided
pub data Is {A : Type 0} : Outcome A → A → Type 0 where
  is_found : {a : A} → Is (found a) a
  is_unbuilt : {a : A} → Is unbuilt a

-- what is found is so, and what is so is found
pub record Decides {A : Type 0} (R : State → Use → A → State → Type 0) (d : Decision A) : Type 0 where
  pub sound : (s : State) (w : Use) (r : Reading A) → d s w ≡ found r → R s w r.value r.behind
  pub tells : (s : State) (w : Use) (a : A) (b : State) → R s w a b → Is (d s w) (reading a b)

pub record DecidesAt {A : Type 0} (R : State → A → State → Type 0) (d : DecisionAt A) : Type 0 where
  pub sound : (s : State) (r : Reading A) → d s ≡ found r → R s r.value r.behind
  pub tells : (s : State) (a : A) (b : State) → R s a b → Is (d s) (reading a b)

pub is_same : {A : Type 0} (o : Outcome A) (a b : A) → Is o a → o ≡ found b → b ≡ a
is_same _ a b is_found e = cc
is_same _ a b is_unbuilt e = cc

pub is_not_none : {A B : Type 0} (o : Outcome A) (a : A) → Is o a → o ≡ none → B
is_not_none _ a is_found e = cc
is_not_none _ a is_unbuilt e = cc

pub is_then : {A B : Type 0} (o : Outcome A) (a : A) (go : A → Outcome B) (b : B) → Is o a → Is (go a) b →
    Is (then_go o go) b
is_then _ a go b is_found q = q
is_then _ a go b is_unbuilt q = is_unbuilt

pub is_only_if : {A : Type 0} (t : Bool) (o : Outcome A) (a : A) → t ≡ true → Is o a → Is (only_if t o) a
is_only_if t o a e q = rw e q

pub is_there : {A B : Type 0} (o : Option A) (a : A) (go : A → Outcome B) (b : B) → o ≡ Some a → Is (go a) b →
    Is (then_go (there o) go) b
is_there o a go b e q = rw e q

pub went_on : {A B : Type 0} (o : Outcome A) (go : A → Outcome B) (b : B) → then_go o go ≡ found b →
    (a : A) × ((o ≡ found a) × (go a ≡ found b))
went_on (found a) go b e = (a, (refl, e))
went_on none go b e = cc
went_on unbuilt go b e = cc

pub was_if : {A : Type 0} (t : Bool) (o : Outcome A) (a : A) → only_if t o ≡ found a → (t ≡ true) × (o ≡ found a)
was_if true o a e = (refl, e)
was_if false o a e = cc

pub was_there : {A B : Type 0} (o : Option A) (go : A → Outcome B) (b : B) → then_go (there o) go ≡ found b →
    (a : A) × ((o ≡ Some a) × (go a ≡ found b))
was_there (Some a) go b e = (a, (refl, e))
was_there None go b e = cc

-- a rule of what was found
pub gave : {A : Type 0} (P : A → State → Type 0) (a : A) (b : State) (r : Reading A) →
    found (reading a b) ≡ found r → P a b → P r.value r.behind
gave P a b r e p = let f : reading a b ≡ r = cc in subst (λ r. P r.value r.behind) f p

pub one_found : (u : ExpressionForm) (s : State) (r : Reading (List ExpressionForm)) → gives_one u s ≡ found r →
    GivesOne u s r.value r.behind
one_found u s r e = gave (GivesOne u s) (u ∷ []) s r e (refl, refl)

pub one_is : (u : ExpressionForm) (s : State) (us : List ExpressionForm) (b : State) → GivesOne u s us b →
    Is (gives_one u s) (reading us b)
one_is u s us b p = rw (p.0, p.1) is_found

pub if_found : (o : Option ExpressionForm) (s : State) (r : Reading (List ExpressionForm)) →
    gives_if o s ≡ found r → GivesIf o s r.value r.behind
if_found None s r e = cc
if_found (Some u) s r e = one_found u s r e

pub if_is : (o : Option ExpressionForm) (s : State) (us : List ExpressionForm) (b : State) → GivesIf o s us b →
    Is (gives_if o s) (reading us b)
if_is None s us b p = absurd p
if_is (Some u) s us b p = one_is u s us b p

pub some_found : (o : Option (List ExpressionForm)) (s : State) (r : Reading (List ExpressionForm)) →
    gives_some o s ≡ found r → GivesSome o s r.value r.behind
some_found None s r e = cc
some_found (Some us) s r e = gave (GivesSome (Some us) s) us s r e (refl, refl)

pub some_is : (o : Option (List ExpressionForm)) (s : State) (us : List ExpressionForm) (b : State) →
    GivesSome o s us b → Is (gives_some o s) (reading us b)
some_is None s us b p = absurd p
some_is (Some vs) s us b p = rw (p.0, p.1) is_found

-- of one thing that is there
pub was_some : {A : Type 0} (o : Option A) (s : State) (r : Reading A) → gives_some o s ≡ found r →
    (o ≡ Some r.value) × (r.behind ≡ s)
was_some None s r e = cc
was_some (Some a) s r e = gave (λ b t. (Some a ≡ Some b) × (t ≡ s)) a s r e (refl, refl)

pub is_some : {A : Type 0} (o : Option A) (s : State) (a : A) → o ≡ Some a → Is (gives_some o s) (reading a s)
is_some o s a e = rw e is_found
