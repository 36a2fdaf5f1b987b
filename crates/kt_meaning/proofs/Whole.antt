-- Bodies keep what code keeps; so each course of a unit is whole, and the bound on calls and loops is never met.
use Rattle.std.proofs.Common.{◌≡◌, ◌≤◌, ℕ, zero, suc, true, List, [], ◌∷◌, ◌++◌, Option, Some, None, length, refl, subst, arith, not}
use Rattle.std.specs.Prelude.{slice_get, is_some}
use Rattle.kt_base.specs.declared.lumps.Lump.{Lump}
use Rattle.kt_base.specs.declared.events.Answer.{Answer}
use Rattle.kt_base.specs.declared.events.Start.{Start}
use Rattle.kt_base.specs.declared.events.Start.TheVariants as start
use Rattle.kt_base.specs.Meaning.{Course}
use Rattle.kt_typed.specs.Bodies.{superclass, StatementForms, statements_end, statement_then}
use Rattle.kt_typed.specs.Headers.{ClassParameterForm}
use Rattle.kt_typed.specs.Order.{lambdas}
use Rattle.kt_typed.specs.Units.{UnitForm}
use Rattle.kt_values.specs.Values as v
use Rattle.kt_values.specs.Values.{Value, listed}
use Rattle.kt_values.specs.Runs.{World, turns_spent, numbers_spent, asks, unfit, bound_met, Gives, gave, thrown, returned, broken, continued, stopped, Run}
use Rattle.kt_values.proofs.Keeping.{Kept, IsFine, Keeps, binds, follows, gives, unfit_keeps, or_unfit_keeps, charged_keeps, no_turn_keeps}
use Rattle.kt_meaning.specs.Activations.{Activation, Callee, Called, of_function, of_member, of_constructor, of_lambda, generated_equals, generated_to_string}
use Rattle.kt_meaning.specs.Units.{Entered, within, finished, on_own_variables, variables_of, statements_of, runs, stored, all_stored, built_by, builds, function_body, member_body, constructor_body, class_parameters, lambda_receiver, generated, generated_equal, called, calls, main_of, launched, run_from, fresh, course_of}
use Rattle.kt_meaning.specs.Laws.{CoursesAreWhole, BoundIsNeverMet}
use Rattle.kt_meaning.proofs.KeepingParts.{reflexive, initialized_keeps, data_equal_keeps, data_text_keeps, imported_keeps}
use Rattle.kt_meaning.proofs.KeepingEval.{acts_keep, act_keeps}

few : (n k : ℕ) (w : World) → Kept n k w → length w.events ≤ n
few n k w h = omega (arith, h.count)

finished_fine : (n k : ℕ) (caller : List Value) (g : Gives (Unit {0})) → IsFine n k g → IsFine n k (finished caller g)
finished_fine n k caller (gave x s) h = h
finished_fine n k caller (returned x s) h = h
finished_fine n k caller (thrown x s) h = h
finished_fine n k caller (broken s) h = few n k s.world h
finished_fine n k caller (continued s) h = few n k s.world h
finished_fine n k caller (stopped why w) h = h

own_keeps : {n m : ℕ} (variables : List Value) {code : Run (Unit {0})}
    → Keeps n m code → Keeps n m (on_own_variables variables code)
own_keeps {n} variables {code} h =
    record {
      each = λ k le s w.
          finished_fine n k s.variables (code (record s { variables = variables }))
          (h.each k le (record s { variables = variables }) w);
    }

-- all further calls keep it
abbrev CallsKeep : ℕ → ℕ → Callee → Type 0
CallsKeep n m call = (c : Called) (xs : List Value) → Keeps n m (call c xs)

runs_keeps : (n : ℕ) (e : Entered) (xs : List Value) → CallsKeep n e.here.bound e.here.call
    → Keeps n e.here.bound (runs e xs)
runs_keeps n e xs h = own_keeps (variables_of e.body xs) (acts_keep n e.here h (statements_of e.body))

stored_keeps : (n : ℕ) (here : Activation) → CallsKeep n here.bound here.call → (p : Option ℕ) (x : Value)
    → Keeps n here.bound (stored here p x)
stored_keeps n here h None x = gives tt
stored_keeps n here h (Some place) x = initialized_keeps n here.bound here h place x

all_stored_keeps : (n : ℕ) (here : Activation) → CallsKeep n here.bound here.call
    → (ps : List ClassParameterForm) (xs : List Value) → Keeps n here.bound (all_stored here ps xs)
all_stored_keeps n here h [] xs = gives tt
all_stored_keeps n here h (p ∷ ps) [] = unfit_keeps
all_stored_keeps n here h (p ∷ ps) (x ∷ xs) =
    follows (stored_keeps n here h p.property x) (all_stored_keeps n here h ps xs)

built_by_keeps : (n : ℕ) (here : Activation) → CallsKeep n here.bound here.call → {store : Run (Unit {0})}
    → Keeps n here.bound store → (ss : StatementForms) → Keeps n here.bound (built_by here store ss)
built_by_keeps n here h f (statement_then (superclass at es) rest) =
    follows (act_keeps n here h (superclass at es)) (follows f (acts_keep n here h rest))
built_by_keeps n here h f statements_end = follows f (acts_keep n here h statements_end)
built_by_keeps n here h f (statement_then s rest) = follows f (acts_keep n here h (statement_then s rest))

builds_keeps : (n : ℕ) (e : Entered) (ps : List ClassParameterForm) (xs : List Value)
    → CallsKeep n e.here.bound e.here.call → Keeps n e.here.bound (builds e ps xs)
builds_keeps n e ps xs h =
    own_keeps (variables_of e.body xs) (built_by_keeps n e.here h (all_stored_keeps n e.here h ps xs)
    (statements_of e.body))

generated_equal_keeps : (n : ℕ) (here : Activation) → CallsKeep n here.bound here.call
    → (d : ℕ) (x : Value) (xs : List Value)
    → Keeps n here.bound (generated_equal here d x xs)
generated_equal_keeps n here h d x [] = unfit_keeps
generated_equal_keeps n here h d x (y ∷ []) =
    binds (data_equal_keeps n here.bound here h d x y) (λ same. gives (v.truth same))
generated_equal_keeps n here h d x (y ∷ z ∷ xs) = unfit_keeps

called_keeps : (n : ℕ) (u : UnitForm) (call : Callee) (m : ℕ) → CallsKeep n m call → (c : Called) (xs : List Value)
    → Keeps n m (called u call m c xs)
called_keeps n u call m h (of_function i) xs =
    binds (or_unfit_keeps (function_body u i)) (λ f. runs_keeps n (within u call m v.null 0 [] f) xs h)
called_keeps n u call m h (of_member d place x) xs =
    binds (or_unfit_keeps (member_body u d place)) (λ f. runs_keeps n (within u call m x d [] f) xs h)
called_keeps n u call m h (of_constructor d x) xs =
    binds (or_unfit_keeps (constructor_body u d)) (λ f.
    builds_keeps n (within u call m x d [] f) (class_parameters u d) xs h)
called_keeps n u call m h (of_lambda i taken) xs =
    binds (or_unfit_keeps (slice_get (lambdas u) i)) (λ f.
    runs_keeps n (within u call m (lambda_receiver f taken) 0 taken f) xs h)
called_keeps n u call m h (generated_equals d x) xs = generated_equal_keeps n (generated u call m) h d x xs
called_keeps n u call m h (generated_to_string d x) xs =
    binds (data_text_keeps n m (generated u call m) h d x) (λ t. gives (v.text t))

calls_keep : (n : ℕ) (u : UnitForm) (m : ℕ) → CallsKeep n m (calls u m)
unfolding calls
calls_keep n u zero c xs = no_turn_keeps _
calls_keep n u (suc m) c xs = charged_keeps (called_keeps n u (calls u m) m (calls_keep n u m) c xs)

launched_keeps : (n : ℕ) (u : UnitForm) (turns : ℕ) (x : Value) → Keeps n turns (launched u turns x)
launched_keeps n u turns (v.closure i taken) = calls_keep n u turns (of_lambda i (listed taken)) []
launched_keeps n u turns _ = unfit_keeps

run_keeps : (n : ℕ) (u : UnitForm) (turns : ℕ) (begin : Start) → Keeps n turns (run_from u turns begin)
run_keeps n u turns start.Main = binds (or_unfit_keeps (main_of u)) (λ i. calls_keep n u turns (of_function i) [])
run_keeps n u turns (start.Launched lump) = binds (imported_keeps u lump) (launched_keeps n u turns)

-- what a whole run gives
run_fine : (u : UnitForm) (turns : ℕ) (begin : Start) (answers : List (Answer Lump))
    → IsFine (length answers) turns (run_from u turns begin (fresh answers turns))
run_fine u turns begin answers =
    (run_keeps (length answers) u turns begin).each turns (reflexive turns) (fresh answers turns)
    (record { count = omega arith; turns = reflexive turns })

none_behind : {A : Type 0} (xs : List A) (n : ℕ) → length xs ≤ n → slice_get xs n ≡ None
none_behind [] n le = refl
none_behind (x ∷ xs) zero le = absurd (omega (arith, le))
none_behind (x ∷ xs) (suc n) le = none_behind xs n (omega (arith, le))

some_last : {A : Type 0} (xs : List A) (x : A) (n : ℕ) → length xs ≡ n → slice_get (xs ++ x ∷ []) n ≡ Some x
some_last [] x zero is = refl
some_last [] x (suc n) is = absurd (omega (arith, is))
some_last (y ∷ xs) x zero is = absurd (omega (arith, is))
some_last (y ∷ xs) x (suc n) is = some_last xs x n (omega (arith, is))

abbrev EndsWhole : ℕ → Course → Type 0
EndsWhole n course = is_some course.end ≡ not (is_some (slice_get course.events n))

no_event : {A : Type 0} (xs : List A) (n : ℕ) → length xs ≤ n → true ≡ not (is_some (slice_get xs n))
no_event xs n le = rw (none_behind xs n le) refl

course_whole : (n k : ℕ) (u : UnitForm) (g : Gives Value) → IsFine n k g → EndsWhole n (course_of u g)
course_whole n k u (gave x s) h = no_event s.world.events n (few n k s.world h)
course_whole n k u (thrown x s) h = no_event s.world.events n (few n k s.world h)
course_whole n k u (returned x s) h = no_event s.world.events n (few n k s.world h)
course_whole n k u (broken s) h = no_event s.world.events n (few n k s.world h)
course_whole n k u (continued s) h = no_event s.world.events n (few n k s.world h)
course_whole n k u (stopped turns_spent w) h = no_event w.events n h
course_whole n k u (stopped numbers_spent w) h = no_event w.events n h
course_whole n k u (stopped (asks event) w) h = rw (some_last w.events event n h) refl
course_whole n k u (stopped unfit w) h = no_event w.events n h
course_whole n k u (stopped bound_met w) h = absurd h

pub courses_are_whole : CoursesAreWhole
courses_are_whole u turns begin answers =
    course_whole (length answers) turns u (run_from u turns begin (fresh answers turns))
    (run_fine u turns begin answers)

pub bound_is_never_met : BoundIsNeverMet
bound_is_never_met u turns begin answers w is =
    subst (IsFine (length answers) turns) is (run_fine u turns begin answers)
