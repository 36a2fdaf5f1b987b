-- What each piece of code keeps: events and answers left are together as many as before, the turns left don't rise, and
-- no bound is met that isn't below them.
use Rattle.std.proofs.Common.{◌≡◌, ◌≤◌, ◌+◌, ℕ, zero, suc, List, [], ◌∷◌, Bool, true, false, cond, Option, Some, None, length, arith, length-append}
use Rattle.kt_base.specs.declared.lumps.Lump.{Lump}
use Rattle.kt_base.specs.declared.events.Event.{Event}
use Rattle.kt_base.specs.declared.events.Answer.{Answer}
use Rattle.std.specs.Prelude.{slice_get, option_and_then}
use Rattle.kt_values.specs.Values as v
use Rattle.kt_values.specs.Values.{Value, Shape, Object, instance}
use Rattle.kt_values.specs.Throwables.{Fault, fault_class, fault_message}
use Rattle.kt_values.specs.Runs.{World, Store, Stop, numbers_spent, asks, unfit, bound_met, Gives, gave, thrown, returned, broken, continued, stopped, Run, then_do, ◌>>=◌, ◌>>◌, give, throws, returns, stop, or_unfit, spend, charge, answer_from, ask}
use Rattle.kt_values.specs.Heap.{make, object_of, read_slot, write_at, write_slot, raise, text_or_null}

-- n events and answers left, and at most k turns
pub record Kept (n k : ℕ) (w : World) : Type 0 where
  pub count : length w.events + length w.answers ≡ n
  pub turns : w.turns ≤ k

abbrev pub IsStopFine : ℕ → Stop → World → Type 0
IsStopFine n (asks event) w = length w.events ≡ n
IsStopFine n bound_met w = ⊥
IsStopFine n _ w = length w.events ≤ n

abbrev pub IsFine : {A : Type 0} → ℕ → ℕ → Gives A → Type 0
IsFine n k (gave a s) = Kept n k s.world
IsFine n k (thrown x s) = Kept n k s.world
IsFine n k (returned x s) = Kept n k s.world
IsFine n k (broken s) = Kept n k s.world
IsFine n k (continued s) = Kept n k s.world
IsFine n k (stopped why w) = IsStopFine n why w

-- from each number of turns up to m
pub record Keeps {A : Type 0} (n m : ℕ) (r : Run A) : Type 0 where
  pub each : (k : ℕ) → k ≤ m → (s : Store) → Kept n k s.world → IsFine n k (r s)

kept_more : (n k j : ℕ) (w : World) → k ≤ j → Kept n k w → Kept n j w
kept_more n k j w le h = record { count = h.count; turns = omega (arith, le, h.turns) }

pub fine_more : {A : Type 0} (n k j : ℕ) (g : Gives A) → k ≤ j → IsFine n k g → IsFine n j g
fine_more n k j (gave a s) le h = kept_more n k j s.world le h
fine_more n k j (thrown x s) le h = kept_more n k j s.world le h
fine_more n k j (returned x s) le h = kept_more n k j s.world le h
fine_more n k j (broken s) le h = kept_more n k j s.world le h
fine_more n k j (continued s) le h = kept_more n k j s.world le h
fine_more n k j (stopped why w) le h = h

pub restrict : {A : Type 0} {n m : ℕ} {r : Run A} (j : ℕ) → j ≤ m → Keeps n m r → Keeps n j r
restrict j le h = record { each = λ k less s w. h.each k (omega (arith, le, less)) s w }

pub then_fine : {A B : Type 0} (n k : ℕ) (g : Gives A) (go : A → Run B) → IsFine n k g
    → ((a : A) (s : Store) → Kept n k s.world → IsFine n k (go a s)) → IsFine n k (then_do g go)
then_fine n k (gave a s) go h f = f a s h
then_fine n k (thrown x s) go h f = h
then_fine n k (returned x s) go h f = h
then_fine n k (broken s) go h f = h
then_fine n k (continued s) go h f = h
then_fine n k (stopped why w) go h f = h

-- one after the other
pub binds : {A B : Type 0} {n m : ℕ} {r : Run A} {go : A → Run B}
    → Keeps n m r → ((a : A) → Keeps n m (go a)) → Keeps n m (r >>= go)
binds {n} {r} {go} h f =
    record { each = λ k le s w. then_fine n k (r s) go (h.each k le s w) (λ a s w. (f a).each k le s w) }

pub follows : {A B : Type 0} {n m : ℕ} {r : Run A} {second : Run B}
    → Keeps n m r → Keeps n m second → Keeps n m (r >> second)
follows {n} {r} {second} h f =
    record { each = λ k le s w. then_fine n k (r s) (λ a. second) (h.each k le s w) (λ a s w. f.each k le s w) }

-- The steps.

pub gives : {A : Type 0} {n m : ℕ} (a : A) → Keeps n m (give a)
gives a = record { each = λ k le s w. w }

pub throws_keeps : {A : Type 0} {n m : ℕ} (x : Value) → Keeps {A = A} n m (throws x)
throws_keeps x = record { each = λ k le s w. w }

pub returns_keeps : {A : Type 0} {n m : ℕ} (x : Value) → Keeps {A = A} n m (returns x)
returns_keeps x = record { each = λ k le s w. w }

few : (n k : ℕ) (w : World) → Kept n k w → length w.events ≤ n
few n k w h = omega (arith, h.count)

pub unfit_keeps : {A : Type 0} {n m : ℕ} → Keeps {A = A} n m (stop unfit)
unfit_keeps {n} = record { each = λ k le s w. few n k s.world w }

pub spent_keeps : {A : Type 0} {n m : ℕ} → Keeps {A = A} n m (stop numbers_spent)
spent_keeps {n} = record { each = λ k le s w. few n k s.world w }

pub or_unfit_keeps : {A : Type 0} {n m : ℕ} (o : Option A) → Keeps n m (or_unfit o)
or_unfit_keeps {n} None = record { each = λ k le s w. few n k s.world w }
or_unfit_keeps (Some a) = record { each = λ k le s w. w }

spend_fine : (n k t : ℕ) (s : Store) → Kept n k s.world → t ≤ k → IsFine n k (spend t s)
spend_fine n k zero s w le = few n k s.world w
spend_fine n k (suc t) s w le = record { count = w.count; turns = omega (arith, le) }

pub charge_keeps : {n m : ℕ} → Keeps n m charge
charge_keeps {n} = record { each = λ k le s w. spend_fine n k s.world.turns s w w.turns }

-- what stands behind a charge has a turn less
charge_then : {A : Type 0} (n m k t : ℕ) (s : Store) (r : Run A) → k ≤ suc m → Kept n k s.world → t ≤ k → Keeps n m r
    → IsFine n k (then_do (spend t s) (λ a. r))
charge_then n m k zero s r le w few_turns h = few n k s.world w
charge_then n m k (suc t) s r le w few_turns h =
    let left : Store = record s { world = record s.world { turns = t } } in
    fine_more n t k (r left) (omega (arith, few_turns))
    (h.each t (omega (arith, le, few_turns)) left (record { count = w.count; turns = omega arith }))

pub charged_keeps : {A : Type 0} {n m : ℕ} {r : Run A} → Keeps n m r → Keeps n (suc m) (charge >> r)
charged_keeps {n} {m} {r} h =
    record { each = λ k le s w. charge_then n m k s.world.turns s r le w w.turns h }

no_turn : {A : Type 0} (n k t : ℕ) (s : Store) (r : Run A) → k ≤ 0 → Kept n k s.world → t ≤ k
    → IsFine n k (then_do (spend t s) (λ a. r))
no_turn n k zero s r le w few_turns = few n k s.world w
no_turn n k (suc t) s r le w few_turns = absurd (omega (arith, le, few_turns))

-- nothing stands behind a charge where no turn is left
pub no_turn_keeps : {A : Type 0} {n : ℕ} (r : Run A) → Keeps n 0 (charge >> r)
no_turn_keeps {n} r = record { each = λ k le s w. no_turn n k s.world.turns s r le w w.turns }

ask_fine : (n k : ℕ) (as' : List (Answer Lump)) (event : Event Lump) (s : Store)
    → length s.world.events + length as' ≡ n → s.world.turns ≤ k → IsFine n k (answer_from as' event s)
ask_fine n k [] event s count turns = omega (arith, count)
ask_fine n k (a ∷ left) event s count turns =
    record {
      count = rw (length-append s.world.events (event ∷ [])) (omega (arith, count));
      turns = turns;
    }

pub ask_keeps : {n m : ℕ} (event : Event Lump) → Keeps n m (ask event)
ask_keeps {n} event = record { each = λ k le s w. ask_fine n k s.world.answers event s w.count w.turns }

-- Objects.

pub make_keeps : {n m : ℕ} (shape : Shape) (slots : List Value) → Keeps n m (make shape slots)
make_keeps shape slots = record { each = λ k le s w. w }

-- what is read off the store
pub reads : {A : Type 0} {n m : ℕ} (look : Store → Option A) → Keeps n m (λ s. or_unfit (look s) s)
reads look = record { each = λ k le s w. (or_unfit_keeps (look s)).each k le s w }

pub read_slot_keeps : {n m : ℕ} (x : Value) (slot : ℕ) → Keeps n m (read_slot x slot)
read_slot_keeps x slot = reads (λ s. option_and_then (λ o. slice_get o.slots slot) (object_of s.heap x))

write_at_keeps : {n m : ℕ} (place : ℕ) (o : Object) (slot : ℕ) (new : Value) → Keeps n m (write_at place o slot new)
write_at_keeps place o slot new = record { each = λ k le s w. w }

pub write_slot_keeps : {n m : ℕ} (x : Value) (slot : ℕ) (new : Value) → Keeps n m (write_slot x slot new)
write_slot_keeps (v.reference shape place) slot new =
    binds (reads (λ s. slice_get s.heap place))
    (λ o. follows (or_unfit_keeps (slice_get o.slots slot)) (write_at_keeps place o slot new))
write_slot_keeps _ slot new = unfit_keeps

pub raise_keeps : {A : Type 0} {n m : ℕ} (fault : Fault) → Keeps {A = A} n m (raise fault)
raise_keeps fault =
    binds (make_keeps (instance (fault_class fault)) (text_or_null (fault_message fault) ∷ [])) (λ x. throws_keeps x)

-- one of two
pub cond_keeps : {A : Type 0} {n m : ℕ} (b : Bool) {r t : Run A} → Keeps n m r → Keeps n m t → Keeps n m (cond b r t)
cond_keeps true h f = h
cond_keeps false h f = f
