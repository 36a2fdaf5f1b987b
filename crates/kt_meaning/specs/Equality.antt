-- `==` (Kotlin specification, "Value equality expressions"): a null left side equals only null; else `equals` of the
-- left value decides. A comparison with the literal `null` asks whether the other side is null, and calls nothing.
use Rattle.std.specs.Prelude.{ℕ, ◌+◌, Bool, true, false, ◌&&◌, ◌==◌, cond, List, [], ◌∷◌, Option, Some, None, codes}
use Rattle.std.specs.Bool.{beq}
use Rattle.std.specs.Ordering.{int_eq}
use Rattle.kt_typed.specs.Headers.{PropertyForm}
use Rattle.kt_values.specs.Values as v
use Rattle.kt_values.specs.Values.{Value, instance, as_truth, is_null}
use Rattle.kt_values.specs.Runs.{Run, ◌>>=◌, give, or_unfit}
use Rattle.kt_values.specs.Heap.{read_slot}
use Rattle.kt_meaning.specs.Activations.{Activation, of_member, generated_equals}
use Rattle.kt_meaning.specs.Classes.{same_text, own_body, body_for, is_data, data_properties, first_slot}

-- whether they are equal, where the left one is no object; none where it can't be compared
abbrev pub equal_basic : Value → Value → Option Bool
equal_basic (v.int m) (v.int n) = Some (int_eq m n)
equal_basic (v.int m) y = Some false
equal_basic (v.long m) (v.long n) = Some (int_eq m n)
equal_basic (v.long m) y = Some false
equal_basic (v.truth a) (v.truth b) = Some (beq a b)
equal_basic (v.truth a) y = Some false
equal_basic (v.character c) (v.character d) = Some (c == d)
equal_basic (v.character c) y = Some false
equal_basic (v.text t) (v.text u) = Some (same_text t u)
equal_basic (v.text t) y = Some false
equal_basic v.null y = Some (is_null y)
equal_basic v.unit v.unit = Some true
equal_basic v.unit y = Some false
equal_basic (v.entry c m) (v.entry d n) = Some ((c == d) && (m == n))
equal_basic (v.entry c m) y = Some false
equal_basic _ y = None

-- the `equals` of a class: its own, else the generated one of a data class, else that of a superclass
abbrev pub call_equals : Activation → Bool → Option (ℕ × ℕ) → Option (ℕ × ℕ) → ℕ → Value → Value → Run Value
call_equals here data_class (Some own) above c x y = here.call (of_member own.0 own.1 x) (y ∷ [])
call_equals here true None above c x y = here.call (generated_equals c x) (y ∷ [])
call_equals here false None (Some found) c x y = here.call (of_member found.0 found.1 x) (y ∷ [])
call_equals here false None None c x y = or_unfit None

abbrev pub equals_of : Activation → ℕ → Value → Value → Run Value
equals_of here c =
    call_equals here (is_data here.unit c) (own_body here.unit (codes "equals") 1 c)
    (body_for here.unit (codes "equals") 1 c) c

-- `x == y`
abbrev pub equal : Activation → Value → Value → Run Bool
equal here (v.reference (instance c) place) y =
    equals_of here c (v.reference (instance c) place) y >>= λ b. or_unfit (as_truth b)
equal here x y = or_unfit (equal_basic x y)

-- the same, where the first tells whether one of the operands is the literal `null`
abbrev pub compared : Activation → Bool → Value → Value → Run Bool
compared here true x y = give (is_null x && is_null y)
compared here false x y = equal here x y

-- the generated `equals` of a data class: the same class, and equal properties, compared in order up to the first that
-- differ
abbrev pub properties_equal : Activation → Value → Value → ℕ → List PropertyForm → Run Bool
properties_equal here x y slot [] = give true
properties_equal here x y slot (p ∷ ps) = do
  a ← read_slot x slot
  b ← read_slot y slot
  same ← equal here a b
  cond same (properties_equal here x y (slot + 1) ps) (give false)

abbrev pub data_equal : Activation → ℕ → Value → Value → Run Bool
data_equal here c x (v.reference (instance d) place) =
    cond (c == d)
    (properties_equal here x (v.reference (instance d) place) (first_slot here.unit c) (data_properties here.unit c))
    (give false)
data_equal here c x _ = give false
