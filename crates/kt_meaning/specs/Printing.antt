-- Values as texts (Kotlin specification, "String interpolation expressions"): what `println`, a template, `+` on a
-- string and `toString` make of a value.
use Rattle.std.specs.Prelude.{ℕ, ◌+◌, Bool, true, false, cond, List, [], ◌∷◌, ◌++◌, Option, Some, None, codes}
use Rattle.kt_tree.specs.declared.bodies.TextPart.{TextPart}
use Rattle.kt_tree.specs.declared.bodies.TextPart.TheVariants as part
use Rattle.kt_typed.specs.Headers.{PropertyForm}
use Rattle.kt_values.specs.Values as v
use Rattle.kt_values.specs.Values.{Value, instance, as_text}
use Rattle.kt_values.specs.Texts.{text_of_basic, is_too_long}
use Rattle.kt_values.specs.Throwables.{text_too_long}
use Rattle.kt_values.specs.Runs.{Run, ◌>>=◌, give, or_unfit}
use Rattle.kt_values.specs.Heap.{raise, read_slot}
use Rattle.kt_meaning.specs.Activations.{Activation, of_member, generated_to_string}
use Rattle.kt_meaning.specs.Classes.{own_body, body_for, is_data, data_properties, first_slot, entry_name, class_name}

-- the `toString` of a class: its own, else the generated one of a data class, else that of a superclass
abbrev pub call_to_string : Activation → Bool → Option (ℕ × ℕ) → Option (ℕ × ℕ) → ℕ → Value → Run Value
call_to_string here data_class (Some own) above c x = here.call (of_member own.0 own.1 x) []
call_to_string here true None above c x = here.call (generated_to_string c x) []
call_to_string here false None (Some found) c x = here.call (of_member found.0 found.1 x) []
call_to_string here false None None c x = or_unfit None

abbrev pub to_string_of : Activation → ℕ → Value → Run Value
to_string_of here c =
    call_to_string here (is_data here.unit c) (own_body here.unit (codes "toString") 0 c)
    (body_for here.unit (codes "toString") 0 c) c

-- the text of a value; an entry of an enum prints its name
abbrev pub text_of : Activation → Value → Run (List ℕ)
text_of here (v.reference (instance c) place) =
    to_string_of here c (v.reference (instance c) place) >>= λ t. or_unfit (as_text t)
text_of here (v.entry c ordinal) = or_unfit (entry_name here.unit c ordinal)
text_of here x = or_unfit (text_of_basic x)

-- one text behind another
abbrev pub joined : List ℕ → List ℕ → Run (List ℕ)
joined t u = cond (is_too_long (t ++ u)) (raise text_too_long) (give (t ++ u))

-- `+` on a string
abbrev pub concatenated : Activation → Value → Value → Run Value
concatenated here x y = do
  t ← text_of here x
  u ← text_of here y
  whole ← joined t u
  give (v.text whole)

-- the units of a token of text
abbrev pub units_of : TextPart → List ℕ
units_of (part.Run units) = units
units_of (part.Escape unit) = unit ∷ []
units_of part.Dollar = codes "$"

-- `name=value` of each property, from the given slot on, behind what is done
abbrev pub put_properties : Activation → Value → List ℕ → List ℕ → ℕ → List PropertyForm → Run (List ℕ)
put_properties here x done before slot [] = joined done (codes ")")
put_properties here x done before slot (p ∷ ps) = do
  named ← joined done (before ++ p.name ++ codes "=")
  content ← read_slot x slot
  t ← text_of here content
  more ← joined named t
  put_properties here x more (codes ", ") (slot + 1) ps

-- the generated `toString` of a data class: `P(x=1, y=2)`
abbrev pub data_text : Activation → ℕ → Value → Run (List ℕ)
data_text here c x =
    put_properties here x (class_name here.unit c) (codes "(") (first_slot here.unit c) (data_properties here.unit c)
