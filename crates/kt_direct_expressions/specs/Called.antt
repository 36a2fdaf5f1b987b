-- What steps cite beside the lines of frames.
use Rattle.std.specs.Prelude.{◌≡◌, ℕ, List, Option, Some, None, codes}
use Rattle.kt_typed.specs.Headers.{PropertyForm}
use Rattle.kt_values.specs.Values as v
use Rattle.kt_values.specs.Values.{Value}
use Rattle.kt_values.specs.Runs.{Run, Store, ◌>>=◌, or_unfit}
use Rattle.kt_values.specs.Texts.{text_of_basic}
use Rattle.kt_meaning.specs.Access.{entry_name_of}
use Rattle.kt_meaning.specs.Activations.{Activation}
use Rattle.kt_meaning.specs.Equality as equality
use Rattle.kt_meaning.specs.Printing.{joined, put_properties, text_of}
use Rattle.kt_direct_frames.specs.declared.calls.DirectCalled.{DirectCalled}
use Rattle.kt_direct_frames.specs.Calls.{called_form}
use Rattle.kt_direct_frames.specs.Results.{as_text_value}
use Rattle.kt_direct_expressions.specs.declared.kinds.Decider.{Decider}
use Rattle.kt_direct_expressions.specs.declared.kinds.Decider.TheVariants as by

-- a body that a class has, or has none of
abbrev pub called_or_unfit : Activation → Option DirectCalled → List Value → Run Value
called_or_unfit here None arguments = or_unfit None
called_or_unfit here (Some c) arguments = here.call (called_form c) arguments

-- the text of a property behind those before, and then the properties behind it
abbrev pub content_then : Activation → Value → List ℕ → ℕ → List PropertyForm → Value → Run Value
content_then here object named slot ps content =
    text_of here content >>= λ t. joined named t >>= λ more.
    as_text_value (put_properties here object more (codes ", ") slot ps)

-- what decides the text of a value, and what it equals
abbrev pub IsDecided : Decider → Value → Type 0
IsDecided (by.Object c place) x = x ≡ v.reference (v.instance c) place
IsDecided by.Entry x =
    ((h : Activation) (s : Store) → as_text_value (text_of h x) s ≡ or_unfit (entry_name_of h.unit x) s)
    × ((h : Activation) (y : Value) → equality.equal h x y ≡ or_unfit (equality.equal_basic x y))
IsDecided by.Basic x =
    ((h : Activation) → text_of h x ≡ or_unfit (text_of_basic x))
    × ((h : Activation) (y : Value) → equality.equal h x y ≡ or_unfit (equality.equal_basic x y))
