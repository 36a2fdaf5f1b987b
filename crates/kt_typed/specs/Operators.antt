-- Locals and captures as definitions match on them.
use Rattle.std.specs.Prelude.{ℕ, Bool, List}
use Rattle.kt_types_tree.specs.Types.{TypeForm, type_form}
use Rattle.kt_typed.specs.declared.operators.LocalKind.{LocalKind}
use Rattle.kt_typed.specs.declared.operators.CaptureSource.{CaptureSource}
use Rattle.kt_typed.specs.declared.operators.TypedLocal.{TypedLocal}
use Rattle.kt_typed.specs.declared.operators.Capture.{Capture}

-- a local of a body
pub record LocalForm : Type 0 where
  pub name : List ℕ
  pub kind : LocalKind
  pub declared : TypeForm

abbrev pub local_form : TypedLocal → LocalForm
local_form l = record { name = l.name; kind = l.kind; declared = type_form l.declared }

-- what a lambda captures
pub record CaptureForm : Type 0 where
  pub source : CaptureSource
  pub is_variable : Bool
  pub declared : TypeForm

abbrev pub capture_form : Capture → CaptureForm
capture_form c = record { source = c.source; is_variable = c.is_variable; declared = type_form c.declared }
