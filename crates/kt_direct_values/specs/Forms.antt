-- Values, objects and ends as the meaning has them.
use Rattle.std.specs.Prelude.{ℕ, Option, Some, None, map}
use Rattle.kt_direct_values.specs.declared.values.DirectShape.{DirectShape}
use Rattle.kt_direct_values.specs.declared.values.DirectShape.TheVariants as shape
use Rattle.kt_direct_values.specs.declared.values.DirectValue.{DirectValue}
use Rattle.kt_direct_values.specs.declared.values.DirectValue.TheOpen.{DirectValue-F}
use Rattle.kt_direct_values.specs.declared.values.DirectValue.TheFolds.{fold-DirectValue}
use Rattle.kt_direct_values.specs.declared.values.DirectObject.{DirectObject}
use Rattle.kt_direct_values.specs.declared.store.DirectStore.{DirectStore}
use Rattle.kt_direct_values.specs.declared.ends.Stop.{Stop}
use Rattle.kt_direct_values.specs.declared.ends.Stop.TheVariants as stop
use Rattle.kt_direct_values.specs.declared.ends.Fault.{Fault}
use Rattle.kt_direct_values.specs.declared.ends.Fault.TheVariants as fault
use Rattle.kt_values.specs.Values as v
use Rattle.kt_values.specs.Values.{Value, Object, values_of}
use Rattle.kt_values.specs.Runs as r
use Rattle.kt_values.specs.Throwables as f

abbrev pub shape_form : DirectShape → v.Shape
shape_form (shape.Instance c) = v.instance c
shape_form shape.Numbers = v.numbers
shape_form shape.Elements = v.elements
shape_form shape.Variable = v.variable

-- one value, with those that a lambda captured already seen as such
abbrev pub value_seen : DirectValue-F Value → Value
value_seen (DirectValue-F.Int n) = v.int n
value_seen (DirectValue-F.Long n) = v.long n
value_seen (DirectValue-F.Truth b) = v.truth b
value_seen (DirectValue-F.Character c) = v.character c
value_seen (DirectValue-F.Text t) = v.text t
value_seen DirectValue-F.Null = v.null
value_seen DirectValue-F.Unit = v.unit
value_seen (DirectValue-F.Entry c n) = v.entry c n
value_seen (DirectValue-F.Cell c) = v.cell c
value_seen (DirectValue-F.Closure n captures) = v.closure n (values_of captures)
value_seen (DirectValue-F.Reference s place) = v.reference (shape_form s) place

abbrev pub value_form : DirectValue → Value
value_form = fold-DirectValue Value value_seen

abbrev pub object_form : DirectObject → Object
object_form o = record { shape = shape_form o.shape; slots = map value_form o.slots }

abbrev pub stop_form : Stop → r.Stop
stop_form stop.TurnsSpent = r.turns_spent
stop_form stop.NumbersSpent = r.numbers_spent
stop_form (stop.Asks event) = r.asks event
stop_form stop.Unfit = r.unfit
stop_form stop.BoundMet = r.bound_met

abbrev pub fault_form : Fault → f.Fault
fault_form fault.ZeroDivisor = f.zero_divisor
fault_form (fault.ArrayIndex i) = f.array_index i
fault_form (fault.TextIndex i) = f.text_index i
fault_form (fault.NegativeSize n) = f.negative_size n
fault_form fault.FailedCast = f.failed_cast
fault_form fault.NullAsserted = f.null_asserted
fault_form fault.TextTooLong = f.text_too_long
fault_form fault.AlreadyResumed = f.already_resumed

-- the store
abbrev pub store_form : DirectStore → r.Store
store_form s =
    record {
      variables = map value_form s.variables.items;
      heap = map object_form s.heap.items;
      world = record { answers = s.answers.now; events = s.events.items; turns = s.turns };
    }

-- the place of the object that a reference refers to
abbrev pub place_of : Value → Option ℕ
place_of (v.reference s place) = Some place
place_of _ = None
