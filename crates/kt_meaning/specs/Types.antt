-- Which values are of a type (Kotlin specification, "Type-checking expressions").
use Rattle.std.specs.Prelude.{Bool, true, false}
use Rattle.kt_types_tree.specs.declared.types.TypeConstructor.{TypeConstructor}
use Rattle.kt_types_tree.specs.declared.types.TypeConstructor.TheVariants as constructor
use Rattle.kt_types_tree.specs.Types.{TypeForm, ShapeForm, typed, nothing, any, parameter, of}
use Rattle.kt_typed.specs.Units.{UnitForm}
use Rattle.kt_values.specs.Values as v
use Rattle.kt_values.specs.Values.{Value, instance, numbers, elements}
use Rattle.kt_values.specs.Runs.{Run, give}
use Rattle.kt_values.specs.Throwables.{failed_cast, null_asserted}
use Rattle.kt_values.specs.Heap.{raise}
use Rattle.kt_meaning.specs.Classes.{is_below}

-- the value, which isn't null, is of what the constructor makes
abbrev pub is_made_by : UnitForm → TypeConstructor → Value → Bool
is_made_by u constructor.Int (v.int n) = true
is_made_by u constructor.Long (v.long n) = true
is_made_by u constructor.Boolean (v.truth b) = true
is_made_by u constructor.Char (v.character c) = true
is_made_by u constructor.String (v.text t) = true
is_made_by u constructor.Unit v.unit = true
is_made_by u constructor.IntArray (v.reference numbers place) = true
is_made_by u constructor.Array (v.reference elements place) = true
is_made_by u constructor.Continuation (v.cell c) = true
is_made_by u (constructor.Class c) (v.entry d ordinal) = is_below u d c
is_made_by u (constructor.Class c) (v.reference (instance d) place) = is_below u d c
is_made_by u (constructor.Function suspends) (v.closure lambda captures) = true
is_made_by u _ _ = false

abbrev pub is_of_shape : UnitForm → ShapeForm → Value → Bool
is_of_shape u nothing x = false
is_of_shape u any x = true
is_of_shape u (parameter row place) x = false
is_of_shape u (of c ts) x = is_made_by u c x

abbrev pub is_of : UnitForm → TypeForm → Value → Bool
is_of u (typed nullable shape) v.null = nullable
is_of u (typed nullable shape) x = is_of_shape u shape x

abbrev pub cast_result : Bool → Bool → Value → Run Value
cast_result true or_null x = give x
cast_result false true x = give v.null
cast_result false false x = raise failed_cast

-- `x as T`, and `x as? T` where the first is true
abbrev pub cast_to : UnitForm → Bool → TypeForm → Value → Run Value
cast_to u or_null t x = cast_result (is_of u t x) or_null x

-- `x!!`
abbrev pub asserted : Value → Run Value
asserted v.null = raise null_asserted
asserted x = give x
