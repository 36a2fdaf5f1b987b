-- The functions that are called without a receiver, by their names.
use Rattle.std.specs.Prelude.{ℕ, List, [], ◌∷◌, Option, find, ◌==◌, codes}
use Rattle.std.specs.Cmp.Lexicographic.{pointwise}
use Rattle.kt_types_builtins.specs.declared.functions.BuiltInFunction.{BuiltInFunction}
use Rattle.kt_types_builtins.specs.declared.functions.BuiltInFunction.TheVariants as function

abbrev pub function_name : BuiltInFunction → List ℕ
function_name function.Println = codes "println"
function_name function.Launch = codes "launch"
function_name function.SuspendCoroutine = codes "suspendCoroutine"
function_name function.IntArray = codes "IntArray"
function_name function.ArrayOfNulls = codes "arrayOfNulls"

unfoldable pub functions : List BuiltInFunction
functions =
    function.Println ∷ function.Launch ∷ function.SuspendCoroutine ∷ function.IntArray ∷ function.ArrayOfNulls ∷ []

-- the function that is written so
unfoldable pub function_of_name : List ℕ → Option BuiltInFunction
function_of_name name = find (λ f. pointwise ◌==◌ (function_name f) name) functions
