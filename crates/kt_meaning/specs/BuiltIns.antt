-- The functions that every file has, and coroutines (KEEP coroutines, "Suspending functions"). Each event is asked
-- of the world round the coroutine.
use Rattle.std.specs.Prelude.{ℕ, ◌-◌, ℤ, pos, negsuc, Bool, true, cond, List, [], ◌∷◌, length, take, drop, replicate, Option, Some, None, nat_lt, int_lt}
use Rattle.std.specs.Int.{w32, w64, int_bit_not}
use Rattle.kt_base.specs.declared.lumps.Lump.{Lump}
use Rattle.kt_base.specs.declared.events.Fate.{Fate}
use Rattle.kt_base.specs.declared.events.Fate.TheVariants as fate
use Rattle.kt_base.specs.declared.events.Event.TheVariants as event
use Rattle.kt_base.specs.declared.events.Answer.{Answer}
use Rattle.kt_base.specs.declared.events.Answer.TheVariants as answer
use Rattle.kt_typed.specs.declared.operators.BuiltIn.{BuiltIn}
use Rattle.kt_typed.specs.declared.operators.BuiltIn.TheVariants as built_in
use Rattle.kt_typed.specs.declared.operators.BuiltInMethod.{BuiltInMethod}
use Rattle.kt_typed.specs.declared.operators.BuiltInMethod.TheVariants as method
use Rattle.kt_values.specs.Values as v
use Rattle.kt_values.specs.Values.{Value, numbers, elements, as_int, as_text, as_cell}
use Rattle.kt_values.specs.Numbers.{to_int, to_character}
use Rattle.kt_values.specs.Throwables.{text_index, negative_size, already_resumed}
use Rattle.kt_values.specs.Runs.{Run, ◌>>=◌, ◌>>◌, give, or_unfit, stop, unfit, numbers_spent, charge, ask}
use Rattle.kt_values.specs.Heap.{make, raise}
use Rattle.kt_meaning.specs.Activations.{Activation}
use Rattle.kt_meaning.specs.Lumps.{lump_of, outcome}
use Rattle.kt_meaning.specs.Printing.{text_of}
use Rattle.kt_meaning.specs.Calls.{called_value, built_throwable}

-- Printing: a turn is charged behind the argument.

abbrev pub done : Answer Lump → Run Value
done answer.Done = give v.unit
done _ = stop unfit

abbrev pub printed : List ℕ → Run Value
printed t = charge >> ask (event.Print t) >>= done

abbrev pub print : Activation → List Value → Run Value
print here [] = printed []
print here (x ∷ []) = text_of here x >>= printed
print here _ = stop unfit

-- Coroutines: a turn is charged behind the arguments, before the event.

-- the number that was drawn
abbrev pub drawn : Answer Lump → Run ℕ
drawn (answer.Number n) = give n
drawn answer.Full = stop numbers_spent
drawn _ = stop unfit

abbrev pub launch : Activation → List Value → Run Value
launch here (body ∷ []) = do
  charge
  lump ← lump_of here.unit body
  a ← ask (event.Launch lump)
  n ← drawn a
  give v.unit
launch here _ = stop unfit

abbrev pub awaited : Activation → Answer Lump → Run Value
awaited here (answer.Outcome given) = outcome here.unit given
awaited here _ = stop unfit

-- a cell is drawn, the block is called with it, and then its outcome is awaited
abbrev pub suspend : Activation → List Value → Run Value
suspend here (block ∷ []) = do
  charge
  a ← ask event.Draw
  n ← drawn a
  called_value here block (v.cell n ∷ [])
  b ← ask (event.Await n)
  awaited here b
suspend here _ = stop unfit

abbrev pub won : Answer Lump → Run Value
won answer.Won = give v.unit
won answer.Lost = raise already_resumed
won _ = stop unfit

-- the cell of a continuation gets an outcome; the first one wins
abbrev pub resumed : Activation → (Lump → Fate Lump) → Value → List Value → Run Value
resumed here fate_of x (given ∷ []) = do
  n ← or_unfit (as_cell x)
  lump ← lump_of here.unit given
  a ← ask (event.Resume n (fate_of lump))
  won a
resumed here fate_of x _ = stop unfit

-- Arrays.

-- so many of one value
abbrev pub filled : v.Shape → Value → ℤ → Run Value
filled shape first (pos n) = make shape (replicate n first)
filled shape first (negsuc n) = raise (negative_size (negsuc n))

abbrev pub new_array : v.Shape → Value → List Value → Run Value
new_array shape first (size ∷ []) = or_unfit (as_int size) >>= filled shape first
new_array shape first _ = stop unfit

abbrev pub call_built_in : Activation → BuiltIn → List Value → Run Value
call_built_in here built_in.Println arguments = print here arguments
call_built_in here built_in.Launch arguments = launch here arguments
call_built_in here built_in.SuspendCoroutine arguments = suspend here arguments
call_built_in here built_in.IntArray arguments = new_array numbers (v.int (pos 0)) arguments
call_built_in here built_in.ArrayOfNulls arguments = new_array elements v.null arguments
call_built_in here (built_in.Throwable c) arguments = built_throwable c arguments

-- Strings and numbers.

-- a bound of `substring` that isn't in a text of so many units
abbrev pub is_outside : ℕ → ℤ → Bool
is_outside count (pos n) = nat_lt count n
is_outside count (negsuc n) = true

abbrev pub units_between : ℕ → ℤ → ℤ → List ℕ → List ℕ
units_between count (pos start) (pos end) t = take (end - start) (drop start t)
units_between count _ _ t = []

-- the first bound that is outside is blamed, else the start
abbrev pub cut_out : List ℕ → ℤ → ℤ → Run Value
cut_out t start end =
    cond (is_outside (length t) start) (raise (text_index start))
    (cond (is_outside (length t) end) (raise (text_index end))
    (cond (int_lt end start) (raise (text_index start)) (give (v.text (units_between (length t) start end t)))))

abbrev pub substring : Value → List Value → Run Value
substring x (start ∷ end ∷ []) =
    or_unfit (as_text x) >>= λ t. or_unfit (as_int start) >>= λ m. or_unfit (as_int end) >>= λ n. cut_out t m n
substring x _ = stop unfit

abbrev pub converted : BuiltInMethod → Value → Option Value
converted method.ToLong (v.int n) = Some (v.long n)
converted method.ToChar (v.int n) = Some (v.character (to_character n))
converted method.ToInt (v.long n) = Some (v.int (to_int n))
converted method.Inv (v.int n) = Some (v.int (int_bit_not w32 n))
converted method.Inv (v.long n) = Some (v.long (int_bit_not w64 n))
converted _ _ = None

abbrev pub call_built_in_on : Activation → BuiltInMethod → Value → List Value → Run Value
call_built_in_on here method.Resume x arguments = resumed here fate.Value x arguments
call_built_in_on here method.ResumeWithException x arguments = resumed here fate.Thrown x arguments
call_built_in_on here method.Substring x arguments = substring x arguments
call_built_in_on here method.ToString x arguments = text_of here x >>= λ t. give (v.text t)
call_built_in_on here method.Join x arguments = stop unfit
call_built_in_on here m x arguments = or_unfit (converted m x)
