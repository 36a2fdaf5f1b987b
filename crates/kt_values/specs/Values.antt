-- What an expression of the language has as a value, and the objects of a heap.
use Rattle.std.specs.Prelude.{ℕ, ℤ, Bool, true, false, List, [], ◌∷◌, Option, Some, None}

-- what an object of the heap is
pub data Shape : Type 0 where
  -- an object of a class of the file or a throwable, by its row; its slots are its properties, those of the
  -- superclass first
  instance : ℕ → Shape
  -- an `IntArray`
  numbers : Shape
  -- an `Array`
  elements : Shape
  -- a `var` that a lambda captures; it has one slot
  variable : Shape

mutual
  pub data Value : Type 0 where
    int : ℤ → Value
    long : ℤ → Value
    truth : Bool → Value
    -- one UTF-16 unit
    character : ℕ → Value
    -- a string, by its UTF-16 units
    text : List ℕ → Value
    null : Value
    -- the one value of `Unit`
    unit : Value
    -- an entry of an enum: the row of the enum, and the ordinal
    entry : ℕ → ℕ → Value
    -- a continuation, by the number of its cell
    cell : ℕ → Value
    -- a lambda, by its number, with what it captured
    closure : ℕ → Values → Value
    -- an object of the heap, by its place there. An object never changes what it is, so a reference tells it
    reference : Shape → ℕ → Value

  pub data Values : Type 0 where
    values_end : Values
    value_then : Value → Values → Values

abbrev pub values_of : List Value → Values
values_of [] = values_end
values_of (v ∷ vs) = value_then v (values_of vs)

abbrev pub listed : Values → List Value
listed values_end = []
listed (value_then v vs) = v ∷ listed vs

-- an object: what it is, and what stands in its slots
pub record Object : Type 0 where
  pub shape : Shape
  pub slots : List Value

-- the value as what an operation takes; none where it is of another kind

abbrev pub as_int : Value → Option ℤ
as_int (int n) = Some n
as_int _ = None

-- an `Int` counts as the `Long` of its size
abbrev pub as_number : Value → Option ℤ
as_number (int n) = Some n
as_number (long n) = Some n
as_number _ = None

abbrev pub as_truth : Value → Option Bool
as_truth (truth b) = Some b
as_truth _ = None

abbrev pub as_character : Value → Option ℕ
as_character (character c) = Some c
as_character _ = None

abbrev pub as_text : Value → Option (List ℕ)
as_text (text t) = Some t
as_text _ = None

abbrev pub as_cell : Value → Option ℕ
as_cell (cell c) = Some c
as_cell _ = None

abbrev pub is_null : Value → Bool
is_null null = true
is_null _ = false
