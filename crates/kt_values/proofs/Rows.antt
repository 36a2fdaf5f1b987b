-- An object that is made is found, and the worked rows.
use Rattle.std.proofs.Common.{◌≡◌, List, [], ◌∷◌, ◌++◌, Some, refl, ap}
use Rattle.std.specs.Prelude.{length, slice_get, slice_set}
use Rattle.kt_values.specs.Laws.{MadeIsFound, WrittenIsRead, DivisionRows, ShiftRows, object}

-- the last element of a list
last_found : {A : Type 0} (xs : List A) (x : A) → slice_get (xs ++ x ∷ []) (length xs) ≡ Some x
last_found [] x = refl
last_found (y ∷ xs) x = last_found xs x

last_set : {A : Type 0} (xs : List A) (x y : A) → slice_set (xs ++ x ∷ []) (length xs) y ≡ xs ++ y ∷ []
last_set [] x y = refl
last_set (z ∷ xs) x y = ap (λ t. z ∷ t) (last_set xs x y)

pub made_is_found : MadeIsFound
made_is_found heap shape slots = last_found heap (object shape slots)

pub written_is_read : WrittenIsRead
written_is_read shape first new s =
    rw (
      last_found s.heap (object shape (first ∷ [])),
      last_set s.heap (object shape (first ∷ []))
          (object shape (new ∷ [])),
      last_found s.heap (object shape (new ∷ [])),
    ) refl

pub division_rows : DivisionRows
division_rows = (refl, refl, refl, refl, refl, refl)

pub shift_rows : ShiftRows
shift_rows = (refl, refl, refl, refl, refl, refl, refl, refl, refl)
