-- What is kept of what limits speak of in a body: how many locals, as far as 64 bits go, and whether texts and lambdas
-- are within limits. No public clause names this.
use Rattle.std.specs.Prelude.{ℕ, ◌+◌, ◌≡◌, Bool, true, ◌&&◌, List, [], ◌∷◌, ◌++◌, length, nat_le}
use Rattle.std.specs.List.{list_all}
use Rattle.jvm_pool.specs.Modified.{modified}
use Rattle.kt_sizes.specs.Capped.{cap}
use Rattle.kt_sizes.specs.Weight.{weight}
use Rattle.kt_typed.specs.Bodies.{FunForm}
use Rattle.kt_limits.specs.declared.notes.Notes.{Notes}
use Rattle.kt_limits.specs.Limits.{most_weight, most_parameters, most_captures, most_characters, most_bytes, parameters_of, captures_of, locals_of, local_names}
use Rattle.kt_limits.specs.Noted.{Noted, a_local, a_text, a_lambda, locals_among}

abbrev pub is_short : List ℕ → Bool
is_short name = nat_le (length name) most_characters

abbrev pub fits_constant : List ℕ → Bool
fits_constant units = nat_le (length (modified units)) most_bytes

abbrev pub is_fine_lambda : FunForm → Bool
is_fine_lambda f =
    nat_le (weight f) most_weight
    && (nat_le (parameters_of f) most_parameters
    && (nat_le (captures_of f) most_captures && list_all is_short (local_names (locals_of f))))

abbrev pub is_fine_note : Noted → Bool
is_fine_note a_local = true
is_fine_note (a_text units) = fits_constant units
is_fine_note (a_lambda f) = is_fine_lambda f

unfoldable pub seen : List Noted → Notes
seen all = record { locals = cap (locals_among all); are_fine = list_all is_fine_note all }

-- what is noted so far, before a rest, makes up the whole
pub record Partly (done : Notes) (rest whole : List Noted) : Type 0 where
  pub so_far : List Noted
  pub is : done ≡ seen so_far
  pub makes : so_far ++ rest ≡ whole
