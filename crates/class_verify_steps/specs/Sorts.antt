-- The sorts of values, as the code names them, and the sizes of operands.
use Rattle.std.specs.Prelude.{Bool, true, false, ℕ, List, Option, Some, None, ◌≡◌}
use Rattle.class_verify_rules.specs.Acts.{Sort, Ints, Longs, References}
use Rattle.class_verify_rules.specs.Moves.{Size, One, Two, Neither}
use Rattle.class_verify_steps.specs.declared.sorts.LocalSort.{LocalSort}
use Rattle.class_verify_steps.specs.declared.sorts.LocalSort.TheVariants as local
use Rattle.class_verify_steps.specs.declared.moves.Units.{Units}
use Rattle.class_verify_steps.specs.declared.moves.Units.TheVariants as units

abbrev pub sort_of : LocalSort → Sort
sort_of local.Int = Ints
sort_of local.Long = Longs
sort_of local.Reference = References

abbrev pub size : Units → Size
size units.One = One
size units.Two = Two
size units.Neither = Neither

-- what was moved, where it could be
abbrev pub Moved : {A : Type 0} → Option (List A) → Bool → List A → Type 0
Moved o true new = o ≡ Some new
Moved o false new = o ≡ None
