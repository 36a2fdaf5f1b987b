-- The objects inside of which an export is.
use Rattle.std.specs.Prelude.{◌≡◌, ℕ, Bool, true, false, ◌==◌, if◌then◌else◌}
use Rattle.std.specs.BTreeSet.{contains}
use Rattle.std.specs.Ordering.{nat_cmp}
use Rattle.mach_value.specs.declared.path.Path.{Path}

abbrev pub is_on : Path → ℕ → Bool
is_on path a = contains nat_cmp path.inside a

-- one more
abbrev pub Enters : Path → Path → ℕ → Type 0
Enters old new a = (b : ℕ) → is_on new b ≡ (if a == b then true else is_on old b)

-- one less
abbrev pub Leaves : Path → Path → ℕ → Type 0
Leaves old new a = (b : ℕ) → is_on new b ≡ (if a == b then false else is_on old b)
