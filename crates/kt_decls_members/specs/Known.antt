-- Names that are taken.
use Rattle.std.specs.Prelude.{Bool, List, ◌≡◌}
use Rattle.kt_decls_rules.specs.Names.{Taken, clash_with_any}

-- what clashes with something taken clashes with one of these
abbrev pub IsTakenBy : (Taken → Bool) → List Taken → Type 0
IsTakenBy taken earlier = (t : Taken) → taken t ≡ clash_with_any earlier t
