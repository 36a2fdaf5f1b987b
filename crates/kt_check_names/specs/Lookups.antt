-- Looking for a name in a scope from its beginning.
use Rattle.std.specs.Prelude.{ℕ, Bool, true, false, ◌||◌, List, [], ◌∷◌, Option, Some, None, if◌then◌else◌}
use Rattle.kt_check_rules.specs.States.{is_name}
use Rattle.kt_check_names.specs.declared.scopes.NamedLocal.{NamedLocal}

-- the last local of the name, else what was found before
abbrev pub last_named : List NamedLocal → List ℕ → Option ℕ → Option ℕ
last_named [] x before = before
last_named (l ∷ ls) x before = last_named ls x (if is_name l.name x then Some l.number else before)

abbrev pub is_among : List NamedLocal → List ℕ → Bool → Bool
is_among [] x before = before
is_among (l ∷ ls) x before = is_among ls x (is_name x l.name || before)
