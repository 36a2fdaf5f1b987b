-- Which names a scope has taken.
use Rattle.std.specs.Prelude.{ℕ, Bool, List, ◌||◌}
use Rattle.std.specs.declared.cmp.Ordering.{Ordering}
use Rattle.std.specs.Ordering.{nat_cmp, ordering_then}
use Rattle.std.specs.Cmp.Lexicographic.{slice_cmp}
use Rattle.std.specs.BTreeSet.{contains}
use Rattle.kt_decls_names.specs.declared.taken.TakenNames.{TakenNames}
use Rattle.kt_decls_rules.specs.Names.{Taken, a_type, a_function, a_value}

-- the order of names, and of names with a number
abbrev pub name_order : List ℕ → List ℕ → Ordering
name_order = slice_cmp nat_cmp

abbrev pub pair_order : List ℕ × ℕ → List ℕ × ℕ → Ordering
pair_order p q = ordering_then (name_order p.0 q.0) (nat_cmp p.1 q.1)

abbrev pub has_type : TakenNames → List ℕ → Bool
has_type names x = contains name_order names.types x

abbrev pub has_function : TakenNames → List ℕ → ℕ → Bool
has_function names x n = contains pair_order names.functions (x, n)

abbrev pub has_function_name : TakenNames → List ℕ → Bool
has_function_name names x = contains name_order names.function_names x

abbrev pub has_value : TakenNames → List ℕ → Bool
has_value names x = contains name_order names.values x

-- whether something taken clashes with it
abbrev pub is_taken : TakenNames → Taken → Bool
is_taken names (a_type x) = has_type names x
is_taken names (a_function x n) = has_function names x n || has_value names x
is_taken names (a_value x) = has_function_name names x || has_value names x
