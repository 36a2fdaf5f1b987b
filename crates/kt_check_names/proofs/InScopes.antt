-- Names in scopes.
use Rattle.std.proofs.Common.{ℕ, List, [], ◌∷◌, ◌++◌, Option, Some, None, ◌≡◌, refl, Bool, true, false, if◌then◌else◌}
use Rattle.std.specs.Prelude.{◌||◌}
use Rattle.std.specs.List.{list_any}
use Rattle.kt_check_rules.specs.States.{Named, is_name, local_named}
use Rattle.kt_check_names.specs.declared.scopes.NamedLocal.{NamedLocal}
use Rattle.kt_check_names.specs.Lookups.{last_named, is_among}
use Rattle.kt_check_names.specs.Views.{named_form, scope_in, declared_in}

pub one_more : (ls : List NamedLocal) (l : NamedLocal) (outer : List Named) →
    scope_in (ls ++ l ∷ []) outer ≡ named_form l ∷ scope_in ls outer
one_more [] l outer = refl
one_more (k ∷ ls) l outer = one_more ls l (named_form k ∷ outer)

pub one_declared : (ls : List NamedLocal) (l : NamedLocal) (outer : List (List ℕ)) →
    declared_in (ls ++ l ∷ []) outer ≡ l.name ∷ declared_in ls outer
one_declared [] l outer = refl
one_declared (k ∷ ls) l outer = one_declared ls l (k.name ∷ outer)

pub last_is : (ls : List NamedLocal) (outer : List Named) (x : List ℕ) →
    local_named (scope_in ls outer) x ≡ last_named ls x (local_named outer x)
last_is [] outer x = refl
last_is (l ∷ ls) outer x = last_is ls (named_form l ∷ outer) x

among_is_behind : (ls : List NamedLocal) (outer : List (List ℕ)) (x : List ℕ) →
    list_any (is_name x) (declared_in ls outer) ≡ is_among ls x (list_any (is_name x) outer)
among_is_behind [] outer x = refl
among_is_behind (l ∷ ls) outer x = among_is_behind ls (l.name ∷ outer) x

pub among_is : (ls : List NamedLocal) (x : List ℕ) →
    list_any (is_name x) (declared_in ls []) ≡ is_among ls x false
among_is ls x = among_is_behind ls [] x
