-- What is known of names where a type is written.
use Rattle.std.specs.Prelude.{ℕ, List, [], ◌∷◌, ◌+◌, Option, Some, None, ◌==◌, if◌then◌else◌}
use Rattle.std.specs.Cmp.Lexicographic.{pointwise}
use Rattle.std.specs.Ordering.{nat_cmp}
use Rattle.std.specs.Cmp.Lexicographic.{slice_cmp}
use Rattle.std.specs.BTreeMap.{get}
use Rattle.kt_typed.specs.declared.headers.DeclaredTypeParameter.{DeclaredTypeParameter}
use Rattle.kt_decls_types.specs.declared.scopes.ClassNames.{ClassNames}
use Rattle.kt_decls_types.specs.declared.scopes.NamedClass.{NamedClass}
use Rattle.kt_decls_types.specs.declared.scopes.NamedParameter.{NamedParameter}

-- the class of a name
abbrev pub class_named : ClassNames → List ℕ → Option NamedClass
class_named names name = get (slice_cmp nat_cmp) names.by_name name

-- what was found, and else the class of a name, where that is the name
abbrev pub or_named : Option NamedClass → List ℕ → NamedClass → List ℕ → Option NamedClass
or_named (Some found) name class x = Some found
or_named None name class x = if pointwise ◌==◌ name x then Some class else None

-- the first type parameter of a name, with its place
abbrev pub parameter_from : ℕ → List DeclaredTypeParameter → List ℕ → Option NamedParameter
parameter_from place [] name = None
parameter_from place (p ∷ ps) name =
    if pointwise ◌==◌ p.name name then Some (record { row = p.row; place = place })
    else parameter_from (place + 1) ps name

abbrev pub parameter_named : List DeclaredTypeParameter → List ℕ → Option NamedParameter
parameter_named = parameter_from 0
