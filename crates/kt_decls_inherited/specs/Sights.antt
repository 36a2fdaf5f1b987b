-- The functions that a class has from above, without their descriptors: so a class that declares one is the end of the way.
use Rattle.std.specs.Prelude.{ℕ, zero, suc, Bool, List, [], ◌∷◌, ◌++◌, ◌+◌, Option, Some, None, option_map, length, map, find, slice_get, if◌then◌else◌}
use Rattle.std.specs.List.{flat_map}
use Rattle.kt_tree.specs.Declarations.{DeclarationTree, FunctionTree}
use Rattle.kt_types_tree.specs.Types.{TypeForm, TypeForms, substituted, type_form}
use Rattle.kt_types_tree.specs.Hierarchy.{SuperForm}
use Rattle.kt_types_builtins.specs.declared.throwables.BuiltInThrowable.{BuiltInThrowable}
use Rattle.kt_types_builtins.specs.Throwables.{throwables}
use Rattle.kt_decls_rules.specs.Tables.{Placed, Row, rows, supers_at, scope_of, has_row, is_function}
use Rattle.kt_decls_rules.specs.Members.{Signature, Member, signature_of, functions_of, is_open_function, is_interface, is_some_body, inherited, members_of_any}
use Rattle.kt_decls_inherited.specs.declared.sights.Sight.{Sight}
use Rattle.kt_decls_inherited.specs.declared.sights.FunctionTypes.{FunctionTypes}

-- What is seen of a function of a class.
pub record SightForm : Type 0 where
  pub is_open : Bool
  pub has_body : Bool
  pub is_suspend : Bool
  pub signature : Option Signature

abbrev pub types_form : FunctionTypes → Signature
types_form t = record { parameters = map type_form t.parameters; result = type_form t.result }

abbrev pub sight_form : Sight → SightForm
sight_form s =
    record {
      is_open = s.is_open;
      has_body = s.has_body;
      is_suspend = s.is_suspend;
      signature = option_map types_form s.types;
    }

-- a member without its descriptor
abbrev pub sight_of : Member → SightForm
sight_of m =
    record { is_open = m.is_open; has_body = m.has_body; is_suspend = m.is_suspend; signature = m.signature }

-- with arguments in place of the type parameters
abbrev pub signature_with : TypeForms → Signature → Signature
signature_with w g = record { parameters = map (substituted w) g.parameters; result = substituted w g.result }

abbrev pub seen_with : TypeForms → SightForm → SightForm
seen_with w m = record m { signature = option_map (signature_with w) m.signature }

abbrev pub seen : SuperForm → SightForm → SightForm
seen s = seen_with s.arguments

-- what a class declares, as seen from there
abbrev pub own_sight : List DeclarationTree → Placed → FunctionTree → SightForm
own_sight ds p f =
    record {
      is_open = is_open_function (is_interface p.declaration) f;
      has_body = is_some_body f.body;
      is_suspend = f.modifiers.is_suspend;
      signature = signature_of ds (scope_of p.before p.declaration) f;
    }

abbrev pub own_or : List DeclarationTree → Placed → List SightForm → Option FunctionTree → List SightForm
own_or ds p above None = above
own_or ds p above (Some f) = own_sight ds p f ∷ []

abbrev pub sights_of_placed : List DeclarationTree → List ℕ → ℕ → List SightForm → Option Placed → List SightForm
sights_of_placed ds x n above None = above
sights_of_placed ds x n above (Some p) = own_or ds p above (find (is_function x n) (functions_of p.declaration))

abbrev pub sights_at : List DeclarationTree → List ℕ → ℕ → List SightForm → Option Row → List SightForm
sights_at ds x n above None = []
sights_at ds x n above (Some r) = sights_of_placed ds x n above r.declaration

-- within so many steps
unfoldable pub sights_within : List DeclarationTree → List Row → List ℕ → ℕ → ℕ → ℕ → List SightForm
sights_within ds all x n zero row = []
sights_within ds all x n (suc steps) row =
    flat_map
    (λ s. map (seen s) (sights_at ds x n (sights_within ds all x n steps s.class) (slice_get all s.class)))
    (supers_at all row)

abbrev pub sights : List DeclarationTree → List ℕ → ℕ → ℕ → List SightForm
sights ds x n row = sights_within ds (rows ds) x n (length (rows ds)) row

-- `toString` and `equals` of every class among them
abbrev pub all_sights : List DeclarationTree → List ℕ → ℕ → ℕ → List SightForm
all_sights ds x n row = map sight_of (inherited ds x n row ++ members_of_any x n)

-- Where the declaration of a row stands: for a throwable, behind all.
abbrev pub places_if : Bool → ℕ → List ℕ → List ℕ
places_if b place rest = if b then place ∷ rest else rest

abbrev pub places_from : ℕ → List DeclarationTree → List ℕ
places_from place [] = []
places_from place (d ∷ ds) = places_if (has_row d) place (places_from (place + 1) ds)

unfoldable pub behind_all : ℕ → BuiltInThrowable → ℕ
behind_all count t = count

abbrev pub places : List DeclarationTree → List ℕ
places ds = map (behind_all (length ds)) throwables ++ places_from 0 ds
