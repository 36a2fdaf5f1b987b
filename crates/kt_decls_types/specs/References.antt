-- What a type that is written means, under the classes that have a name and the type parameters in scope. None: it
-- breaks a rule.
use Rattle.std.specs.Prelude.{ℕ, Bool, true, false, List, [], ◌∷◌, ◌++◌, ◌==◌, nat_le, length, Option, Some, None, if◌then◌else◌}
use Rattle.kt_types_tree.specs.declared.types.TypeConstructor.{TypeConstructor}
use Rattle.kt_types_tree.specs.declared.types.TypeConstructor.TheVariants as constructor
use Rattle.kt_types_tree.specs.Types.{TypeForm, ShapeForm, typed, nothing, any, parameter, of, forms_of, or_null}
use Rattle.kt_typed.specs.declared.headers.DeclaredTypeParameter.{DeclaredTypeParameter}
use Rattle.kt_decls_types.specs.declared.scopes.NamedClass.{NamedClass}
use Rattle.kt_decls_types.specs.declared.scopes.NamedParameter.{NamedParameter}
use Rattle.kt_types_builtins.specs.declared.types.BuiltInType.{BuiltInType}
use Rattle.kt_types_builtins.specs.Types.{type_of_name}
use Rattle.kt_types_builtins.specs.declared.throwables.BuiltInThrowable.{BuiltInThrowable}
use Rattle.kt_types_builtins.specs.Throwables.{throwable_of_name, throwable_row}
use Rattle.kt_decls_types.specs.declared.names.Meaning.{Meaning}
use Rattle.kt_decls_types.specs.declared.names.Meaning.TheVariants as means
use Rattle.kt_decls_types.specs.Names.{meaning}
use Rattle.kt_decls_types.specs.Scopes.{parameter_named}
use Rattle.kt_tree.specs.Types.{TypeTree, TypeTrees, named, function, nullable, parenthesized, types_end, type_then}

abbrev pub then_on : {A B : Type 0} → Option A → (A → Option B) → Option B
then_on None go = None
then_on (Some a) go = go a

abbrev pub class_meaning : NamedClass → Meaning
class_meaning c = means.Taking (constructor.Class c.row) c.parameters

abbrev pub parameter_meaning : NamedParameter → Meaning
parameter_meaning p = means.Parameter p.row p.place

abbrev pub throwable_meaning : BuiltInThrowable → Meaning
throwable_meaning t = means.Taking (constructor.Class (throwable_row t)) 0

-- a type parameter hides every other name; no class has the name of a built-in type or of a throwable
abbrev pub meaning_of_class : Option BuiltInThrowable → Option NamedClass → Option Meaning
meaning_of_class (Some t) c = Some (throwable_meaning t)
meaning_of_class None (Some c) = Some (class_meaning c)
meaning_of_class None None = None

abbrev pub meaning_of_others : Option BuiltInType → Option Meaning → Option Meaning
meaning_of_others (Some t) m = Some (meaning t)
meaning_of_others None m = m

abbrev pub meaning_among : Option NamedParameter → Option Meaning → Option Meaning
meaning_among (Some p) m = Some (parameter_meaning p)
meaning_among None m = m

abbrev pub meaning_of : (List ℕ → Option NamedClass) → List DeclaredTypeParameter → List ℕ → Option Meaning
meaning_of classes parameters x =
    meaning_among (parameter_named parameters x)
    (meaning_of_others (type_of_name x) (meaning_of_class (throwable_of_name x) (classes x)))

abbrev pub is_nullable : TypeForm → Bool
is_nullable (typed n s) = n

abbrev pub all_nullable : List TypeForm → Bool
all_nullable [] = true
all_nullable (t ∷ ts) = if is_nullable t then all_nullable ts else false

-- the elements of an `Array` may be null
abbrev pub takes : TypeConstructor → List TypeForm → Bool
takes constructor.Array ts = all_nullable ts
takes _ ts = true

abbrev pub without_arguments : ShapeForm → List TypeForm → Option TypeForm
without_arguments s [] = Some (typed false s)
without_arguments s (t ∷ ts) = None

-- a name, with the arguments that are written behind it
abbrev pub applied : Meaning → List TypeForm → Option TypeForm
applied means.Nothing ts = without_arguments nothing ts
applied means.Any ts = without_arguments any ts
applied (means.Parameter row place) ts = without_arguments (parameter row place) ts
applied (means.Taking c n) ts =
    if length ts == n then (if takes c ts then Some (typed false (of c (forms_of ts))) else None) else None

-- a function type has at most six parameters
abbrev pub function_type : Bool → List TypeForm → TypeForm → Option TypeForm
function_type suspends ts t =
    if nat_le (length ts) 6 then Some (typed false (of (constructor.Function suspends) (forms_of (ts ++ t ∷ []))))
    else None

abbrev mutual
  pub resolved : (List ℕ → Option NamedClass) → List DeclaredTypeParameter → TypeTree → Option TypeForm
  resolved classes parameters (named x ts) =
      then_on (meaning_of classes parameters x) (λ m. then_on (resolved_all classes parameters [] ts) (applied m))
  resolved classes parameters (function suspends ts t) =
      then_on (resolved_all classes parameters [] ts)
      (λ us. then_on (resolved classes parameters t) (function_type suspends us))
  resolved classes parameters (nullable t) = then_on (resolved classes parameters t) (λ u. Some (or_null true u))
  resolved classes parameters (parenthesized t) = resolved classes parameters t

  -- each of them, behind those that are done
  pub resolved_all :
      (List ℕ → Option NamedClass) → List DeclaredTypeParameter → List TypeForm → TypeTrees → Option (List TypeForm)
  resolved_all classes parameters done types_end = Some done
  resolved_all classes parameters done (type_then t ts) =
      then_on (resolved classes parameters t) (λ u. resolved_all classes parameters (done ++ u ∷ []) ts)
