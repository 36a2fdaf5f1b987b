-- What a type means under arguments that stand under arguments.
use Rattle.std.specs.Prelude.{Bool, List, [], ◌∷◌, map, ◌≡◌}
use Rattle.kt_types_climbing.specs.declared.environment.Environment.{Environment, Top, Under'}
use Rattle.kt_types_climbing.specs.declared.reading.Read.{Read}
use Rattle.kt_types_tree.specs.Types.{TypeForm, TypeForms, ShapeForm, typed, parameter, shape_form, forms_of, type_form, substituted, substituted_all}

-- the arguments from the inside out
abbrev pub layers : Environment → List TypeForms
layers Top = []
layers (Under' all p e) = forms_of (map type_form all.now) ∷ layers e

-- read under arguments, each of which is read under those behind it
abbrev pub read_all : List TypeForms → TypeForms → TypeForms
read_all [] ts = ts
read_all (all ∷ rest) ts = substituted_all (read_all rest all) ts

abbrev pub read : List TypeForms → TypeForm → TypeForm
read [] t = t
read (all ∷ rest) t = substituted (read_all rest all) t

-- a type parameter that has no argument is read as itself
abbrev pub IsBare : List TypeForms → ShapeForm → Type 0
IsBare ls (parameter row place) =
    (n : Bool) → read ls (typed n (parameter row place)) ≡ typed n (parameter row place)
IsBare ls _ = Unit {0}

-- what a type in an environment is read as
abbrev pub read_of : Read → TypeForm
read_of r = read (layers r.environment.now) (typed r.nullable (shape_form r.shape.now))
