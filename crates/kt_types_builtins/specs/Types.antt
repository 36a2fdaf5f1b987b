-- The built-in types: names, counts of type arguments, and what each is.
use Rattle.std.specs.Prelude.{ℕ, List, [], ◌∷◌, Option, find, ◌==◌, codes}
use Rattle.std.specs.Cmp.Lexicographic.{pointwise}
use Rattle.kt_types_tree.specs.declared.types.TypeConstructor.TheVariants as constructor
use Rattle.kt_types_tree.specs.Types.{ShapeForm, TypeForms, nothing, any, of}
use Rattle.kt_types_builtins.specs.declared.types.BuiltInType.{BuiltInType}
use Rattle.kt_types_builtins.specs.declared.types.BuiltInType.TheVariants as type

abbrev pub type_name : BuiltInType → List ℕ
type_name type.Int = codes "Int"
type_name type.Long = codes "Long"
type_name type.Boolean = codes "Boolean"
type_name type.Char = codes "Char"
type_name type.String = codes "String"
type_name type.Unit = codes "Unit"
type_name type.Nothing = codes "Nothing"
type_name type.Any = codes "Any"
type_name type.IntArray = codes "IntArray"
type_name type.Array = codes "Array"
type_name type.Continuation = codes "Continuation"

abbrev pub type_arguments : BuiltInType → ℕ
type_arguments type.Array = 1
type_arguments type.Continuation = 1
type_arguments type.Int = 0
type_arguments type.Long = 0
type_arguments type.Boolean = 0
type_arguments type.Char = 0
type_arguments type.String = 0
type_arguments type.Unit = 0
type_arguments type.Nothing = 0
type_arguments type.Any = 0
type_arguments type.IntArray = 0

abbrev pub type_shape : BuiltInType → TypeForms → ShapeForm
type_shape type.Nothing ts = nothing
type_shape type.Any ts = any
type_shape type.Int ts = of constructor.Int ts
type_shape type.Long ts = of constructor.Long ts
type_shape type.Boolean ts = of constructor.Boolean ts
type_shape type.Char ts = of constructor.Char ts
type_shape type.String ts = of constructor.String ts
type_shape type.Unit ts = of constructor.Unit ts
type_shape type.IntArray ts = of constructor.IntArray ts
type_shape type.Array ts = of constructor.Array ts
type_shape type.Continuation ts = of constructor.Continuation ts

unfoldable pub types : List BuiltInType
types = type.Int ∷ type.Long ∷ type.Boolean ∷ type.Char ∷ type.String ∷ type.Unit ∷ type.Nothing ∷ type.Any
    ∷ type.IntArray ∷ type.Array ∷ type.Continuation ∷ []

-- the type that is written so
unfoldable pub type_of_name : List ℕ → Option BuiltInType
type_of_name name = find (λ t. pointwise ◌==◌ (type_name t) name) types
