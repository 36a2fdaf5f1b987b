-- What the name of a type stands for.
use Rattle.kt_types_builtins.specs.declared.types.BuiltInType.{BuiltInType}
use Rattle.kt_types_builtins.specs.declared.types.BuiltInType.TheVariants as type
use Rattle.kt_types_tree.specs.declared.types.TypeConstructor.TheVariants as constructor
use Rattle.kt_decls_types.specs.declared.names.Meaning.{Meaning}
use Rattle.kt_decls_types.specs.declared.names.Meaning.TheVariants.{Nothing, Any, Taking}

-- a built-in type, with the number of its arguments
abbrev pub meaning : BuiltInType → Meaning
meaning type.Int = Taking constructor.Int 0
meaning type.Long = Taking constructor.Long 0
meaning type.Boolean = Taking constructor.Boolean 0
meaning type.Char = Taking constructor.Char 0
meaning type.String = Taking constructor.String 0
meaning type.Unit = Taking constructor.Unit 0
meaning type.Nothing = Nothing
meaning type.Any = Any
meaning type.IntArray = Taking constructor.IntArray 0
meaning type.Array = Taking constructor.Array 1
meaning type.Continuation = Taking constructor.Continuation 1
