-- The parameters of a method one by one, and the local variables that it starts with.
use Rattle.std.specs.Prelude.{ℕ, List, [], ◌∷◌, ◌++◌, map, Option, None, ◌==◌, if◌then◌else◌}
use Rattle.std.specs.Str.{IsAscii}
use Rattle.jvm_pool.specs.declared.descriptors.FieldType.{FieldType}
use Rattle.jvm_pool.specs.declared.descriptors.FieldType.TheVariants as type
use Rattle.jvm_pool.specs.DescriptorReading.{first_type}
use Rattle.jvm_class_types.specs.declared.flags.MethodFlags.{MethodFlags}
use Rattle.jvm_class_types.specs.declared.frames.FrameType.{FrameType}
use Rattle.jvm_class_grammar.specs.Grammar.{receiver, in_frame}
use Rattle.jvm_class_grammar.specs.Kinds.{parameters}
use Rattle.jvm_class_start.specs.declared.types.ArgumentType.{ArgumentType}
use Rattle.jvm_class_start.specs.declared.types.ArgumentType.TheVariants as argument

-- a type as the definitions see it
abbrev pub type_seen : ArgumentType → FieldType
type_seen argument.Int = type.Int
type_seen argument.Long = type.Long
type_seen argument.Bool = type.Bool
type_seen argument.Char = type.Char
type_seen (argument.Class name) = type.Class name.now
type_seen argument.IntArray = type.IntArray
type_seen argument.ObjectArray = type.ObjectArray

abbrev pub behind_first : List ℕ → List ℕ
behind_first [] = []
behind_first (b ∷ rest) = rest

-- the type of the next parameter, and what stands behind it
abbrev pub next_type : List ℕ → Option (FieldType × List ℕ)
next_type [] = None
next_type (b ∷ rest) = if b == 41 then None else first_type (b ∷ rest)

-- the types of the local variables that a method of a class starts with
abbrev pub start_locals : List ℕ → MethodFlags → List ℕ → List ℕ → List FrameType
start_locals class flags name descriptor = receiver class flags name ++ map in_frame (parameters descriptor)

-- a class name in the type is ASCII
abbrev pub IsAsciiType : ArgumentType → Type 0
IsAsciiType (argument.Class name) = IsAscii name.now
IsAsciiType _ = Unit {0}
