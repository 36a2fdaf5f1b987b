-- The two kinds of descriptors.
use Rattle.std.specs.Prelude.{ℕ, Bool, List}
use Rattle.jvm_pool_bytes.specs.Names.{is_field_descriptor, is_method_descriptor}
use Rattle.jvm_pool_reader.specs.declared.texts.Kind.{Kind}
use Rattle.jvm_pool_reader.specs.declared.texts.Kind.TheVariants as kind

-- whether a text is a descriptor of the kind
abbrev pub is_descriptor : Kind → List ℕ → Bool
is_descriptor kind.Field = is_field_descriptor
is_descriptor kind.Method = is_method_descriptor
