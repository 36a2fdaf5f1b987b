-- What a text is at its place, and the names of attributes.
use Rattle.std.specs.Prelude.{ℕ, Bool, List, Option, codes}
use Rattle.jvm_pool.specs.declared.entries.Entry.{Entry}
use Rattle.jvm_pool_bytes.specs.Names.{is_name, is_field_descriptor, is_method_descriptor}
use Rattle.jvm_class_grammar.specs.Kinds.{name_inside, field_descriptor_inside, method_descriptor_inside}
use Rattle.class_reader_members.specs.declared.texts.TextKind.{TextKind}
use Rattle.class_reader_members.specs.declared.texts.TextKind.TheVariants as kind
use Rattle.class_reader_members.specs.declared.attributes.Attribute.{Attribute}
use Rattle.class_reader_members.specs.declared.attributes.Attribute.TheVariants as attribute

-- the text of the kind that an entry is
abbrev pub text_inside : TextKind → Entry → Option (List ℕ)
text_inside kind.Name = name_inside
text_inside kind.FieldDescriptor = field_descriptor_inside
text_inside kind.MethodDescriptor = method_descriptor_inside

-- whether a text is of the kind
abbrev pub text_keeps : TextKind → List ℕ → Bool
text_keeps kind.Name = is_name
text_keeps kind.FieldDescriptor = is_field_descriptor
text_keeps kind.MethodDescriptor = is_method_descriptor

-- the name of an attribute
abbrev pub attribute_text : Attribute → List ℕ
attribute_text attribute.Code = codes "Code"
attribute_text attribute.StackMapTable = codes "StackMapTable"
