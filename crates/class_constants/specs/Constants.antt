-- What the entries of a constant pool stand for (JVMS SE 8 §4.4, §5.4.3).
use Rattle.std.specs.Prelude.{ℕ, ◌+◌, List, [], ◌∷◌, flat_map, Option, None, Some, slice_get}
use Rattle.jvm_pool.specs.declared.entries.Entry.{Entry}
use Rattle.jvm_pool.specs.declared.entries.Entry.TheVariants as entry
use Rattle.class_linked.specs.declared.constants.Constant.{Constant}
use Rattle.class_linked.specs.declared.constants.Constant.TheVariants as constant
use Rattle.class_linked.specs.declared.constants.FieldMention.{FieldMention}
use Rattle.class_linked.specs.declared.constants.MethodMention.{MethodMention}
use Rattle.class_members.specs.declared.hierarchy.Hierarchy.{Hierarchy}
use Rattle.class_missing.specs.Mentions.{field_named, interface_method_named, method_named}
use Rattle.class_constants.specs.Fields.{fields_above, fields_at, is_final_field}
use Rattle.class_constants.specs.Kinds.{class_of, field_kind}

-- a field that is declared in a class at a place
abbrev pub field_mention : Hierarchy → List ℕ → List ℕ → ℕ × ℕ → FieldMention
field_mention h class descriptor found = record {
  named = class_of h.headers class;
  owner = found.0;
  slot = fields_above h found.0 + found.1;
  kind = field_kind h.headers descriptor;
  is_final = is_final_field (slice_get (fields_at h.headers found.0) found.1);
}

abbrev pub field_constant : Hierarchy → List ℕ → List ℕ → Option (ℕ × ℕ) → Constant
field_constant h class descriptor None = constant.Nothing
field_constant h class descriptor (Some found) = constant.Field (field_mention h class descriptor found)

abbrev pub method_mention : Hierarchy → List ℕ → ℕ × ℕ → MethodMention
method_mention h class found = record { named = class_of h.headers class; owner = found.0; place = found.1 }

abbrev pub method_constant : Hierarchy → List ℕ → Option (ℕ × ℕ) → Constant
method_constant h class None = constant.Nothing
method_constant h class (Some found) = constant.Method (method_mention h class found)

abbrev pub interface_method_constant : Hierarchy → List ℕ → Option (ℕ × ℕ) → Constant
interface_method_constant h class None = constant.Nothing
interface_method_constant h class (Some found) = constant.InterfaceMethod (method_mention h class found)

-- no instruction mentions a text or a name with its descriptor
abbrev pub constant_of : Hierarchy → Entry → Constant
constant_of h (entry.Utf8 text) = constant.Nothing
constant_of h (entry.Int n) = constant.Int n
constant_of h (entry.Long n) = constant.Long n
constant_of h (entry.Class name) = constant.Class (class_of h.headers name)
constant_of h (entry.Text text) = constant.Text text
constant_of h (entry.Field class name descriptor) =
    field_constant h class descriptor (field_named h class name descriptor)
constant_of h (entry.Method class name descriptor) =
    method_constant h class (method_named h class name descriptor)
constant_of h (entry.InterfaceMethod class name descriptor) =
    interface_method_constant h class (interface_method_named h class name descriptor)
constant_of h (entry.NameAndType name descriptor) = constant.Nothing

-- at the indices that an entry takes: a `long` takes two
abbrev pub at_indices : Constant → List Constant
at_indices (constant.Long n) = constant.Long n ∷ constant.Nothing ∷ []
at_indices c = c ∷ []

-- at each index of the pool; no entry has index 0
abbrev pub constants : Hierarchy → List Entry → List Constant
constants h entries = constant.Nothing ∷ flat_map (λ e. at_indices (constant_of h e)) entries
