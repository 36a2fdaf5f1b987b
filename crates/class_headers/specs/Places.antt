-- Classes by their number, and members by their place in their class.
use Rattle.std.specs.Prelude.{ℕ, Bool, true, false, ◌&&◌, List, Option, position, bytes_eq}
use Rattle.jvm_class_types.specs.declared.flags.MethodFlags.{MethodFlags}
use Rattle.jvm_class_types.specs.declared.flags.MethodFlags.TheVariants as flag
use Rattle.class_headers.specs.declared.headers.FieldHeader.{FieldHeader}
use Rattle.class_headers.specs.declared.headers.MethodHeader.{MethodHeader}
use Rattle.class_headers.specs.declared.headers.Header.{Header}

-- the number of the class of a name, the first of several
abbrev pub number_of : List Header → List ℕ → Option ℕ
number_of hs name = position (λ h. bytes_eq h.name name) hs

abbrev pub is_field : List ℕ → List ℕ → FieldHeader → Bool
is_field name descriptor f = bytes_eq f.name name && bytes_eq f.descriptor descriptor

abbrev pub is_method : List ℕ → List ℕ → MethodHeader → Bool
is_method name descriptor m = bytes_eq m.name name && bytes_eq m.descriptor descriptor

-- the place of the first of several members of one name and descriptor among those of its class
abbrev pub own_field : Header → List ℕ → List ℕ → Option ℕ
own_field h name descriptor = position (is_field name descriptor) h.fields

abbrev pub own_method : Header → List ℕ → List ℕ → Option ℕ
own_method h name descriptor = position (is_method name descriptor) h.methods

-- a method that is called with an object, and its place
abbrev pub is_called_with_object : MethodFlags → Bool
is_called_with_object flag.Instance = true
is_called_with_object flag.Abstract = true
is_called_with_object flag.Static = false

abbrev pub is_virtual : List ℕ → List ℕ → MethodHeader → Bool
is_virtual name descriptor m = is_method name descriptor m && is_called_with_object m.flags

abbrev pub own_virtual : Header → List ℕ → List ℕ → Option ℕ
own_virtual h name descriptor = position (is_virtual name descriptor) h.methods
