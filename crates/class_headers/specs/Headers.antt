-- All classes that a program has: those of the machine, the two of arrays, and those of its class files.
use Rattle.std.specs.Prelude.{ℕ, List, [], ◌∷◌, ◌++◌, map, Some, option_map, codes}
use Rattle.jvm_class_types.specs.Seen.{Field, Method, Class}
use Rattle.jvm_class_types.specs.declared.flags.ClassFlags.TheVariants as flag
use Rattle.jvm_runtime.specs.declared.classes.RuntimeClass.{RuntimeClass}
use Rattle.jvm_runtime.specs.Classes.{class_name, class_flags, superclass, runtime_classes}
use Rattle.jvm_runtime.specs.Members.{runtime_fields, runtime_methods}
use Rattle.jvm_runtime.specs.Members.{Method as OwnMethod}
use Rattle.class_headers.specs.declared.headers.FieldHeader.{FieldHeader}
use Rattle.class_headers.specs.declared.headers.MethodHeader.{MethodHeader}
use Rattle.class_headers.specs.declared.headers.Header.{Header}

-- ---- the header of one class

abbrev pub field_header : Field → FieldHeader
field_header f = record { flags = f.flags; name = f.name; descriptor = f.descriptor }

abbrev pub own_method_header : OwnMethod → MethodHeader
own_method_header m = record { flags = m.flags; name = m.name; descriptor = m.descriptor }

abbrev pub method_header : Method → MethodHeader
method_header m = record { flags = m.flags; name = m.name; descriptor = m.descriptor }

-- a class that the machine has without a class file
abbrev pub own_header : RuntimeClass → Header
own_header class = record {
  name = class_name class;
  flags = class_flags class;
  above = option_map class_name (superclass class);
  interfaces = [];
  fields = map field_header (runtime_fields class);
  methods = map own_method_header (runtime_methods class);
}

-- arrays are below `java/lang/Object`, and have no members of their own
abbrev pub array_header : List ℕ → Header
array_header name = record {
  name = name;
  flags = flag.Final;
  above = Some (codes "java/lang/Object");
  interfaces = [];
  fields = [];
  methods = [];
}

abbrev pub file_header : Class → Header
file_header c = record {
  name = c.name;
  flags = c.flags;
  above = Some c.super_class;
  interfaces = c.interfaces;
  fields = map field_header c.fields;
  methods = map method_header c.methods;
}

-- ---- all of them; the number of a class is its place here

abbrev pub int_array : Header
int_array = array_header (codes "[I")

abbrev pub object_array : Header
object_array = array_header (codes "[Ljava/lang/Object;")

unfoldable pub own_headers : List Header
own_headers = map own_header runtime_classes ++ int_array ∷ [] ++ object_array ∷ []

abbrev pub headers_of : List Class → List Header
headers_of classes = own_headers ++ map file_header classes
