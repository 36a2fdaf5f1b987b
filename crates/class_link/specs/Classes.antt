-- What linking makes of classes, the numbers of which are given by their hierarchy.
use Rattle.std.specs.Prelude.{ℕ, ◌+◌, List, [], ◌∷◌, ◌++◌, map, take, flat_map, Option, None, option_map, slice_get}
use Rattle.jvm_class_types.specs.declared.classes.ClassFile.{ClassFile}
use Rattle.jvm_class_types.specs.declared.classes.Method.{Method}
use Rattle.jvm_class_types.specs.declared.flags.ClassFlags.{ClassFlags}
use Rattle.class_headers.specs.declared.headers.Header.{Header}
use Rattle.class_headers.specs.declared.headers.MethodHeader.{MethodHeader}
use Rattle.class_linked.specs.Numbers.{first_file_class}
use Rattle.class_linked.specs.declared.classes.Linked.{Linked}
use Rattle.class_linked.specs.declared.classes.LinkedClass.{LinkedClass}
use Rattle.class_linked.specs.declared.constants.Constant.{Constant}
use Rattle.class_linked.specs.declared.methods.LinkedMethod.{LinkedMethod}
use Rattle.class_members.specs.declared.hierarchy.Hierarchy.{Hierarchy}
use Rattle.class_members.specs.Above.{join, number_in}
use Rattle.class_members.specs.Members.{supers_at}
use Rattle.class_constants.specs.Constants.{constants}
use Rattle.class_code.specs.Code.{linked_code}
use Rattle.class_tables.specs.Dispatch.{faces, linked_method, table}
use Rattle.class_tables.specs.Objects.{object_fields}

-- a method that the machine has without code
abbrev pub own_method : Hierarchy → ℕ → MethodHeader → LinkedMethod
own_method h c m = linked_method h c m.flags m.name m.descriptor None

abbrev pub file_method : Hierarchy → ℕ → Method → LinkedMethod
file_method h c m = linked_method h c m.flags m.name m.descriptor (option_map (linked_code h.headers) m.code)

-- ---- a class

abbrev pub class_with : Hierarchy → ℕ → List ℕ → ClassFlags → List ℕ → List LinkedMethod → List Constant → LinkedClass
class_with h c name flags interfaces methods constants = record {
  name = name;
  flags = flags;
  above = join (slice_get h.parents c);
  interfaces = interfaces;
  supers = supers_at h c;
  fields = object_fields h c;
  methods = methods;
  table = table h c;
  faces = faces h c;
  constants = constants;
}

-- one that needs no class file: it is below no interface, and has no constant pool
abbrev pub own_class : Hierarchy → ℕ → Header → LinkedClass
own_class h c own = class_with h c own.name own.flags [] (map (own_method h c) own.methods) []

abbrev pub file_class : Hierarchy → ℕ → ClassFile → LinkedClass
file_class h c file = class_with h c file.name file.flags
    (flat_map (number_in h.headers) file.interfaces.items)
    (map (file_method h c) file.methods.items)
    (constants h file.pool)

-- ---- all of them, each by its number

abbrev pub own_classes : Hierarchy → ℕ → List Header → List LinkedClass
own_classes h c [] = []
own_classes h c (own ∷ owns) = own_class h c own ∷ own_classes h (c + 1) owns

abbrev pub file_classes : Hierarchy → ℕ → List ClassFile → List LinkedClass
file_classes h c [] = []
file_classes h c (file ∷ files) = file_class h c file ∷ file_classes h (c + 1) files

-- those that need no class file stand before those of class files
abbrev pub linked_of : Hierarchy → List ClassFile → Linked
linked_of h files = record {
  classes = own_classes h 0 (take first_file_class h.headers) ++ file_classes h first_file_class files;
}
