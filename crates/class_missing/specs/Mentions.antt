-- The member that an entry of a constant pool means: the class that declares it, and its place there (JVMS SE 8
-- §5.4.3).
use Rattle.std.specs.Prelude.{ℕ, Bool, true, false, not, List, Option, Some, None}
use Rattle.class_headers.specs.Places.{number_of}
use Rattle.class_members.specs.declared.hierarchy.Hierarchy.{Hierarchy}
use Rattle.class_members.specs.Members.{field_found, interface_method_found, is_interface_at, method_found}

abbrev pub then_found : Option ℕ → (ℕ → Option (ℕ × ℕ)) → Option (ℕ × ℕ)
then_found None found = None
then_found (Some c) found = found c

abbrev pub field_named : Hierarchy → List ℕ → List ℕ → List ℕ → Option (ℕ × ℕ)
field_named h class name descriptor =
    then_found (number_of h.headers class) (λ c. field_found h c name descriptor)

abbrev pub only_if : Bool → Option (ℕ × ℕ) → Option (ℕ × ℕ)
only_if true found = found
only_if false found = None

-- a method of a class is looked for in what is no interface, one of an interface in an interface
abbrev pub method_named : Hierarchy → List ℕ → List ℕ → List ℕ → Option (ℕ × ℕ)
method_named h class name descriptor =
    then_found (number_of h.headers class) (λ c. only_if (not (is_interface_at h c)) (method_found h c name descriptor))

abbrev pub interface_method_named : Hierarchy → List ℕ → List ℕ → List ℕ → Option (ℕ × ℕ)
interface_method_named h class name descriptor =
    then_found (number_of h.headers class)
    (λ c. only_if (is_interface_at h c) (interface_method_found h c name descriptor))
