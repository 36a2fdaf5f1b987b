-- What a class names that isn't there: the name of a class, which is missing itself or lacks a member.
use Rattle.std.specs.Prelude.{ℕ, zero, suc, ◌+◌, ◌==◌, Bool, true, false, not, ◌&&◌, List, [], ◌∷◌, take, drop}
use Rattle.std.specs.Prelude.{length, find, position, Option, Some, None, is_some, slice_get}
use Rattle.std.specs.List.{list_any}
use Rattle.jvm_pool.specs.declared.entries.Entry.{Entry}
use Rattle.jvm_pool.specs.declared.entries.Entry.TheVariants as entry
use Rattle.jvm_class_types.specs.declared.flags.ClassFlags.{ClassFlags}
use Rattle.jvm_class_types.specs.declared.flags.ClassFlags.TheVariants as class_flag
use Rattle.jvm_class_types.specs.declared.flags.MethodFlags.{MethodFlags}
use Rattle.jvm_class_types.specs.declared.flags.MethodFlags.TheVariants as flag
use Rattle.jvm_class_types.specs.declared.classes.ClassFile.{ClassFile}
use Rattle.class_headers.specs.declared.headers.Header.{Header}
use Rattle.class_headers.specs.declared.headers.MethodHeader.{MethodHeader}
use Rattle.class_headers.specs.Places.{number_of}
use Rattle.class_members.specs.declared.hierarchy.Hierarchy.{Hierarchy}
use Rattle.class_members.specs.Members.{or_else, selected, supers_at}
use Rattle.class_missing.specs.Mentions.{field_named, interface_method_named, method_named}

-- ---- classes

abbrev pub unless_found : {A : Type 0} → Option A → List ℕ → Option (List ℕ)
unless_found None name = Some name
unless_found (Some a) name = None

abbrev pub class_missing : Hierarchy → List ℕ → Option (List ℕ)
class_missing h name = unless_found (number_of h.headers name) name

-- the first of several names that is of no class
abbrev pub is_missing : Hierarchy → List ℕ → Bool
is_missing h name = is_some (class_missing h name)

abbrev pub first_of_names : Hierarchy → List (List ℕ) → Option (List ℕ)
first_of_names h names = find (is_missing h) names

-- ---- descriptors: the names in them stand between an `L` and a `;`

abbrev pub cut_before : List ℕ → Option ℕ → Option (List ℕ × List ℕ)
cut_before bytes None = None
cut_before bytes (Some end) = Some (take end bytes, drop (end + 1) bytes)

abbrev pub behind_mark : List ℕ → Option ℕ → Option (List ℕ × List ℕ)
behind_mark bytes None = None
behind_mark bytes (Some start) =
    cut_before (drop (start + 1) bytes) (position (λ b. b == 59) (drop (start + 1) bytes))

-- the first name in a descriptor, and what stands behind it
abbrev pub first_name : List ℕ → Option (List ℕ × List ℕ)
first_name bytes = behind_mark bytes (position (λ b. b == 76) bytes)

abbrev pub named_missing : Hierarchy → Option (List ℕ × List ℕ) → (List ℕ → Option (List ℕ)) → Option (List ℕ)
named_missing h None more = None
named_missing h (Some found) more = or_else (class_missing h found.0) (more found.1)

-- n bounds the names
unfoldable pub missing_within : Hierarchy → ℕ → List ℕ → Option (List ℕ)
missing_within h zero bytes = None
missing_within h (suc n) bytes = named_missing h (first_name bytes) (missing_within h n)

abbrev pub type_missing : Hierarchy → List ℕ → Option (List ℕ)
type_missing h bytes = missing_within h (length bytes) bytes

-- ---- members

-- of a member: its class, the classes in its descriptor, and the member itself
abbrev pub member_missing : Hierarchy → List ℕ → List ℕ → Option (ℕ × ℕ) → Option (List ℕ)
member_missing h class descriptor found =
    or_else (class_missing h class) (or_else (type_missing h descriptor) (unless_found found class))

abbrev pub entry_missing : Hierarchy → Entry → Option (List ℕ)
entry_missing h (entry.Utf8 text) = None
entry_missing h (entry.Int n) = None
entry_missing h (entry.Long n) = None
entry_missing h (entry.Text text) = None
entry_missing h (entry.NameAndType name descriptor) = None
entry_missing h (entry.Class name) = class_missing h name
entry_missing h (entry.Field class name descriptor) =
    member_missing h class descriptor (field_named h class name descriptor)
entry_missing h (entry.Method class name descriptor) =
    member_missing h class descriptor (method_named h class name descriptor)
entry_missing h (entry.InterfaceMethod class name descriptor) =
    member_missing h class descriptor (interface_method_named h class name descriptor)

-- what is missing of the first of several of which something is
abbrev pub first_missing_of : {A : Type 0} → (A → Option (List ℕ)) → Option A → Option (List ℕ)
first_missing_of missing None = None
first_missing_of missing (Some a) = missing a

abbrev pub first_in : {A : Type 0} → (A → Option (List ℕ)) → List A → Option (List ℕ)
first_in missing xs = first_missing_of missing (find (λ x. is_some (missing x)) xs)

-- ---- abstract functions without a body

abbrev pub is_concrete : ClassFlags → Bool
is_concrete class_flag.Open = true
is_concrete class_flag.Final = true
is_concrete class_flag.Abstract = false
is_concrete class_flag.Interface = false

abbrev pub is_abstract : MethodFlags → Bool
is_abstract flag.Abstract = true
is_abstract flag.Instance = false
is_abstract flag.Static = false

abbrev pub has_body : Option MethodHeader → Bool
has_body None = false
has_body (Some m) = not (is_abstract m.flags)

abbrev pub methods_of : Option Header → List MethodHeader
methods_of None = []
methods_of (Some h) = h.methods

abbrev pub method_at : Hierarchy → Option (ℕ × ℕ) → Option MethodHeader
method_at h None = None
method_at h (Some found) = slice_get (methods_of (slice_get h.headers found.0)) found.1

-- what a call of the method runs on an object of the class has no body
abbrev pub lacks : Hierarchy → ℕ → MethodHeader → Bool
lacks h c m = is_abstract m.flags && not (has_body (method_at h (selected h c m.name m.descriptor)))

abbrev pub lacks_one : Hierarchy → ℕ → ℕ → Bool
lacks_one h c above = list_any (lacks h c) (methods_of (slice_get h.headers above))

abbrev pub lacks_body : Hierarchy → ℕ → ClassFlags → Bool
lacks_body h c flags = is_concrete flags && list_any (lacks_one h c) (supers_at h c)

abbrev pub when : Bool → List ℕ → Option (List ℕ)
when true name = Some name
when false name = None

-- ---- a class file, in its order: the pool, what stands above, fields, methods; and last what has no body

abbrev pub missing_above : Hierarchy → ClassFile → Option (List ℕ)
missing_above h c = or_else (class_missing h c.super_class) (first_of_names h c.interfaces.items)

abbrev pub missing_members : Hierarchy → ClassFile → Option (List ℕ)
missing_members h c = or_else
    (first_in (λ f. type_missing h f.descriptor) c.fields.items)
    (first_in (λ m. type_missing h m.descriptor) c.methods.items)

abbrev pub file_missing : Hierarchy → ℕ → ClassFile → Option (List ℕ)
file_missing h number c =
    or_else (first_in (entry_missing h) c.pool)
    (or_else (missing_above h c) (or_else (missing_members h c) (when (lacks_body h number c.flags) c.name)))

-- of several class files, the number of the first of which is given, the first of which something is missing
abbrev pub files_missing : Hierarchy → ℕ → List ClassFile → Option (List ℕ)
files_missing h number [] = None
files_missing h number (c ∷ cs) = or_else (file_missing h number c) (files_missing h (number + 1) cs)
