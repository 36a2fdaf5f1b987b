-- The members that a class has with those above it (JVMS SE 8 §5.4.3, §5.4.6).
use Rattle.std.specs.Prelude.{ℕ, Bool, true, false, List, [], ◌∷◌, Option, Some, None, bytes_eq, codes, slice_get}
use Rattle.jvm_class_types.specs.declared.flags.ClassFlags.{ClassFlags}
use Rattle.jvm_class_types.specs.declared.flags.ClassFlags.TheVariants as flag
use Rattle.class_headers.specs.declared.headers.Header.{Header}
use Rattle.class_headers.specs.Places.{own_field, own_method, own_virtual}
use Rattle.class_members.specs.declared.hierarchy.Hierarchy.{Hierarchy}
use Rattle.class_members.specs.declared.members.MemberKind.{MemberKind}
use Rattle.class_members.specs.declared.members.MemberKind.TheVariants as kind

abbrev pub own_member : MemberKind → List ℕ → List ℕ → Header → Option ℕ
own_member kind.Field name descriptor h = own_field h name descriptor
own_member kind.Method name descriptor h = own_method h name descriptor
own_member kind.Virtual name descriptor h = own_virtual h name descriptor

abbrev pub own_member_of : MemberKind → List ℕ → List ℕ → Option Header → Option ℕ
own_member_of k name descriptor None = None
own_member_of k name descriptor (Some h) = own_member k name descriptor h

-- the place in a class, or else what is found elsewhere
abbrev pub found_in : ℕ → Option ℕ → Option (ℕ × ℕ) → Option (ℕ × ℕ)
found_in c None rest = rest
found_in c (Some place) rest = Some (c, place)

-- the first of these classes that declares the member, and its place there
abbrev pub first_member : List Header → MemberKind → List ℕ → List ℕ → List ℕ → Option (ℕ × ℕ)
first_member hs k name descriptor [] = None
first_member hs k name descriptor (c ∷ cs) =
    found_in c (own_member_of k name descriptor (slice_get hs c)) (first_member hs k name descriptor cs)

abbrev pub row_or_none : Option (List ℕ) → List ℕ
row_or_none None = []
row_or_none (Some row) = row

abbrev pub chain_at : Hierarchy → ℕ → List ℕ
chain_at h c = row_or_none (slice_get h.chains c)

abbrev pub supers_at : Hierarchy → ℕ → List ℕ
supers_at h c = row_or_none (slice_get h.supers c)

abbrev pub or_else : {A : Type 0} → Option A → Option A → Option A
or_else None o = o
or_else (Some a) o = Some a

-- a field, in the class or in one above it
abbrev pub field_found : Hierarchy → ℕ → List ℕ → List ℕ → Option (ℕ × ℕ)
field_found h c name descriptor = first_member h.headers kind.Field name descriptor (chain_at h c)

abbrev pub is_constructor_name : List ℕ → Bool
is_constructor_name name = bytes_eq name (codes "<init>")

-- a constructor, in the class alone
abbrev pub constructor_found : Hierarchy → ℕ → List ℕ → List ℕ → Option (ℕ × ℕ)
constructor_found h c name descriptor = first_member h.headers kind.Method name descriptor (c ∷ [])

-- a method, in the class and those above it, and then in the interfaces above
abbrev pub inherited_found : Hierarchy → ℕ → List ℕ → List ℕ → Option (ℕ × ℕ)
inherited_found h c name descriptor = or_else
    (first_member h.headers kind.Method name descriptor (chain_at h c))
    (first_member h.headers kind.Method name descriptor (supers_at h c))

abbrev pub by_name : Bool → Option (ℕ × ℕ) → Option (ℕ × ℕ) → Option (ℕ × ℕ)
by_name true a b = a
by_name false a b = b

abbrev pub method_found : Hierarchy → ℕ → List ℕ → List ℕ → Option (ℕ × ℕ)
method_found h c name descriptor = by_name (is_constructor_name name)
    (constructor_found h c name descriptor)
    (inherited_found h c name descriptor)

-- a method of an interface: in it, in the root, and then in the interfaces above
abbrev pub interface_method_found : Hierarchy → ℕ → List ℕ → List ℕ → Option (ℕ × ℕ)
interface_method_found h c name descriptor = or_else
    (first_member h.headers kind.Method name descriptor (c ∷ 0 ∷ []))
    (first_member h.headers kind.Method name descriptor (supers_at h c))

-- the method that a call runs on an object of a class: the first on the way up that is called with an object
abbrev pub selected : Hierarchy → ℕ → List ℕ → List ℕ → Option (ℕ × ℕ)
selected h c name descriptor = first_member h.headers kind.Virtual name descriptor (chain_at h c)

abbrev pub is_interface : ClassFlags → Bool
is_interface flag.Interface = true
is_interface flag.Abstract = false
is_interface flag.Open = false
is_interface flag.Final = false

abbrev pub is_interface_header : Option Header → Bool
is_interface_header None = false
is_interface_header (Some h) = is_interface h.flags

abbrev pub is_interface_at : Hierarchy → ℕ → Bool
is_interface_at h c = is_interface_header (slice_get h.headers c)
