-- The methods that calls find in the class of the receiver (JVMS SE 8 §5.4.6): by a slot of its table, or by an
-- interface.
--
-- A class has a slot for each method that it declares and that no class above has, behind the slots of the class above.
-- So a slot stands for the same method in each class below.
use Rattle.std.specs.Prelude.{◌≡◌, ℕ, zero, suc, Bool, true, false, not, ◌&&◌, List, [], ◌∷◌, ◌++◌, length, map}
use Rattle.std.specs.Prelude.{filter, reverse, flat_map, position, Option, None, Some, is_some, bytes_eq}
use Rattle.std.specs.Prelude.{codes, slice_get, if◌then◌else◌}
use Rattle.jvm_class_types.specs.declared.flags.MethodFlags.{MethodFlags}
use Rattle.class_headers.specs.declared.headers.MethodHeader.{MethodHeader}
use Rattle.class_headers.specs.Places.{is_called_with_object, is_method}
use Rattle.class_index.specs.declared.members.MemberIndex.{MemberIndex}
use Rattle.class_index.specs.Members.{member_in}
use Rattle.class_linked.specs.declared.classes.Face.{Face}
use Rattle.class_linked.specs.declared.code.LinkedCode.{LinkedCode}
use Rattle.class_linked.specs.declared.methods.LinkedMethod.{LinkedMethod}
use Rattle.class_linked.specs.declared.methods.MethodPlace.{MethodPlace}
use Rattle.class_linked.specs.declared.methods.Role.{Role}
use Rattle.class_linked.specs.declared.methods.Role.TheVariants as role
use Rattle.class_linked.specs.declared.methods.Selector.{Selector}
use Rattle.class_linked.specs.declared.methods.Selector.TheVariants as by
use Rattle.class_members.specs.declared.hierarchy.Hierarchy.{Hierarchy}
use Rattle.class_members.specs.declared.members.MemberKind.TheVariants as kind
use Rattle.class_members.specs.Members.{chain_at, first_member, is_constructor_name, is_interface_at, or_else}
use Rattle.class_members.specs.Members.{selected, supers_at}
use Rattle.class_missing.specs.Missing.{methods_of}
use Rattle.class_tables.specs.declared.slots.Slots.{Slots}
use Rattle.class_constants.specs.Fields.{above_in}
use Rattle.class_constants.specs.Kinds.{parameter_kinds, result_kind}

abbrev pub methods_at : Hierarchy → ℕ → List MethodHeader
methods_at h c = methods_of (slice_get h.headers c)

-- a method that is found in the class of the receiver
abbrev pub is_selectable : MethodFlags → List ℕ → Bool
is_selectable flags name = is_called_with_object flags && not (is_constructor_name name)

-- ---- slots

abbrev pub has_above : Hierarchy → ℕ → MethodHeader → Bool
has_above h c m = is_some (first_member h.headers kind.Virtual m.name m.descriptor (above_in (chain_at h c)))

-- a method that a class has and none above it
abbrev pub is_new : Hierarchy → ℕ → Option MethodHeader → Bool
is_new h c None = false
is_new h c (Some m) = is_selectable m.flags m.name && not (has_above h c m)

abbrev pub place_if : Bool → ℕ → ℕ → List MethodPlace
place_if false c place = []
place_if true c place = record { class = c; place = place } ∷ []

-- those before a place of the class
unfoldable pub new_before : Hierarchy → ℕ → ℕ → List MethodPlace
new_before h c zero = []
new_before h c (suc n) = new_before h c n ++ place_if (is_new h c (slice_get (methods_at h c) n)) c n

-- those of an interface have no slots
abbrev pub unless : Bool → List MethodPlace → List MethodPlace
unless true slots = []
unless false slots = slots

abbrev pub own_slots : Hierarchy → ℕ → List MethodPlace
own_slots h c = unless (is_interface_at h c) (new_before h c (length (methods_at h c)))

-- each slot by the method that it was made for
abbrev pub slots_of : Hierarchy → ℕ → List MethodPlace
slots_of h c = flat_map (own_slots h) (reverse (chain_at h c))

abbrev pub header_of : Hierarchy → MethodPlace → Option MethodHeader
header_of h s = slice_get (methods_at h s.class) s.place

-- ---- what a call runs

-- a method that is there
abbrev pub placed : Option (ℕ × ℕ) → MethodPlace
placed None = record { class = 0; place = 0 }
placed (Some found) = record { class = found.0; place = found.1 }

abbrev pub selected_like : Hierarchy → ℕ → Option MethodHeader → Option (ℕ × ℕ)
selected_like h c None = None
selected_like h c (Some m) = selected h c m.name m.descriptor

-- for each slot the method that runs on an object of the class
abbrev pub table : Hierarchy → ℕ → List MethodPlace
table h c = map (λ s. placed (selected_like h c (header_of h s))) (slots_of h c)

-- for a method of an interface the one that runs on an object of the class: its own where there is none
abbrev pub stands_for : Hierarchy → ℕ → ℕ → MethodHeader → MethodPlace
stands_for h c i m = placed (or_else
    (selected h c m.name m.descriptor)
    (first_member h.headers kind.Method m.name m.descriptor (i ∷ [])))

abbrev pub face : Hierarchy → ℕ → ℕ → Face
face h c i = record { interface = i; methods = map (stands_for h c i) (methods_at h i) }

abbrev pub faces : Hierarchy → ℕ → List Face
faces h c = map (face h c) (filter (is_interface_at h) (supers_at h c))

-- ---- how a call of a method finds what it runs

abbrev pub is_like : List ℕ → List ℕ → Option MethodHeader → Bool
is_like name descriptor None = false
is_like name descriptor (Some m) = is_method name descriptor m

abbrev pub by_face : Option (ℕ × ℕ) → Option Selector
by_face None = None
by_face (Some found) = Some (by.Face found.0 found.1)

abbrev pub by_slot : Option ℕ → Option Selector
by_slot None = None
by_slot (Some slot) = Some (by.Slot slot)

abbrev pub slot_of : Hierarchy → ℕ → List ℕ → List ℕ → Option ℕ
slot_of h c name descriptor = position (λ s. is_like name descriptor (header_of h s)) (slots_of h c)

abbrev pub found_by : Bool → Option Selector → Option Selector → Option Selector
found_by true face slot = face
found_by false face slot = slot

abbrev pub only_if : Bool → Option Selector → Option Selector
only_if true selector = selector
only_if false selector = None

-- of a method that the class declares
abbrev pub selector : Hierarchy → ℕ → MethodFlags → List ℕ → List ℕ → Option Selector
selector h c flags name descriptor = only_if (is_selectable flags name) (found_by (is_interface_at h c)
    (by_face (first_member h.headers kind.Virtual name descriptor (c ∷ [])))
    (by_slot (slot_of h c name descriptor)))

-- ---- methods

abbrev pub is_resumption : List ℕ → List ℕ → Bool
is_resumption name descriptor =
    bytes_eq name (codes "invokeSuspend") && bytes_eq descriptor (codes "()Ljava/lang/Object;")

abbrev pub role_of : List ℕ → List ℕ → Role
role_of name descriptor = if is_constructor_name name then role.Constructor
    else if is_resumption name descriptor then role.Resumption else role.Ordinary

abbrev pub linked_method : Hierarchy → ℕ → MethodFlags → List ℕ → List ℕ → Option LinkedCode → LinkedMethod
linked_method h c flags name descriptor code = record {
  flags = flags;
  role = role_of name descriptor;
  parameters = parameter_kinds h.headers descriptor;
  result = result_kind h.headers descriptor;
  selector = selector h c flags name descriptor;
  code = code;
}

-- ---- the own slots of all classes

abbrev pub row_or_none : Option (List MethodPlace) → List MethodPlace
row_or_none None = []
row_or_none (Some row) = row

abbrev pub AreOwnSlots : Hierarchy → List (List MethodPlace) → Type 0
AreOwnSlots h rows = (c : ℕ) → row_or_none (slice_get rows c) ≡ own_slots h c

-- ---- the slots of a class, and an index of them

-- the index has the first slot of each name and descriptor, as a member of class 0
abbrev pub FindsSlots : Hierarchy → List MethodPlace → MemberIndex → Type 0
FindsSlots h slots index = (name descriptor : List ℕ) →
    member_in index 0 name descriptor ≡ position (λ s. is_like name descriptor (header_of h s)) slots

pub record AreSlots (h : Hierarchy) (c : ℕ) (slots : Slots) : Type 0 where
  pub are : slots.places.items ≡ slots_of h c
  pub found : FindsSlots h (slots_of h c) slots.index
