-- One more slot in an index.
use Rattle.std.proofs.Common.{ℕ, zero, suc, ◌+◌, ◌<◌, false, ◌≡◌, refl, ap, ◌∙◌, List, [], ◌∷◌, Option, Some, None, length, take, arith}
use Rattle.std.specs.Prelude.{slice_index_or}
use Rattle.class_headers.proofs.IndexRules.{position_next}
use Rattle.class_index.specs.declared.members.MemberIndex.{MemberIndex}
use Rattle.class_index.specs.Members.{member_in}
use Rattle.class_index.specs.Texts.{or_at}
use Rattle.class_linked.specs.declared.methods.MethodPlace.{MethodPlace}
use Rattle.class_members.specs.declared.hierarchy.Hierarchy.{Hierarchy}
use Rattle.class_tables.specs.Dispatch.{FindsSlots, header_of, is_like}

pub none_added : (o : Option ℕ) (slot : ℕ) → o ≡ or_at o false slot
none_added (Some p) slot = refl
none_added None slot = refl

slots_next : (h : Hierarchy) (slots : List MethodPlace) (i : ℕ) (s : MethodPlace) (old new : MemberIndex) → i < length slots → s ≡ slice_index_or slots i s → FindsSlots h (take i slots) old → ((n d : List ℕ) → member_in new 0 n d ≡ or_at (member_in old 0 n d) (is_like n d (header_of h s)) i) → FindsSlots h (take (i + 1) slots) new
slots_next h slots i s old new lt is before added n d =
    added n d
    ∙ ap (λ o. or_at o (is_like n d (header_of h s)) i) (before n d)
    ∙ position_next (λ x. is_like n d (header_of h x)) slots i s lt is

any_default : {A : Type 0} (xs : List A) (i : ℕ) (d e : A) → i < length xs → slice_index_or xs i d ≡ slice_index_or xs i e
any_default [] i d e lt = absurd (omega arith)
any_default (x ∷ xs) zero d e lt = refl
any_default (x ∷ xs) (suc i) d e lt = any_default xs i d e (omega arith)

pub slot_next : (h : Hierarchy) (slots : List MethodPlace) (i : ℕ) (d : MethodPlace) (old new : MemberIndex) → i < length slots → FindsSlots h (take i slots) old → ((n e : List ℕ) → member_in new 0 n e ≡ or_at (member_in old 0 n e) (is_like n e (header_of h (slice_index_or slots i d))) i) → FindsSlots h (take (i + 1) slots) new
slot_next h slots i d old new lt before added =
    slots_next h slots i (slice_index_or slots i d) old new lt (any_default slots i d (slice_index_or slots i d) lt) before added
