-- Members of classes, by class, name and descriptor.
use Rattle.std.specs.Prelude.{ℕ, ◌≡◌, ◌<◌, ◌==◌, ◌&&◌, List, Option, Some, None}
use Rattle.std.specs.declared.cmp.Ordering.{Ordering}
use Rattle.std.specs.Ordering.{nat_cmp, ordering_then}
use Rattle.std.specs.BTreeMap.{get}
use Rattle.class_index.specs.declared.members.MemberIndex.{MemberIndex}
use Rattle.class_index.specs.declared.members.MemberKey.{MemberKey}
use Rattle.class_index.specs.Texts.{IsNumbering, how_many, number_in, or_at}

-- the order of the index: by the class, the name and the descriptor
abbrev pub triple_order : ℕ × ℕ × ℕ → ℕ × ℕ × ℕ → Ordering
triple_order p q = ordering_then (ordering_then (nat_cmp p.0 q.0) (nat_cmp p.1 q.1)) (nat_cmp p.2 q.2)

abbrev pub place_in : MemberIndex → ℕ → MemberKey → Option ℕ
place_in index class key = get triple_order index.places (class, key.name, key.descriptor)

abbrev pub key_of : Option ℕ → Option ℕ → Option MemberKey
key_of None descriptor = None
key_of (Some name) None = None
key_of (Some name) (Some descriptor) = Some (record { name = name; descriptor = descriptor })

abbrev pub key_in : MemberIndex → List ℕ → List ℕ → Option MemberKey
key_in index name descriptor = key_of (number_in index.texts name) (number_in index.texts descriptor)

abbrev pub then_place : MemberIndex → ℕ → Option MemberKey → Option ℕ
then_place index class None = None
then_place index class (Some key) = place_in index class key

-- the place of a member
abbrev pub member_in : MemberIndex → ℕ → List ℕ → List ℕ → Option ℕ
member_in index class name descriptor = then_place index class (key_in index name descriptor)

-- each name and descriptor by which something is found has a number
pub record IsWhole (index : MemberIndex) : Type 0 where
  pub numbering : IsNumbering index.texts
  pub names : (c n d p : ℕ) → get triple_order index.places (c, n, d) ≡ Some p → n < how_many index.texts
  pub descriptors : (c n d p : ℕ) → get triple_order index.places (c, n, d) ≡ Some p → d < how_many index.texts

-- a key of a class is put in, unless it is there
pub record PutsPlace (old new : MemberIndex) (class : ℕ) (key : MemberKey) (place : ℕ) : Type 0 where
  pub texts : new.texts ≡ old.texts
  pub places : (c n d : ℕ) → get triple_order new.places (c, n, d)
      ≡ or_at (get triple_order old.places (c, n, d)) ((class == c && key.name == n) && key.descriptor == d) place
