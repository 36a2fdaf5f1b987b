-- What is found when one more class or member is put into an index.
use Rattle.std.proofs.Common.{ℕ, zero, suc, ◌+◌, ◌<◌, Bool, true, false, ◌≡◌, refl, sym, ap, ◌∙◌, List, [], ◌∷◌, ◌++◌, Option, Some, None, length, take, arith}
use Rattle.std.specs.Prelude.{bytes_eq, ◌==◌, ◌&&◌, position, slice_get, slice_index_or, cond}
use Rattle.std.specs.List.{position_from}
use Rattle.std.proofs.lemmas.List.{take_more}
use Rattle.std.proofs.lemmas.Iterator.Adapters.{position_from-zero}
use Rattle.class_index.specs.Texts.{number_in, or_at}
use Rattle.class_index.specs.Members.{member_in}
use Rattle.class_index.specs.declared.members.MemberIndex.{MemberIndex}
use Rattle.class_index.specs.declared.texts.TextIndex.{TextIndex}
use Rattle.class_index.proofs.Tests.{equal_tests, number_same, same_number}
use Rattle.class_headers.specs.declared.headers.Header.{Header}
use Rattle.class_headers.specs.declared.headers.FieldHeader.{FieldHeader}
use Rattle.class_headers.specs.declared.headers.MethodHeader.{MethodHeader}
use Rattle.class_headers.specs.Places.{is_called_with_object, is_field, is_method, is_virtual, own_field, own_method, own_virtual}
use Rattle.class_headers.specs.Indexed.{FindsFields, FindsMethods, FindsNames, FindsVirtuals, or_own, own_of}

-- ---- the first place

at_end : (b : Bool) (i n : ℕ) → n ≡ i + 0 → cond b (Some i) None ≡ or_at None b n
at_end true i n e = ap Some (let q : i ≡ n = omega arith in q)
at_end false i n e = refl

behind_first : (b t : Bool) (i n : ℕ) (before after : Option ℕ) → after ≡ or_at before t n → cond b (Some i) after ≡ or_at (cond b (Some i) before) t n
behind_first true t i n before after e = refl
behind_first false t i n before after e = e

from_more : {X : Type 0} (p : X → Bool) (xs : List X) (x : X) (i n : ℕ) → n ≡ i + length xs → position_from p i (xs ++ x ∷ []) ≡ or_at (position_from p i xs) (p x) n
from_more p [] x i n e = at_end (p x) i n e
from_more p (y ∷ ys) x i n e =
    behind_first (p y) (p x) i n (position_from p (i + 1) ys) (position_from p (i + 1) (ys ++ x ∷ []))
    (from_more p ys x (i + 1) n (omega arith))

position_more : {X : Type 0} (p : X → Bool) (xs : List X) (x : X) → position p (xs ++ x ∷ []) ≡ or_at (position p xs) (p x) (length xs)
position_more p xs x =
    position_from-zero p (xs ++ x ∷ [])
    ∙ from_more p xs x 0 (length xs) (omega arith)
    ∙ ap (λ o. or_at o (p x) (length xs)) (sym (position_from-zero p xs))

taken : {X : Type 0} (xs : List X) (i : ℕ) (x : X) → i < length xs → x ≡ slice_index_or xs i x → take (i + 1) xs ≡ take i xs ++ x ∷ []
taken xs i x lt is = take_more xs i x lt ∙ ap (λ y. take i xs ++ y ∷ []) (sym is)

as_long : {X : Type 0} (xs : List X) (i : ℕ) → i < length xs → length (take i xs) ≡ i
as_long [] i lt = absurd (omega arith)
as_long (x ∷ xs) zero lt = refl
as_long (x ∷ xs) (suc i) lt = ap suc (as_long xs i (omega arith))

pub position_next : {X : Type 0} (p : X → Bool) (xs : List X) (i : ℕ) (x : X) → i < length xs → x ≡ slice_index_or xs i x → or_at (position p (take i xs)) (p x) i ≡ position p (take (i + 1) xs)
position_next p xs i x lt is =
    ap (or_at (position p (take i xs)) (p x)) (sym (as_long xs i lt))
    ∙ sym (position_more p (take i xs) x)
    ∙ ap (position p) (sym (taken xs i x lt is))

pub names_next : (hs : List Header) (i : ℕ) (h : Header) (old new : TextIndex) → i < length hs → h ≡ slice_index_or hs i h → FindsNames (take i hs) old → (a : List ℕ) → a ≡ h.name → ((name : List ℕ) → number_in new name ≡ or_at (number_in old name) (bytes_eq a name) i) → FindsNames (take (i + 1) hs) new
names_next hs i h old new lt is before a e added name =
    added name
    ∙ ap (λ b. or_at (number_in old name) (bytes_eq b name) i) e
    ∙ ap (λ o. or_at o (bytes_eq h.name name) i) (before name)
    ∙ position_next (λ x. bytes_eq x.name name) hs i h lt is

-- ---- the members of one class

own_next : (start : Option ℕ) (here : Bool) (found : Option ℕ) (is : Bool) (place : ℕ) → or_at (or_own start here found) (here && is) place ≡ or_own start here (or_at found is place)
own_next (Some p) here found is place = refl
own_next None true found is place = refl
own_next None false found is place = refl

grouped : (a b c : Bool) → ((a && b) && c) ≡ (a && (b && c))
grouped true b c = refl
grouped false b c = refl

module _ (class : ℕ) (start old new : MemberIndex) where
  -- of members that a test tells by name and descriptor
  members_next : {X : Type 0} (test : List ℕ → List ℕ → X → Bool) (xs : List X) (i : ℕ) (x : X) → i < length xs → x ≡ slice_index_or xs i x
      → ((c : ℕ) (n d : List ℕ) → member_in old c n d ≡ or_own (member_in start c n d) (class == c) (position (test n d) (take i xs)))
      → ((c : ℕ) (n d : List ℕ) → member_in new c n d ≡ or_at (member_in old c n d) (class == c && test n d x) i)
      → (c : ℕ) (n d : List ℕ) → member_in new c n d ≡ or_own (member_in start c n d) (class == c) (position (test n d) (take (i + 1) xs))
  members_next test xs i x lt is before added c n d =
      added c n d
      ∙ ap (λ o. or_at o (class == c && test n d x) i) (before c n d)
      ∙ own_next (member_in start c n d) (class == c) (position (test n d) (take i xs)) (test n d x) i
      ∙ ap (or_own (member_in start c n d) (class == c)) (position_next (test n d) xs i x lt is)

  pub fields_next : (xs : List FieldHeader) (i : ℕ) (x : FieldHeader) → i < length xs → x ≡ slice_index_or xs i x
      → ((c : ℕ) (n d : List ℕ) → member_in old c n d ≡ or_own (member_in start c n d) (class == c) (position (is_field n d) (take i xs)))
      → (a b : List ℕ) → a ≡ x.name → b ≡ x.descriptor
      → ((c : ℕ) (n d : List ℕ) → member_in new c n d ≡ or_at (member_in old c n d) ((class == c && bytes_eq a n) && bytes_eq b d) i)
      → (c : ℕ) (n d : List ℕ) → member_in new c n d ≡ or_own (member_in start c n d) (class == c) (position (is_field n d) (take (i + 1) xs))
  fields_next xs i x lt is before a b e f added =
      members_next is_field xs i x lt is before
      (λ c n d. added c n d
      ∙ ap (λ s. or_at (member_in old c n d) ((class == c && bytes_eq s n) && bytes_eq b d) i) e
      ∙ ap (λ s. or_at (member_in old c n d) ((class == c && bytes_eq x.name n) && bytes_eq s d) i) f
      ∙ ap (λ b. or_at (member_in old c n d) b i) (grouped (class == c) (bytes_eq x.name n) (bytes_eq x.descriptor d)))

  pub methods_next : (xs : List MethodHeader) (i : ℕ) (x : MethodHeader) → i < length xs → x ≡ slice_index_or xs i x
      → ((c : ℕ) (n d : List ℕ) → member_in old c n d ≡ or_own (member_in start c n d) (class == c) (position (is_method n d) (take i xs)))
      → (a b : List ℕ) → a ≡ x.name → b ≡ x.descriptor
      → ((c : ℕ) (n d : List ℕ) → member_in new c n d ≡ or_at (member_in old c n d) ((class == c && bytes_eq a n) && bytes_eq b d) i)
      → (c : ℕ) (n d : List ℕ) → member_in new c n d ≡ or_own (member_in start c n d) (class == c) (position (is_method n d) (take (i + 1) xs))
  methods_next xs i x lt is before a b e f added =
      members_next is_method xs i x lt is before
      (λ c n d. added c n d
      ∙ ap (λ s. or_at (member_in old c n d) ((class == c && bytes_eq s n) && bytes_eq b d) i) e
      ∙ ap (λ s. or_at (member_in old c n d) ((class == c && bytes_eq x.name n) && bytes_eq s d) i) f
      ∙ ap (λ b. or_at (member_in old c n d) b i) (grouped (class == c) (bytes_eq x.name n) (bytes_eq x.descriptor d)))

  pub virtuals_next : (xs : List MethodHeader) (i : ℕ) (x : MethodHeader) → i < length xs → x ≡ slice_index_or xs i x
      → ((c : ℕ) (n d : List ℕ) → member_in old c n d ≡ or_own (member_in start c n d) (class == c) (position (is_virtual n d) (take i xs)))
      → ((c : ℕ) (n d : List ℕ) → member_in new c n d ≡ or_at (member_in old c n d) (class == c && is_virtual n d x) i)
      → (c : ℕ) (n d : List ℕ) → member_in new c n d ≡ or_own (member_in start c n d) (class == c) (position (is_virtual n d) (take (i + 1) xs))
  virtuals_next xs i x lt is before added = members_next is_virtual xs i x lt is before added

-- a method that is called with an object, or not
called_one : (o : Option ℕ) (a b c v : Bool) (place : ℕ) → v ≡ true → or_at o ((a && b) && c) place ≡ or_at o (a && ((b && c) && v)) place
called_one o a true true true place e = ap (λ x. or_at o x place) (both a)
  where
    both : (a : Bool) → ((a && true) && true) ≡ (a && true)
    both true = refl
    both false = refl
called_one o a true false true place e = ap (λ x. or_at o x place) (both a)
  where
    both : (a : Bool) → ((a && true) && false) ≡ (a && false)
    both true = refl
    both false = refl
called_one o a false c true place e = ap (λ x. or_at o x place) (both a)
  where
    both : (a : Bool) → ((a && false) && c) ≡ (a && false)
    both true = refl
    both false = refl
called_one o a b c false place e = cc

pub called : (o : Option ℕ) (m : MethodHeader) (class c : ℕ) (n d : List ℕ) (place : ℕ) → is_called_with_object m.flags ≡ true → or_at o ((class == c && bytes_eq m.name n) && bytes_eq m.descriptor d) place ≡ or_at o (class == c && is_virtual n d m) place
called o m class c n d place e = called_one o (class == c) (bytes_eq m.name n) (bytes_eq m.descriptor d) (is_called_with_object m.flags) place e

not_called : (o : Option ℕ) (a b v : Bool) (place : ℕ) → v ≡ false → o ≡ or_at o (a && (b && v)) place
not_called (Some p) a b v place e = refl
not_called None a b true place e = cc
not_called None true true false place e = refl
not_called None true false false place e = refl
not_called None false b false place e = refl

pub other : (o : Option ℕ) (m : MethodHeader) (class c : ℕ) (n d : List ℕ) (place : ℕ) → is_called_with_object m.flags ≡ false → o ≡ or_at o (class == c && is_virtual n d m) place
other o m class c n d place e = not_called o (class == c) (is_method n d m) (is_called_with_object m.flags) place e

-- ---- one class more

differ : (a b : ℕ) → (a ≡ b → ⊥) → (a == b) ≡ false
differ a b f = by (a == b) refl
  where
    by : (t : Bool) → (a == b) ≡ t → t ≡ false
    by true e = absurd (f (same_number a b e))
    by false e = refl

not_here : (b : Bool) (found : Option ℕ) → b ≡ false → None ≡ or_own None b found
not_here true found e = cc
not_here false found e = refl

after_zero : (own : Option ℕ) (b : Bool) (found : Option ℕ) → b ≡ false → own ≡ or_own own b found
after_zero (Some p) b found e = refl
after_zero None true found e = cc
after_zero None false found e = refl

at_more : (own : Header → Option ℕ) (hs : List Header) (h : Header) (c : ℕ) → own_of own (slice_get (hs ++ h ∷ []) c) ≡ or_own (own_of own (slice_get hs c)) (length hs == c) (own h)
at_more own [] h zero = refl
at_more own [] h (suc c) = not_here (0 == suc c) (own h) (differ 0 (suc c) (λ e. omega arith))
at_more own (x ∷ xs) h zero = after_zero (own x) (suc (length xs) == 0) (own h) (differ (suc (length xs)) 0 (λ e. omega arith))
at_more own (x ∷ xs) h (suc c) =
    at_more own xs h c
    ∙ ap (λ b. or_own (own_of own (slice_get xs c)) b (own h)) (equal_tests (length xs == c) (suc (length xs) == suc c)
    (λ e. number_same (suc (length xs)) (suc c) (ap suc (same_number (length xs) c e)))
    (λ e. number_same (length xs) c (let q = same_number (suc (length xs)) (suc c) e in omega arith)))

at_next : (own : Header → Option ℕ) (hs : List Header) (i : ℕ) (h : Header) (c : ℕ) → i < length hs → h ≡ slice_index_or hs i h → or_own (own_of own (slice_get (take i hs) c)) (i == c) (own h) ≡ own_of own (slice_get (take (i + 1) hs) c)
at_next own hs i h c lt is =
    ap (λ n. or_own (own_of own (slice_get (take i hs) c)) (n == c) (own h)) (sym (as_long hs i lt))
    ∙ sym (at_more own (take i hs) h c)
    ∙ ap (λ xs. own_of own (slice_get xs c)) (sym (taken hs i h lt is))

module _ (hs : List Header) (i : ℕ) (h : Header) (old new : MemberIndex) (lt : i < length hs) (is : h ≡ slice_index_or hs i h) where
  class_next : (own : List ℕ → List ℕ → Header → Option ℕ)
      → ((c : ℕ) (n d : List ℕ) → member_in old c n d ≡ own_of (own n d) (slice_get (take i hs) c))
      → ((c : ℕ) (n d : List ℕ) → member_in new c n d ≡ or_own (member_in old c n d) (i == c) (own n d h))
      → (c : ℕ) (n d : List ℕ) → member_in new c n d ≡ own_of (own n d) (slice_get (take (i + 1) hs) c)
  class_next own before added c n d =
      added c n d
      ∙ ap (λ o. or_own o (i == c) (own n d h)) (before c n d)
      ∙ at_next (own n d) hs i h c lt is

  pub class_fields : FindsFields (take i hs) old → ((c : ℕ) (n d : List ℕ) → member_in new c n d ≡ or_own (member_in old c n d) (i == c) (own_field h n d)) → FindsFields (take (i + 1) hs) new
  class_fields before added = class_next (λ n d x. own_field x n d) before added

  pub class_methods : FindsMethods (take i hs) old → ((c : ℕ) (n d : List ℕ) → member_in new c n d ≡ or_own (member_in old c n d) (i == c) (own_method h n d)) → FindsMethods (take (i + 1) hs) new
  class_methods before added = class_next (λ n d x. own_method x n d) before added

  pub class_virtuals : FindsVirtuals (take i hs) old → ((c : ℕ) (n d : List ℕ) → member_in new c n d ≡ or_own (member_in old c n d) (i == c) (own_virtual h n d)) → FindsVirtuals (take (i + 1) hs) new
  class_virtuals before added = class_next (λ n d x. own_virtual x n d) before added
