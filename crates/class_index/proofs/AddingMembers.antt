-- What is found when a member is added.
use Rattle.std.proofs.Common.{ℕ, ◌≤◌, Bool, true, false, ◌≡◌, refl, sym, ap, subst, ◌∙◌, List, Option, Some, None, arith, rules}
use Rattle.std.specs.Prelude.{bytes_eq, ◌==◌, ◌&&◌, cond, is_some}
use Rattle.std.specs.Ordering.{nat_cmp, is_eq, ordering_then}
use Rattle.std.specs.declared.cmp.Ordering.{Ordering}
use Rattle.std.specs.declared.cmp.Ordering.TheVariants.{Less, Equal, Greater}
use Rattle.std.specs.BTreeMap.{BTreeMap, Updates, get}
use Rattle.std.proofs.lemmas.Slice.Eq.{bytes_eq-Decides}
use Rattle.class_index.proofs.Tests.{equal_tests, number_same, same_number}
use Rattle.class_index.specs.declared.texts.TextIndex.{TextIndex}
use Rattle.class_index.specs.declared.members.MemberIndex.{MemberIndex}
use Rattle.class_index.specs.declared.members.MemberKey.{MemberKey}
use Rattle.class_index.specs.Texts.{IsNumbered, how_many, number_in, or_at}
use Rattle.class_index.specs.Members.{IsWhole, PutsPlace, key_of, member_in, place_in, then_place, triple_order}

some_same : (i j : ℕ) → Some i ≡ Some j → i ≡ j
some_same i j h = cc

none_at : (o : Option ℕ) → ((p : ℕ) → o ≡ Some p → ⊥) → o ≡ None
none_at None f = refl
none_at (Some p) f = absurd (f p refl)

false_test : (b : Bool) → (b ≡ true → ⊥) → b ≡ false
false_test true f = absurd (f refl)
false_test false f = refl

never : (b c : Bool) (place : ℕ) → b ≡ false → None ≡ or_at None (c && b) place
never true c place e = cc
never false true place e = refl
never false false place e = refl

module _ (old : MemberIndex) (whole : IsWhole old) (one two : TextIndex) (name descriptor : List ℕ) (x y : ℕ) (first : IsNumbered name old.texts one x) (second : IsNumbered descriptor one two y) where
  kept : (t : List ℕ) (n : ℕ) → number_in old.texts t ≡ Some n → number_in two t ≡ Some n
  kept t n h = second.kept t n (first.kept t n h)

  fresh : (t : List ℕ) (n : ℕ) → number_in old.texts t ≡ None → number_in two t ≡ Some n → how_many old.texts ≤ n
  fresh t n h e = by_middle (number_in one t) refl
    where
      by_middle : (o : Option ℕ) → number_in one t ≡ o → how_many old.texts ≤ n
      by_middle None q =
          let m : how_many one ≤ n = second.fresh t n q e in
          let g : how_many old.texts ≤ how_many one = first.grown in omega arith
      by_middle (Some k) q = first.fresh t n h (q ∙ ap Some (some_same k n (sym (second.kept t k q) ∙ e)))

  -- texts that are given numbers change nothing
  same_before : (c : ℕ) (n d : List ℕ) → member_in old c n d ≡ then_place old c (key_of (number_in two n) (number_in two d))
  same_before c n d = by_name (number_in old.texts n) refl
    where
      no_name : (o r : Option ℕ) → number_in two n ≡ o → number_in old.texts n ≡ None → None ≡ then_place old c (key_of o r)
      no_name None r e h = refl
      no_name (Some i) None e h = refl
      no_name (Some i) (Some j) e h =
          let le = fresh n i h e in
          sym (none_at (get triple_order old.places (c, i, j)) (λ p q. let lt = whole.names c i j p q in omega arith))

      no_descriptor : (i : ℕ) (r : Option ℕ) → number_in two d ≡ r → number_in old.texts d ≡ None → None ≡ then_place old c (key_of (Some i) r)
      no_descriptor i None e h = refl
      no_descriptor i (Some j) e h =
          let le = fresh d j h e in
          sym (none_at (get triple_order old.places (c, i, j)) (λ p q. let lt = whole.descriptors c i j p q in omega arith))

      by_descriptor : (i : ℕ) (r : Option ℕ) → number_in old.texts d ≡ r → then_place old c (key_of (Some i) r) ≡ then_place old c (key_of (Some i) (number_in two d))
      by_descriptor i None e = no_descriptor i (number_in two d) refl e
      by_descriptor i (Some j) e = ap (λ s. then_place old c (key_of (Some i) s)) (sym (kept d j e))

      by_name : (o : Option ℕ) → number_in old.texts n ≡ o → then_place old c (key_of o (number_in old.texts d)) ≡ then_place old c (key_of (number_in two n) (number_in two d))
      by_name None e = no_name (number_in two n) (number_in two d) refl e
      by_name (Some i) e =
          by_descriptor i (number_in old.texts d) refl
          ∙ ap (λ s. then_place old c (key_of s (number_in two d))) (sym (kept n i e))

  tells : (t text : List ℕ) (i z : ℕ) → number_in two text ≡ Some z → number_in two t ≡ Some i → (z == i) ≡ bytes_eq text t
  tells t text i z h e = equal_tests (z == i) (bytes_eq text t)
      (λ q. (bytes_eq-Decides text t).1 (second.numbering.once text t z h (e ∙ ap Some (sym (same_number z i q)))))
      (λ q. number_same z i (some_same z i (sym h ∙ (subst (λ u. number_in two u ≡ Some i) (sym ((bytes_eq-Decides text t).0 q)) e))))

  isn't : (t text : List ℕ) (z : ℕ) → number_in two text ≡ Some z → number_in two t ≡ None → bytes_eq text t ≡ false
  isn't t text z h e = false_test (bytes_eq text t) (λ q.
      let s : number_in two text ≡ None = subst (λ u. number_in two u ≡ None) (sym ((bytes_eq-Decides text t).0 q)) e in cc)

  module _ (new : MemberIndex) (class place : ℕ) (puts : PutsPlace (record { texts = two; places = old.places }) new class (record { name = x; descriptor = y }) place) where
    after : (c : ℕ) (n d : List ℕ) (o r : Option ℕ) → number_in two n ≡ o → number_in two d ≡ r → then_place new c (key_of o r) ≡ or_at (then_place old c (key_of o r)) ((class == c && bytes_eq name n) && bytes_eq descriptor d) place
    after c n d None r e h = lost (bytes_eq name n) (isn't n name x (second.kept name x first.here) e)
      where
        lost : (b : Bool) → b ≡ false → None ≡ or_at None ((class == c && b) && bytes_eq descriptor d) place
        lost true q = cc
        lost false q = gone (class == c) (bytes_eq descriptor d)
          where
            gone : (p s : Bool) → None ≡ or_at None ((p && false) && s) place
            gone true s = refl
            gone false s = refl
    after c n d (Some i) None e h = never (bytes_eq descriptor d) (class == c && bytes_eq name n) place (isn't d descriptor y second.here h)
    after c n d (Some i) (Some j) e h =
        puts.places c i j
        ∙ ap (λ b. or_at (get triple_order old.places (c, i, j)) ((class == c && b) && (y == j)) place) (tells n name i x (second.kept name x first.here) e)
        ∙ ap (λ b. or_at (get triple_order old.places (c, i, j)) ((class == c && bytes_eq name n) && b) place) (tells d descriptor j y second.here h)

    pub member_added : (c : ℕ) (n d : List ℕ) → member_in new c n d ≡ or_at (member_in old c n d) ((class == c && bytes_eq name n) && bytes_eq descriptor d) place
    member_added c n d =
        ap (λ t. then_place new c (key_of (number_in t n) (number_in t d))) puts.texts
        ∙ after c n d (number_in two n) (number_in two d) refl refl
        ∙ ap (λ o. or_at o ((class == c && bytes_eq name n) && bytes_eq descriptor d) place) (sym (same_before c n d))

-- ---- places

both_equal : (a b : Ordering) → is_eq (ordering_then a b) ≡ (is_eq a && is_eq b)
both_equal Less b = refl
both_equal Equal b = refl
both_equal Greater b = refl

numbers_tie : (n m : ℕ) → is_eq (nat_cmp n m) ≡ (n == m)
numbers_tie n m = search rules

triples_tie : (c n d e m f : ℕ) → is_eq (triple_order (c, n, d) (e, m, f)) ≡ ((c == e && n == m) && d == f)
triples_tie c n d e m f =
    both_equal (ordering_then (nat_cmp c e) (nat_cmp n m)) (nat_cmp d f)
    ∙ ap (λ b. b && is_eq (nat_cmp d f)) (both_equal (nat_cmp c e) (nat_cmp n m))
    ∙ (λ i. (numbers_tie c e i && numbers_tie n m i) && numbers_tie d f i)

chosen : (b : Bool) (o : Option ℕ) (place : ℕ) → (b ≡ true → o ≡ None) → cond b (Some place) o ≡ or_at o b place
chosen true (Some p) place f = let e : Some p ≡ None = f refl in cc
chosen true None place f = refl
chosen false (Some p) place f = refl
chosen false None place f = refl

no_change : (o : Option ℕ) (b : Bool) (place : ℕ) → (b ≡ true → is_some o ≡ true) → o ≡ or_at o b place
no_change (Some p) b place f = refl
no_change None true place f = let e : false ≡ true = f refl in cc
no_change None false place f = refl

three_same : (c n d e m f : ℕ) → ((c == e && n == m) && d == f) ≡ true → (P : ℕ → ℕ → ℕ → Type 0) → P c n d → P e m f
three_same c n d e m f h P p =
    let one = both_true (c == e && n == m) (d == f) h in
    let two = both_true (c == e) (n == m) one.0 in
    subst (λ z. P e m z) (same_number d f one.1)
    (subst (λ z. P e z d) (same_number n m two.1) (subst (λ z. P z n d) (same_number c e two.0) p))
  where
    both_true : (a b : Bool) → (a && b) ≡ true → (a ≡ true) × (b ≡ true)
    both_true true b q = (refl, q)
    both_true false b q = cc

pub puts : (old : MemberIndex) (places : BTreeMap (ℕ × ℕ × ℕ) ℕ) (class : ℕ) (key : MemberKey) (place : ℕ) → place_in old class key ≡ None → Updates triple_order old.places places (class, key.name, key.descriptor) (Some place) → PutsPlace old (record { texts = old.texts; places = places }) class key place
puts old places class key place absent u = record {
  texts = refl;
  places = λ c n d.
      u.0 (c, n, d)
      ∙ ap (λ b. cond b (Some place) (get triple_order old.places (c, n, d))) (triples_tie class key.name key.descriptor c n d)
      ∙ chosen ((class == c && key.name == n) && key.descriptor == d) (get triple_order old.places (c, n, d)) place
      (λ e. three_same class key.name key.descriptor c n d e (λ x y z. get triple_order old.places (x, y, z) ≡ None) absent);
}

pub keeps : (old : MemberIndex) (class : ℕ) (key : MemberKey) (place : ℕ) → is_some (place_in old class key) ≡ true → PutsPlace old old class key place
keeps old class key place there = record {
  texts = refl;
  places = λ c n d.
      no_change (get triple_order old.places (c, n, d)) ((class == c && key.name == n) && key.descriptor == d) place
      (λ e. three_same class key.name key.descriptor c n d e (λ x y z. is_some (get triple_order old.places (x, y, z)) ≡ true) there);
}
