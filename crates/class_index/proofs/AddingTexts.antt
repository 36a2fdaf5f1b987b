-- What texts have when one is given a number.
use Rattle.std.proofs.Common.{ℕ, ◌+◌, Bool, true, false, ◌≡◌, refl, sym, ap, subst, ◌∙◌, List, Option, Some, None}
use Rattle.std.specs.Prelude.{bytes_eq, cond, is_some, if◌then◌else◌}
use Rattle.std.specs.Ordering.{nat_cmp, is_eq, eq_by_cmp}
use Rattle.std.specs.Cmp.Lexicographic.{slice_cmp}
use Rattle.std.specs.BTreeMap.{Updates, get}
use Rattle.std.specs.Global.{Vec}
use Rattle.std.specs.Map.{lookup, IsKeyTest, AreApart, KeepsOthers}
use Rattle.std.proofs.lemmas.Cmp.{eq_by_cmp_equiv, nat_list_cmp_total, nat_list_eq_equiv}
use Rattle.std.proofs.lemmas.Map.Text.{is_eq-slice_cmp}
use Rattle.std.proofs.lemmas.Slice.Eq.{bytes_eq-Decides}
use Rattle.class_index.specs.declared.texts.TextIndex.{TextIndex}
use Rattle.class_index.specs.Texts.{Adds, how_many, number_in, or_at}

apart : (a b k : List ℕ) → bytes_eq a b ≡ false → is_eq (slice_cmp nat_cmp a k) ≡ true → is_eq (slice_cmp nat_cmp b k) ≡ false
apart a b k n y =
    is_eq-slice_cmp b k ∙ nat_list_eq_equiv.symm b k
    ∙ sym (nat_list_eq_equiv.congr a k b (sym (is_eq-slice_cmp a k) ∙ y)) ∙ n

module _ {K X : Type 0} (eq : K → K → Bool) (test : K → Bool) where
  others : (old new : List (K × X)) → KeepsOthers eq test old new → (other : K → Bool) → IsKeyTest eq other → AreApart test other → lookup other new ≡ lookup other old
  unfolding KeepsOthers
  others old new h = h

chosen : (o : Option ℕ) (here : Bool) (number : ℕ) → o ≡ None → cond here (Some number) o ≡ or_at o here number
chosen (Some n) here number e = cc
chosen None true number e = refl
chosen None false number e = refl

kept : (o : Option ℕ) (number : ℕ) → o ≡ or_at o false number
kept (Some n) number = refl
kept None number = refl

module _ (text : List ℕ) (number : ℕ) (old new : TextIndex) (key : Vec ℕ) (is : key.items ≡ text) (absent : number_in old text ≡ None) where
  each : Updates (λ x y. slice_cmp nat_cmp x.items y.items) old.numbers new.numbers key (Some number) → (t : List ℕ) → number_in new t ≡ or_at (number_in old t) (bytes_eq text t) number
  each u t = by_test (bytes_eq text t) refl
    where
      here : number_in new text ≡ Some number
      here = subst (λ x. number_in new x ≡ Some number) is u.1

      by_test : (b : Bool) → bytes_eq text t ≡ b → number_in new t ≡ or_at (number_in old t) b number
      by_test true e =
          let same : text ≡ t = (bytes_eq-Decides text t).0 e in
          subst (λ x. number_in new x ≡ or_at (number_in old x) true number) same
          (here ∙ sym (ap (λ o. or_at o true number) absent))
      by_test false e =
          others (eq_by_cmp (λ x y. slice_cmp nat_cmp x.items y.items)) _ old.numbers.entries new.numbers.entries u.3
          (λ k. is_eq (slice_cmp nat_cmp t k.items))
          (λ x y. (eq_by_cmp_equiv nat_list_cmp_total).congr t x.items y.items)
          (λ k. apart key.items t k.items (rw is e))
          ∙ kept (number_in old t) number

  pub adds : Updates (λ x y. slice_cmp nat_cmp x.items y.items) old.numbers new.numbers key (Some number) → (before : Option ℕ) → before ≡ get (λ x y. slice_cmp nat_cmp x.items y.items) old.numbers key → how_many new ≡ how_many old + (if is_some before then 0 else 1) → Adds text number old new
  adds u before was more = record {
    each = each u;
    more = more ∙ ap (λ b. how_many old + (if is_some b then 0 else 1)) (was ∙ subst (λ x. number_in old x ≡ None) (sym is) absent);
  }
