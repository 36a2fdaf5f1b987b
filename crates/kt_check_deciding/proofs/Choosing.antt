-- Which typing counts, is decided.
use Rattle.std.proofs.Common.{List, [], ◌∷◌, Some, ◌≡◌, refl, ap, sym, subst, Bool, true, false, inl, inr, if◌then◌else◌}
use Rattle.std.specs.Prelude.{◌||◌, ◌&&◌, IsTrue, ◌↔◌, find}
use Rattle.kt_types_tree.specs.Types.{TypeForm}
use Rattle.kt_types_tree.specs.Hierarchy.{HierarchyForm}
use Rattle.kt_types_order.specs.Below.{IsBelow}
use Rattle.kt_types_order.specs.Graph.{ClassesEnd}
use Rattle.kt_types.specs.Kinds.{equatable}
use Rattle.kt_types.specs.Null.{bare}
use Rattle.kt_typed.specs.Bodies.{ExpressionForm}
use Rattle.kt_check_rules.specs.Choices.{IsFirst}
use Rattle.kt_check_rules.specs.Kinds.{type_of, unit_type, is_operand, may_be_null, AreAllBelow, IsCommon}
use Rattle.kt_check_rules.specs.States.{Context, hierarchy}
use Rattle.kt_check_rules.specs.Typings.{Rule, Use, unused, as_value, meeting, Takes, IsTyped, IsChosen}
use Rattle.kt_check_rules.specs.Operators.{is_null, IsBesideNull, AreRelated, AreEquated, AreComparable, HasType}
use Rattle.kt_check_rules.specs.Conditionals.{HasBranchType, MeetsUnit}
use Rattle.kt_check_deciding.specs.Subtypes.{is_below}
use Rattle.kt_check_deciding.specs.Outcomes.{reading, Decision}
use Rattle.kt_check_deciding.specs.Choosing.{meets, taken, typed_by, chosen_by, is_beside_null, are_related, are_equated, are_comparable, all_below, common, type_for, branch_type, meets_unit}
use Rattle.kt_check_deciding.proofs.Tests.{both_true, one_true, left_true, right_true, not_both}
use Rattle.kt_check_deciding.proofs.Subtypes.{below_is}
use Rattle.kt_check_deciding.proofs.Deciding.{is_then, went_on, was_some, is_some, Decides, DecidesAt}

-- the first that passes is the first that is allowed

first_step : {A : Type 0} (P : A → Type 0) (test : A → Bool) (is : (x : A) → IsTrue (test x) ↔ P x) (y : A)
    (ys : List A) (x : A) (b : Bool) → test y ≡ b → (find test ys ≡ Some x → IsFirst P ys x) →
    (if b then Some y else find test ys) ≡ Some x → IsFirst P (y ∷ ys) x
first_step P test is y ys x true f next e = inl ((is y).0 f, cc)
first_step P test is y ys x false f next e = inr ((λ p. not_both (test y) ((is y).1 p) f), next e)

pub first_found : {A : Type 0} (P : A → Type 0) (test : A → Bool) (is : (x : A) → IsTrue (test x) ↔ P x)
    (xs : List A) (x : A) → find test xs ≡ Some x → IsFirst P xs x
first_found P test is [] x e = cc
first_found P test is (y ∷ ys) x e =
    first_step P test is y ys x (test y) refl (λ f. first_found P test is ys x f) e

found_step : {A : Type 0} (P : A → Type 0) (test : A → Bool) (is : (x : A) → IsTrue (test x) ↔ P x) (y : A)
    (ys : List A) (x : A) (b : Bool) → test y ≡ b → (P y → ⊥) → find test ys ≡ Some x →
    (if b then Some y else find test ys) ≡ Some x
found_step P test is y ys x true f n e = absurd (n ((is y).0 f))
found_step P test is y ys x false f n e = e

pub first_is : {A : Type 0} (P : A → Type 0) (test : A → Bool) (is : (x : A) → IsTrue (test x) ↔ P x)
    (xs : List A) (x : A) → IsFirst P xs x → find test xs ≡ Some x
first_is P test is [] x p = absurd p
first_is P test is (y ∷ ys) x (inl p) = rw ((is y).1 p.0, p.1) refl
first_is P test is (y ∷ ys) x (inr p) =
    found_step P test is y ys x (test y) refl p.0 (first_is P test is ys x p.1)

module _ (h : HierarchyForm) (ends : ClassesEnd h) where
  pub meets_is : (t : TypeForm) (u : ExpressionForm) → IsTrue (meets h t u) ↔ IsBelow h (type_of u) t
  meets_is t u = below_is h ends (type_of u) t

  pub all_below_is : (ts : List TypeForm) (t : TypeForm) → IsTrue (all_below h ts t) ↔ AreAllBelow h ts t
  all_below_is [] t = ((λ e. tt), (λ p. refl))
  all_below_is (s ∷ ss) t = (
    (λ e. let b = both_true (is_below h s t) (all_below h ss t) e in
        ((below_is h ends s t).0 b.0, (all_below_is ss t).0 b.1)),
    (λ p. rw ((below_is h ends s t).1 p.0, (all_below_is ss t).1 p.1) refl),
  )

  pub common_found : (ts : List TypeForm) (t : TypeForm) → common h ts ≡ Some t → IsCommon h ts t
  common_found ts t e = first_found (AreAllBelow h ts) (all_below h ts) (all_below_is ts) ts t e

  pub common_is : (ts : List TypeForm) (t : TypeForm) → IsCommon h ts t → common h ts ≡ Some t
  common_is ts t p = first_is (AreAllBelow h ts) (all_below h ts) (all_below_is ts) ts t p

  related_is : (s t : TypeForm) → IsTrue (are_related h s t) ↔ AreRelated h s t
  related_is s t = (to, from)
    where
      to : are_related h s t ≡ true → AreRelated h s t
      to e = elim (one_true (is_below h (bare s) (bare t)) (is_below h (bare t) (bare s)) e) [
        | inl f ↦ inl ((below_is h ends (bare s) (bare t)).0 f)
        | inr f ↦ inr ((below_is h ends (bare t) (bare s)).0 f)
      ]

      from : AreRelated h s t → are_related h s t ≡ true
      from (inl p) =
          left_true (is_below h (bare s) (bare t)) (is_below h (bare t) (bare s))
          ((below_is h ends (bare s) (bare t)).1 p)
      from (inr p) =
          right_true (is_below h (bare s) (bare t)) (is_below h (bare t) (bare s))
          ((below_is h ends (bare t) (bare s)).1 p)

  equated_is : (u v : ExpressionForm) → IsTrue (are_equated h u v) ↔ AreEquated h u v
  equated_is u v = (
    (λ e. let b = both_true (equatable h (type_of u) && is_operand (type_of v))
        (are_related h (type_of u) (type_of v)) e in (b.0, (related_is (type_of u) (type_of v)).0 b.1)),
    (λ p. rw (p.0, (related_is (type_of u) (type_of v)).1 p.1) refl),
  )

  beside_is : (u v : ExpressionForm) → IsTrue (is_beside_null h u v) ↔ IsBesideNull h u v
  beside_is u v = ((λ e. both_true (is_null u) (may_be_null h (type_of v)) e), (λ p. rw (p.0, p.1) refl))

  pub comparable_is : (p : ExpressionForm × ExpressionForm) → IsTrue (are_comparable h p) ↔ AreComparable h p
  comparable_is (u, v) = (to, from)
    where
      to : are_comparable h (u, v) ≡ true → AreComparable h (u, v)
      to e = elim (one_true (is_beside_null h u v || is_beside_null h v u) (are_equated h u v) e) [
        | inl f ↦ elim (one_true (is_beside_null h u v) (is_beside_null h v u) f) [
          | inl g ↦ inl (inl ((beside_is u v).0 g))
          | inr g ↦ inl (inr ((beside_is v u).0 g))
        ]
        | inr f ↦ inr ((equated_is u v).0 f)
      ]

      from : AreComparable h (u, v) → are_comparable h (u, v) ≡ true
      from (inl (inl p)) =
          left_true (is_beside_null h u v || is_beside_null h v u) (are_equated h u v)
          (left_true (is_beside_null h u v) (is_beside_null h v u) ((beside_is u v).1 p))
      from (inl (inr p)) =
          left_true (is_beside_null h u v || is_beside_null h v u) (are_equated h u v)
          (right_true (is_beside_null h u v) (is_beside_null h v u) ((beside_is v u).1 p))
      from (inr p) =
          right_true (is_beside_null h u v || is_beside_null h v u) (are_equated h u v) ((equated_is u v).1 p)

module _ (K : Context) (ends : ClassesEnd (hierarchy K)) where
  takes_found : (w : Use) (us : List ExpressionForm) (u : ExpressionForm) → taken K w us ≡ Some u → Takes K w us u
  takes_found unused us u e = e
  takes_found as_value us u e = e
  takes_found (meeting t) us u e =
      first_found (λ v. IsBelow (hierarchy K) (type_of v) t) (meets (hierarchy K) t) (meets_is (hierarchy K) ends t) us u
      e

  takes_is : (w : Use) (us : List ExpressionForm) (u : ExpressionForm) → Takes K w us u → taken K w us ≡ Some u
  takes_is unused us u p = p
  takes_is as_value us u p = p
  takes_is (meeting t) us u p =
      first_is (λ v. IsBelow (hierarchy K) (type_of v) t) (meets (hierarchy K) t) (meets_is (hierarchy K) ends t) us u p

  pub typed_decided : (e : Rule) (d : Decision (List ExpressionForm)) → Decides e d →
      Decides (IsTyped K e) (typed_by K d)
  typed_decided e d i = record {
    sound = λ s w r f.
        let x = went_on (d s w) _ r f in
        let y = was_some (taken K w x.0.value) x.0.behind r x.1.1 in
        record {
          typings = x.0.value;
          reads = subst (λ z. e s w x.0.value z) (sym y.1) (i.sound s w x.0 x.1.0);
          takes = takes_found w x.0.value r.value y.0;
        };
    tells = λ s w u b y.
        is_then (d s w) (reading y.typings b) _ _ (i.tells s w y.typings b y.reads)
        (is_some (taken K w y.typings) b u (takes_is w y.typings u y.takes));
  }

  pub chosen_decided : (test : ExpressionForm → Bool) (e : Rule) (d : Decision (List ExpressionForm)) →
      Decides e d → DecidesAt (IsChosen test e) (chosen_by test d)
  chosen_decided test e d i = record {
    sound = λ s r f.
        let x = went_on (d s as_value) _ r f in
        let y = was_some (find test x.0.value) x.0.behind r x.1.1 in
        record { typings = x.0.value; reads = subst (λ z. e s as_value x.0.value z) (sym y.1) (i.sound s as_value x.0 x.1.0); takes = y.0 };
    tells = λ s u b y.
        is_then (d s as_value) (reading y.typings b) _ _ (i.tells s as_value y.typings b y.reads)
        (is_some (find test y.typings) b u y.takes);
  }

  pub type_found : (w : Use) (ts : List TypeForm) (t : TypeForm) → type_for K w ts ≡ Some t → HasType K w ts t
  type_found (meeting s) ts t e = cc
  type_found as_value ts t e = common_found (hierarchy K) ends ts t e
  type_found unused ts t e = common_found (hierarchy K) ends ts t e

  pub type_is : (w : Use) (ts : List TypeForm) (t : TypeForm) → HasType K w ts t → type_for K w ts ≡ Some t
  type_is (meeting s) ts t p = ap Some (sym p)
  type_is as_value ts t p = common_is (hierarchy K) ends ts t p
  type_is unused ts t p = common_is (hierarchy K) ends ts t p

  pub branch_found : (w : Use) (ts : List TypeForm) (t : TypeForm) → branch_type K w ts ≡ Some t →
      HasBranchType K w ts t
  branch_found unused ts t e = cc
  branch_found as_value ts t e = common_found (hierarchy K) ends ts t e
  branch_found (meeting s) ts t e = cc

  pub branch_is : (w : Use) (ts : List TypeForm) (t : TypeForm) → HasBranchType K w ts t →
      branch_type K w ts ≡ Some t
  branch_is unused ts t p = ap Some (sym p)
  branch_is as_value ts t p = common_is (hierarchy K) ends ts t p
  branch_is (meeting s) ts t p = ap Some (sym p)

  pub unit_met : (w : Use) → meets_unit K w ≡ true → MeetsUnit K w
  unit_met (meeting t) e = (below_is (hierarchy K) ends unit_type t).0 e
  unit_met as_value e = tt
  unit_met unused e = tt

  pub unit_is : (w : Use) → MeetsUnit K w → meets_unit K w ≡ true
  unit_is (meeting t) p = (below_is (hierarchy K) ends unit_type t).1 p
  unit_is as_value p = refl
  unit_is unused p = refl
