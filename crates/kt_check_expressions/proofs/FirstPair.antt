-- The first of all pairs.
use Rattle.std.proofs.Common.{ℕ, ◌+◌, ◌<◌, List, [], ◌∷◌, ◌++◌, Option, Some, None, ◌≡◌, refl, ◌∙◌, ap, sym, map, length, drop, get_or}
use Rattle.std.proofs.lemmas.List.{drop_more}
use Rattle.std.specs.Prelude.{option_map, find, if◌then◌else◌, Bool, true, false}
use Rattle.std.specs.List.{flat_map}
use Rattle.kt_tree.specs.declared.bodies.BinaryOperator.{BinaryOperator}
use Rattle.kt_types_tree.specs.declared.types.KtType.{KtType}
use Rattle.kt_types_tree.specs.Types.{TypeForm, type_form}
use Rattle.kt_types_tree.specs.Hierarchy.{HierarchyForm}
use Rattle.kt_check_rules.specs.Choices.{first_some, or_else, pairs}
use Rattle.kt_check_expressions.specs.Types.{OperandTypes, operated, operated_pair}

or_else_assoc : {A : Type 0} (a b c : Option A) → or_else a (or_else b c) ≡ or_else (or_else a b) c
or_else_assoc (Some a) b c = refl
or_else_assoc None b c = refl

first_append : {A B : Type 0} (give : A → Option B) (xs ys : List A) →
    first_some give (xs ++ ys) ≡ or_else (first_some give xs) (first_some give ys)
first_append give [] ys = refl
first_append give (x ∷ xs) ys =
    ap (or_else (give x)) (first_append give xs ys)
    ∙ or_else_assoc (give x) (first_some give xs) (first_some give ys)

pub first_map : {A B C : Type 0} (give : B → Option C) (f : A → B) (xs : List A) →
    first_some give (map f xs) ≡ first_some (λ x. give (f x)) xs
first_map give f [] = refl
first_map give f (x ∷ xs) = ap (or_else (give (f x))) (first_map give f xs)

module _ (h : HierarchyForm) (k : BinaryOperator) where
  first_pair : (s : TypeForm) (ss ts : List TypeForm) →
      first_some (operated_pair h k) (pairs (s ∷ ss) ts)
      ≡ or_else (first_some (operated h k s) ts) (first_some (operated_pair h k) (pairs ss ts))
  first_pair s ss ts =
      first_append (operated_pair h k) (map (λ t. (s, t)) ts) (pairs ss ts)
      ∙ ap (λ o. or_else o (first_some (operated_pair h k) (pairs ss ts)))
      (first_map (operated_pair h k) (λ t. (s, t)) ts)

  pub first_left : (s : TypeForm) (ss ts : List TypeForm) (o : OperandTypes) →
      first_some (operated h k s) ts ≡ Some o → first_some (operated_pair h k) (pairs (s ∷ ss) ts) ≡ Some o
  first_left s ss ts o e =
      first_pair s ss ts ∙ ap (λ p. or_else p (first_some (operated_pair h k) (pairs ss ts))) e

  pub not_first_left : (s : TypeForm) (ss ts : List TypeForm) →
      first_some (operated h k s) ts ≡ None →
      first_some (operated_pair h k) (pairs (s ∷ ss) ts) ≡ first_some (operated_pair h k) (pairs ss ts)
  not_first_left s ss ts e =
      first_pair s ss ts ∙ ap (λ p. or_else p (first_some (operated_pair h k) (pairs ss ts))) e

  -- at a place of the left types
  left_at : (ls : List KtType) (i : ℕ) (x : KtType) → i < length ls → x ≡ get_or ls i x →
      map type_form (drop i ls) ≡ type_form x ∷ map type_form (drop (i + 1) ls)
  left_at ls i x less is = ap (map type_form) (drop_more ls i x less ∙ ap (λ y. y ∷ drop (i + 1) ls) (sym is))

  pub some_at : (ls : List KtType) (rs : List TypeForm) (i : ℕ) (x : KtType) (o : OperandTypes) → i < length ls →
      x ≡ get_or ls i x → first_some (operated h k (type_form x)) rs ≡ Some o →
      first_some (operated_pair h k) (pairs (map type_form (drop i ls)) rs) ≡ Some o
  some_at ls rs i x o less is e =
      ap (λ ss. first_some (operated_pair h k) (pairs ss rs)) (left_at ls i x less is)
      ∙ first_left (type_form x) (map type_form (drop (i + 1) ls)) rs o e

  pub none_at : (ls : List KtType) (rs : List TypeForm) (i : ℕ) (x : KtType) → i < length ls →
      x ≡ get_or ls i x → first_some (operated h k (type_form x)) rs ≡ None →
      first_some (operated_pair h k) (pairs (map type_form (drop i ls)) rs)
      ≡ first_some (operated_pair h k) (pairs (map type_form (drop (i + 1) ls)) rs)
  none_at ls rs i x less is e =
      ap (λ ss. first_some (operated_pair h k) (pairs ss rs)) (left_at ls i x less is)
      ∙ not_first_left (type_form x) (map type_form (drop (i + 1) ls)) rs e
