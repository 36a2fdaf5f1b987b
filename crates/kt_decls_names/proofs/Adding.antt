-- What a set of names has after one is added.
use Rattle.std.specs.Prelude.{ℕ, Bool, true, false, List, ◌≡◌, ◌||◌, ◌&&◌, ◌==◌, refl, cond}
use Rattle.std.proofs.Common.{rules, ap, sym, ◌∙◌}
use Rattle.std.specs.declared.cmp.Ordering.{Ordering}
use Rattle.std.specs.declared.cmp.Ordering.TheVariants.{Less, Equal, Greater}
use Rattle.std.specs.Ordering.{nat_cmp, ordering_then, is_eq}
use Rattle.std.specs.BTreeSet.{BTreeSet, contains, Updates}
use Rattle.std.specs.Cmp.Lexicographic.{texts_ties}
use Rattle.kt_decls_rules.specs.Names.{Taken, a_type, a_function, a_value, clash, is_name}
use Rattle.kt_decls_names.specs.Taken.{name_order, pair_order, is_taken}
use Rattle.kt_decls_names.specs.declared.taken.TakenNames.{TakenNames}

or_else : (b c : Bool) → cond b true c ≡ (b || c)
or_else true c = refl
or_else false c = refl

swapped : (a b c : Bool) → (a || (b || c)) ≡ (b || (a || c))
swapped true true c = refl
swapped true false c = refl
swapped false b c = refl

grouped : (a b c : Bool) → ((a || b) || c) ≡ (a || (b || c))
grouped true b c = refl
grouped false b c = refl

both_equal : (a b : Ordering) → is_eq (ordering_then a b) ≡ (is_eq a && is_eq b)
both_equal Less b = refl
both_equal Equal b = refl
both_equal Greater b = refl

numbers_tie : (n m : ℕ) → is_eq (nat_cmp n m) ≡ (n == m)
numbers_tie n m = search rules

pub name_added : (old new : BTreeSet (List ℕ)) (k x : List ℕ) → k ≡ x → Updates name_order old new k true → (q : List ℕ) → contains name_order new q ≡ (is_name x q || contains name_order old q)
name_added old new k x e u q =
    u.0 q ∙ (or_else (is_eq (name_order k q)) (contains name_order old q) ∙ (λ i. names_same q i || contains name_order old q))
  where
    names_same : (q : List ℕ) → is_eq (name_order k q) ≡ is_name x q
    names_same q = sym (texts_ties k q) ∙ ap (λ y. is_name y q) e

pub pair_added : (old new : BTreeSet (List ℕ × ℕ)) (k x : List ℕ) (n : ℕ) → k ≡ x → Updates pair_order old new (k, n) true → (q : List ℕ) (m : ℕ) → contains pair_order new (q, m) ≡ ((is_name x q && n == m) || contains pair_order old (q, m))
pair_added old new k x n e u q m =
    u.0 (q, m) ∙ (or_else (is_eq (pair_order (k, n) (q, m))) (contains pair_order old (q, m)) ∙ (λ i. pairs_same i || contains pair_order old (q, m)))
  where
    numbers_same : is_eq (nat_cmp n m) ≡ (n == m)
    numbers_same = numbers_tie n m

    pairs_same : is_eq (pair_order (k, n) (q, m)) ≡ (is_name x q && n == m)
    pairs_same = both_equal (name_order k q) (nat_cmp n m) ∙ (λ i. (sym (texts_ties k q) ∙ ap (λ y. is_name y q) e) i && numbers_same i)

pub type_taken :
    (names : TakenNames) (types : BTreeSet (List ℕ)) (k x : List ℕ) →
    k ≡ x →
    Updates name_order names.types types k true →
    (t : Taken) →
    is_taken (record names { types = types }) t ≡ (clash t (a_type x) || is_taken names t)
type_taken names types k x e u (a_type q) = name_added names.types types k x e u q
type_taken names types k x e u (a_function q m) = refl
type_taken names types k x e u (a_value q) = refl

pub value_taken :
    (names : TakenNames) (values : BTreeSet (List ℕ)) (k x : List ℕ) →
    k ≡ x →
    Updates name_order names.values values k true →
    (t : Taken) →
    is_taken (record names { values = values }) t ≡ (clash t (a_value x) || is_taken names t)
value_taken names values k x e u (a_type q) = refl
value_taken names values k x e u (a_function q m) =
    ap (λ b. contains pair_order names.functions (q, m) || b) (name_added names.values values k x e u q)
    ∙ swapped (contains pair_order names.functions (q, m)) (is_name x q) (contains name_order names.values q)
value_taken names values k x e u (a_value q) =
    ap (λ b. contains name_order names.function_names q || b) (name_added names.values values k x e u q)
    ∙ swapped (contains name_order names.function_names q) (is_name x q) (contains name_order names.values q)

pub function_taken :
    (names : TakenNames) (functions : BTreeSet (List ℕ × ℕ)) (function_names : BTreeSet (List ℕ)) (k j x : List ℕ) (n : ℕ) →
    k ≡ x →
    j ≡ x →
    Updates pair_order names.functions functions (k, n) true →
    Updates name_order names.function_names function_names j true →
    (t : Taken) →
    is_taken (record names { functions = functions; function_names = function_names }) t ≡ (clash t (a_function x n) || is_taken names t)
function_taken names functions function_names k j x n e d u v (a_type q) = refl
function_taken names functions function_names k j x n e d u v (a_function q m) =
    ap (λ b. b || contains name_order names.values q) (pair_added names.functions functions k x n e u q m)
    ∙ grouped (is_name x q && n == m) (contains pair_order names.functions (q, m)) (contains name_order names.values q)
function_taken names functions function_names k j x n e d u v (a_value q) =
    ap (λ b. b || contains name_order names.values q) (name_added names.function_names function_names j x d v q)
    ∙ grouped (is_name x q) (contains name_order names.function_names q) (contains name_order names.values q)
