-- What is found in one part or in another.
use Rattle.std.proofs.Common.{◌≡◌, ◌∙◌, ◌<◌, ◌≤◌, ◌+◌, ℕ, Bool, true, false, List, [], ◌∷◌, ◌++◌, ◌||◌, length, get_or, drop, subst, refl, sym, ap}
use Rattle.std.proofs.lemmas.List.{append_assoc, drop_more, drop_all}
use Rattle.kt_base.specs.declared.refusals.Pos.{Pos}
use Rattle.kt_typed.specs.Bodies.{FunForm}
use Rattle.kt_typed.specs.Order.{Found, a_lambda, a_point, point_if}
use Rattle.kt_meaning.specs.Variables.{takes, is_shared_in}
use Rattle.kt_typed.specs.Order.{found_in_body}
use Rattle.kt_direct_lambdas.specs.Taking.{is_taken_in, Partly}

pub taken_in_none : (n : ℕ) → is_taken_in n [] ≡ false
unfolding is_taken_in
taken_in_none n = refl

pub taken_in_both : (n : ℕ) (xs ys : List Found) → is_taken_in n (xs ++ ys) ≡ is_taken_in n xs || is_taken_in n ys
unfolding is_taken_in
taken_in_both n [] ys = refl
taken_in_both n (a_lambda k f ∷ xs) ys =
    ap (λ b. takes n f || b) (taken_in_both n xs ys) ∙ or_back (takes n f) (is_taken_in n xs) (is_taken_in n ys)
  where
    or_back : (a b c : Bool) → a || (b || c) ≡ (a || b) || c
    or_back true b c = refl
    or_back false b c = refl
taken_in_both n (a_point at ∷ xs) ys = taken_in_both n xs ys

pub both_taken : (n : ℕ) (xs ys : List Found) (a b : Bool) → a ≡ is_taken_in n xs → b ≡ is_taken_in n ys
    → a || b ≡ is_taken_in n (xs ++ ys)
both_taken n xs ys a b p q =
    ap (λ c. c || b) p ∙ (ap (λ c. is_taken_in n xs || c) q ∙ sym (taken_in_both n xs ys))

pub taken_in_lambda : (n k : ℕ) (f : FunForm) → is_taken_in n (a_lambda k f ∷ []) ≡ takes n f
unfolding is_taken_in
taken_in_lambda n k f = last (takes n f)
  where
    last : (b : Bool) → b || false ≡ b
    last true = refl
    last false = refl

pub taken_in_point : (n : ℕ) (b : Bool) (at : Pos) → is_taken_in n (point_if b at) ≡ false
unfolding is_taken_in
taken_in_point n true at = refl
taken_in_point n false at = refl

pub shared_is : (f : FunForm) (n : ℕ) → is_shared_in f n ≡ is_taken_in n (found_in_body f)
unfolding is_taken_in
shared_is f n = refl

partly_on : (n : ℕ) (done : Bool) (first rest whole : List Found) (more : Bool) → Partly n done (first ++ rest) whole
    → ((xs : List Found) → done ≡ is_taken_in n xs → more ≡ is_taken_in n (xs ++ first)) → Partly n more rest whole
partly_on n done first rest whole more p on =
    record {
      so_far = p.so_far ++ first;
      is = on p.so_far p.is;
      makes = append_assoc p.so_far first rest ∙ p.makes;
    }

none_behind : (xs : List Found) → xs ++ [] ≡ xs
none_behind [] = refl
none_behind (x ∷ xs) = ap (λ ys. x ∷ ys) (none_behind xs)

pub partly_begun : (n : ℕ) (done : Bool) (whole : List Found) → done ≡ is_taken_in n [] → Partly n done whole whole
partly_begun n done whole is = record { so_far = []; is = is; makes = refl }

partly_done : (n : ℕ) (done : Bool) (whole : List Found) → Partly n done [] whole → done ≡ is_taken_in n whole
partly_done n done whole p = p.is ∙ ap (is_taken_in n) (sym (none_behind p.so_far) ∙ p.makes)

-- a loop over a list takes the next element
pub partly_next : (n : ℕ) {A : Type 0} (f : List A → List Found) (first : A → List Found)
    → ((x : A) (xs : List A) → f (x ∷ xs) ≡ first x ++ f xs) → (xs : List A) (i : ℕ) (x : A) → i < length xs
    → x ≡ get_or xs i x → (done more : Bool) (whole : List Found) → Partly n done (f (drop i xs)) whole
    → ((ys : List Found) → done ≡ is_taken_in n ys → more ≡ is_taken_in n (ys ++ first x))
    → Partly n more (f (drop (i + 1) xs)) whole
partly_next n f first one xs i x less is done more whole p on =
    let e : drop i xs ≡ x ∷ drop (i + 1) xs = drop_more xs i x less ∙ ap (λ y. y ∷ drop (i + 1) xs) (sym is) in
    partly_on n done (first x) (f (drop (i + 1) xs)) whole more
    (subst (λ rest. Partly n done rest whole) (ap f e ∙ one x (drop (i + 1) xs)) p) on

-- and ends where none is left
pub partly_all : (n : ℕ) {A : Type 0} (f : List A → List Found) → f [] ≡ [] → (xs : List A) (i : ℕ) → length xs ≤ i
    → (done : Bool) (whole : List Found) → Partly n done (f (drop i xs)) whole → done ≡ is_taken_in n whole
partly_all n f none xs i le done whole p =
    partly_done n done whole (subst (λ rest. Partly n done rest whole) (ap f (drop_all i xs le) ∙ none) p)
