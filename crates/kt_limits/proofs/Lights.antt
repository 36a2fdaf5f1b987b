-- Weights as far as 64 bits go, and the states of bodies as they are kept.
use Rattle.std.proofs.Common.{◌≡◌, ◌≤◌, ◌+◌, ℕ, Bool, true, false, ◌&&◌, List, [], ◌∷◌, ◌++◌, length, take, min, nat_le, refl, ap, ap₂, sym, ◌∙◌, arith}
use Rattle.std.specs.List.{list_all}
use Rattle.std.proofs.lemmas.Bool.Decides.{nat_tests}
use Rattle.std.proofs.lemmas.List.{length-take}
use Rattle.kt_typed.specs.Bodies.{StatementForm}
use Rattle.kt_typed.specs.Operators.{LocalForm}
use Rattle.kt_sizes.specs.declared.sizes.Sizes.{Sizes}
use Rattle.kt_sizes.specs.Capped.{cap, capped}
use Rattle.kt_sizes.specs.Counting.{both, ◌&◌, sizes_of_statement}
use Rattle.kt_sizes.specs.Weight.{weight_of}
use Rattle.kt_limits.specs.declared.notes.Notes.{Notes}
use Rattle.kt_limits.specs.declared.so_far.SoFar.{SoFar}
use Rattle.kt_limits.specs.Noted.{Noted, a_local, a_text, a_lambda, noted_in_statement, locals_among, texts_among, lambdas_among}
use Rattle.kt_limits.specs.Noting.{fits_constant, is_fine_lambda, is_fine_note, seen}
use Rattle.kt_limits.specs.Walking.{State, kept, behind}

pub at_most_cap : (w n : ℕ) → w ≡ cap n → nat_le w 32000 ≡ nat_le n 32000
at_most_cap w n is = grind (arith, nat_tests)

pub kept_sizes : (s : State) (so : SoFar) → so ≡ kept s → so.sizes ≡ capped s.sizes
unfolding kept
kept_sizes s so is = ap (λ (x : SoFar). x.sizes) is

pub kept_locals : (s : State) (so : SoFar) → so ≡ kept s → so.locals ≡ cap s.locals
unfolding kept
kept_locals s so is = ap (λ (x : SoFar). x.locals) is

pub light_same : {X : Type 0} (s : State) (so : SoFar) (xs : List X) (n weight captures parameters : ℕ) → so ≡ kept s → length xs ≤ 18446744073709551615
    → n ≡ min so.locals (length xs) → ((z : Sizes) → so.sizes ≡ capped z → weight ≡ cap (weight_of z captures parameters n))
    → nat_le weight 32000 ≡ nat_le (weight_of s.sizes captures parameters (length (take s.locals xs))) 32000
light_same s so xs n weight captures parameters is few count weighs =
    let locals = kept_locals s so is in
    let taken = length-take s.locals xs in
    let same : n ≡ length (take s.locals xs) = omega (arith, locals, taken, count, few) in
    at_most_cap weight _ (weighs s.sizes (kept_sizes s so is) ∙ ap (λ k. cap (weight_of s.sizes captures parameters k)) same)

-- texts and lambdas are within limits where all that is noted is
and_first : (a b c : Bool) → (a && (b && c)) ≡ (b && (a && c))
and_first true b c = refl
and_first false true c = refl
and_first false false c = refl

and_inner : (a b c : Bool) → (a && (b && c)) ≡ ((a && b) && c)
and_inner true b c = refl
and_inner false b c = refl

pub fine_parts : (all : List Noted) → list_all is_fine_note all ≡ (list_all fits_constant (texts_among all) && list_all is_fine_lambda (lambdas_among all))
fine_parts [] = refl
fine_parts (a_local ∷ all) = fine_parts all
fine_parts (a_text t ∷ all) =
    ap (λ b. fits_constant t && b) (fine_parts all)
    ∙ and_inner (fits_constant t) (list_all fits_constant (texts_among all)) (list_all is_fine_lambda (lambdas_among all))
fine_parts (a_lambda f ∷ all) =
    ap (λ b. is_fine_lambda f && b) (fine_parts all)
    ∙ and_first (is_fine_lambda f) (list_all fits_constant (texts_among all)) (list_all is_fine_lambda (lambdas_among all))

pub seen_fine : (n : Notes) (all : List Noted) → n ≡ seen all
    → n.are_fine ≡ (list_all fits_constant (texts_among all) && list_all is_fine_lambda (lambdas_among all))
unfolding seen
seen_fine n all is = ap (λ (x : Notes). x.are_fine) is ∙ fine_parts all

pub seen_locals : (n : Notes) (all : List Noted) → n ≡ seen all → n.locals ≡ cap (locals_among all)
unfolding seen
seen_locals n all is = ap (λ (x : Notes). x.locals) is

-- one statement more
pub kept_behind : (s : State) (x : StatementForm) (so : SoFar) (z t : Sizes) (n : Notes) (l : ℕ) → l ≡ min (so.locals + n.locals) 18446744073709551615 → so ≡ kept s → z ≡ capped (sizes_of_statement x)
    → n ≡ seen (noted_in_statement x)
    → ((a b : Sizes) → so.sizes ≡ capped a → z ≡ capped b → t ≡ capped (a & b))
    → record { sizes = t; locals = l } ≡ kept (behind s x)
unfolding kept
kept_behind s x so z t n l sum is sized noted joins =
    let own = kept_locals s so is in
    let more = seen_locals n (noted_in_statement x) noted in
    let locals : l ≡ cap (s.locals + locals_among (noted_in_statement x)) = omega (arith, own, more, sum) in
    ap₂ (λ a b. record { sizes = a; locals = b }) (joins s.sizes (sizes_of_statement x) (kept_sizes s so is) sized) locals
