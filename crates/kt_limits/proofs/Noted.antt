-- What is noted of a whole, by what is noted of its parts.
use Rattle.std.proofs.lemmas.List.{drop_more, drop_all, append_assoc, append-nil}
use Rattle.std.proofs.lemmas.List.Folds.{list_all-append}
use Rattle.std.proofs.Common.{◌<◌, ◌≤◌, ℕ, ◌+◌, Bool, true, false, ◌&&◌, List, [], ◌∷◌, ◌++◌, length, get_or, drop, subst, ◌≡◌, min, ap, ap₂, arith, sym, ◌∙◌, refl}
use Rattle.std.specs.List.{list_all}
use Rattle.kt_sizes.specs.Capped.{cap}
use Rattle.kt_typed.specs.Bodies.{FunForm}
use Rattle.kt_limits.specs.declared.notes.Notes.{Notes}
use Rattle.kt_limits.specs.Noted.{Noted, a_local, a_text, a_lambda, but_locals, locals_among}
use Rattle.kt_limits.specs.Noting.{is_fine_note, is_fine_lambda, seen, Partly}

fields : (a b : Notes) → a.locals ≡ b.locals → a.are_fine ≡ b.are_fine → a ≡ b
fields a b locals are_fine = λ i. record { locals = locals i; are_fine = are_fine i }

pub locals-append : (a b : List Noted) → locals_among (a ++ b) ≡ locals_among a + locals_among b
locals-append [] b = omega arith
locals-append (a_local ∷ a) b = let e = locals-append a b in omega (arith, e)
locals-append (a_text t ∷ a) b = locals-append a b
locals-append (a_lambda f ∷ a) b = locals-append a b

none_left : (all : List Noted) → locals_among (but_locals all) ≡ 0
none_left [] = refl
none_left (a_local ∷ all) = none_left all
none_left (a_text t ∷ all) = none_left all
none_left (a_lambda f ∷ all) = none_left all

same_left : (all : List Noted) → list_all is_fine_note (but_locals all) ≡ list_all is_fine_note all
same_left [] = refl
same_left (a_local ∷ all) = same_left all
same_left (a_text t ∷ all) = ap (λ b. is_fine_note (a_text t) && b) (same_left all)
same_left (a_lambda f ∷ all) = ap (λ b. is_fine_note (a_lambda f) && b) (same_left all)

pub true_and : (a b : Bool) → a ≡ true → b ≡ (a && b)
true_and true b e = refl
true_and false b e = absurd cc

pub false_and : (a b : Bool) → a ≡ false → a ≡ (a && b)
false_and true b e = absurd cc
false_and false b e = refl

-- two parts
pub seen_append : (m n : Notes) (locals : ℕ) (fine : Bool) (a b : List Noted) → locals ≡ min (m.locals + n.locals) 18446744073709551615
    → fine ≡ (m.are_fine && n.are_fine) → m ≡ seen a → n ≡ seen b → record { locals = locals; are_fine = fine } ≡ seen (a ++ b)
unfolding seen
seen_append m n locals fine a b sum both is other =
    let l : m.locals ≡ cap (locals_among a) = ap (λ (x : Notes). x.locals) is in
    let r : n.locals ≡ cap (locals_among b) = ap (λ (x : Notes). x.locals) other in
    let e = locals-append a b in
    fields _ _ (omega (arith, l, r, e, sum))
    (both ∙ ap₂ (λ x y. x && y) (ap (λ (x : Notes). x.are_fine) is) (ap (λ (x : Notes). x.are_fine) other)
    ∙ sym (list_all-append is_fine_note a b))

-- behind a local
pub seen_behind_local : (m : Notes) (locals : ℕ) (all : List Noted) → locals ≡ min (m.locals + 1) 18446744073709551615 → m ≡ seen all
    → record { locals = locals; are_fine = m.are_fine } ≡ seen (a_local ∷ all)
unfolding seen
seen_behind_local m locals all sum is =
    let l : m.locals ≡ cap (locals_among all) = ap (λ (x : Notes). x.locals) is in
    fields _ _ (omega (arith, l, sum)) (ap (λ (x : Notes). x.are_fine) is)

-- a lambda literal
pub seen_lambda : (f : FunForm) (own fine : Bool) (inside : Notes) (all : List Noted) → own ≡ is_fine_lambda f
    → fine ≡ (own && inside.are_fine) → inside ≡ seen all → record { locals = 0; are_fine = fine } ≡ seen (a_lambda f ∷ but_locals all)
unfolding seen
seen_lambda f own fine inside all is both so =
    let e = none_left all in
    fields _ _ (omega (arith, e))
    (both ∙ ap₂ (λ x y. x && y) is (ap (λ (x : Notes). x.are_fine) so ∙ sym (same_left all)))

pub partly_begun : (done : Notes) (whole : List Noted) → done ≡ seen [] → Partly done whole whole
partly_begun done whole is = record { so_far = []; is = is; makes = refl }

partly_on : (done : Notes) (first rest whole : List Noted) (more : Notes) → Partly done (first ++ rest) whole
    → ((a : List Noted) → done ≡ seen a → more ≡ seen (a ++ first)) → Partly more rest whole
partly_on done first rest whole more p on =
    record {
      so_far = p.so_far ++ first;
      is = on p.so_far p.is;
      makes = append_assoc p.so_far first rest ∙ p.makes;
    }

partly_done : (done : Notes) (whole : List Noted) → Partly done [] whole → done ≡ seen whole
partly_done done whole p = p.is ∙ ap seen (sym (append-nil p.so_far) ∙ p.makes)

-- a loop over a list takes the next element
pub partly_next : {A : Type 0} (f : List A → List Noted) (first : A → List Noted) → ((x : A) (xs : List A) → f (x ∷ xs) ≡ first x ++ f xs)
    → (xs : List A) (i : ℕ) (x : A) → i < length xs → x ≡ get_or xs i x → (done more : Notes) (whole : List Noted)
    → Partly done (f (drop i xs)) whole → ((a : List Noted) → done ≡ seen a → more ≡ seen (a ++ first x))
    → Partly more (f (drop (i + 1) xs)) whole
partly_next f first one xs i x less is done more whole p on =
    let e : drop i xs ≡ x ∷ drop (i + 1) xs = drop_more xs i x less ∙ ap (λ y. y ∷ drop (i + 1) xs) (sym is) in
    partly_on done (first x) (f (drop (i + 1) xs)) whole more
    (subst (λ rest. Partly done rest whole) (ap f e ∙ one x (drop (i + 1) xs)) p) on

-- and ends where none is left
pub partly_all : {A : Type 0} (f : List A → List Noted) → f [] ≡ [] → (xs : List A) (i : ℕ) → length xs ≤ i
    → (done : Notes) (whole : List Noted) → Partly done (f (drop i xs)) whole → done ≡ seen whole
partly_all f none xs i le done whole p =
    partly_done done whole (subst (λ rest. Partly done rest whole) (ap f (drop_all i xs le) ∙ none) p)
