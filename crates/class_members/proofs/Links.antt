-- One more class above.
use Rattle.std.proofs.Common.{ℕ, ◌+◌, ◌≡◌, ◌<◌, refl, sym, ap, ◌∙◌, List, [], ◌∷◌, ◌++◌, Option, length, take}
use Rattle.std.specs.Prelude.{flat_map, slice_index_or}
use Rattle.std.proofs.lemmas.List.{take_more}
use Rattle.class_headers.specs.declared.headers.Header.{Header}
use Rattle.class_headers.specs.Places.{number_of}
use Rattle.class_members.specs.Above.{list_of, number_in}

nil_right : (xs : List ℕ) → xs ++ [] ≡ xs
nil_right [] = refl
nil_right (x ∷ xs) = ap (λ ys. x ∷ ys) (nil_right xs)

grouped : (xs ys zs : List ℕ) → xs ++ (ys ++ zs) ≡ (xs ++ ys) ++ zs
grouped [] ys zs = refl
grouped (x ∷ xs) ys zs = ap (λ ws. x ∷ ws) (grouped xs ys zs)

more_flat : (f : List ℕ → List ℕ) (xs : List (List ℕ)) (x : List ℕ) → flat_map f (xs ++ x ∷ []) ≡ flat_map f xs ++ f x
more_flat f [] x = nil_right (f x)
more_flat f (y ∷ ys) x = ap (λ zs. f y ++ zs) (more_flat f ys x) ∙ grouped (f y) (flat_map f ys) (f x)

pub found_next : (hs : List Header) (items : List (List ℕ)) (i : ℕ) (x : List ℕ) (start old new : List ℕ) (found : Option ℕ) → i < length items → x ≡ slice_index_or items i x → old ≡ start ++ flat_map (number_in hs) (take i items) → new ≡ old ++ list_of found → found ≡ number_of hs x → new ≡ start ++ flat_map (number_in hs) (take (i + 1) items)
found_next hs items i x start old new found lt is o n q =
    let t : take (i + 1) items ≡ take i items ++ x ∷ [] = take_more items i x lt ∙ ap (λ y. take i items ++ y ∷ []) (sym is) in
    let m : flat_map (number_in hs) (take (i + 1) items) ≡ flat_map (number_in hs) (take i items) ++ number_in hs x = ap (flat_map (number_in hs)) t ∙ more_flat (number_in hs) (take i items) x in
    n ∙ ap (λ y. y ++ list_of found) o
    ∙ ap (λ y. (start ++ flat_map (number_in hs) (take i items)) ++ list_of y) q
    ∙ sym (grouped start (flat_map (number_in hs) (take i items)) (number_in hs x))
    ∙ ap (λ y. start ++ y) (sym m)
