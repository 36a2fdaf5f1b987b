-- A list that grows by what one more element gives.
use Rattle.std.proofs.Common.{◌≡◌, ℕ, ◌+◌, ◌<◌, List, ◌∷◌, ◌++◌, [], length, take, sym, ap, ◌∙◌}
use Rattle.std.specs.Prelude.{flat_map, slice_index_or}
use Rattle.std.proofs.lemmas.List.{take_more, flat_map_more}

-- what stands before the pieces stays
pub flat_next : {A B : Type 0} (f : A → List B) (xs : List A) (i : ℕ) (x : A) (front old new : List B) → i < length xs
    → x ≡ slice_index_or xs i x → old ≡ front ++ flat_map f (take i xs) → new ≡ old ++ f x
    → new ≡ front ++ flat_map f (take (i + 1) xs)
flat_next f xs i x front old new lt is o n =
    let t : take (i + 1) xs ≡ take i xs ++ x ∷ [] = take_more xs i x lt ∙ ap (λ y. take i xs ++ y ∷ []) (sym is) in
    n ∙ ap (λ l. l ++ f x) o ∙ flat_map_more f front (take i xs) x ∙ ap (λ l. front ++ flat_map f l) (sym t)

pub flat_grows : {A B : Type 0} (f : A → List B) (xs : List A) (i : ℕ) (x : A) (old new : List B) → i < length xs
    → x ≡ slice_index_or xs i x → old ≡ flat_map f (take i xs) → new ≡ old ++ f x → new ≡ flat_map f (take (i + 1) xs)
flat_grows f xs i x old new lt is o n = flat_next f xs i x [] old new lt is o n
