-- Two lists that fit, and each place of them.
use Rattle.std.proofs.Common.{◌≡◌, ℕ, zero, suc, ◌+◌, ◌-◌, ◌<◌, ◌≤◌, Bool, true, false, List, [], ◌∷◌, ◌++◌, length, drop, replicate, Option, Some, None, refl, sym, ap, ◌∙◌, arith, subst}
use Rattle.std.proofs.lemmas.List.{reverse-append, map-append}
use Rattle.std.specs.Prelude.{slice_get, ◌||◌, ◌↔◌, IsTrue, reverse, map}
use Rattle.std.specs.List.{list_any}
use Rattle.class_linked.specs.declared.kinds.Kind.{Kind}
use Rattle.class_linked.specs.declared.kinds.Kind.TheVariants.{Top, Int, Long, Null, Object, Fresh, FreshThis}
use Rattle.class_linked.specs.declared.classes.Linked.{Linked}
use Rattle.class_verify_rules.specs.Kinds.{fits, AllFit, TopFits, units, width}
use Rattle.class_verify_rules.specs.Frames.{padded}
use Rattle.class_verify_frames.specs.Pairs.{FitsAt}

module _ (fit : Kind → Kind → Bool) where
  pub all_long : (ks ws : List Kind) → AllFit fit ks ws → length ks ≡ length ws
  all_long [] [] h = refl
  all_long (k ∷ ks) (w ∷ ws) h = omega (arith, all_long ks ws h.1)
  all_long [] (w ∷ ws) h = absurd h
  all_long (k ∷ ks) [] h = absurd h

  pub all_at : (ks ws : List Kind) (i : ℕ) → AllFit fit ks ws → i < length ks → FitsAt fit ks ws i
  all_at [] [] i h l = absurd (omega (arith, l))
  all_at (k ∷ ks) (w ∷ ws) zero h l = (k, w, refl, refl, h.0)
  all_at (k ∷ ks) (w ∷ ws) (suc i) h l = all_at ks ws i h.1 (omega (arith, l))
  all_at [] (w ∷ ws) i h l = absurd h
  all_at (k ∷ ks) [] i h l = absurd h

  one_fits : (k w : Kind) (ks ws : List Kind) → FitsAt fit (k ∷ ks) (w ∷ ws) 0 → fit k w ≡ true
  one_fits k w ks ws a =
      let x : a.0 ≡ k = cc in
      let y : a.1 ≡ w = cc in
      subst (λ w. fit k w ≡ true) y (subst (λ k. fit k a.1 ≡ true) x a.4)

  pub all_from : (ks ws : List Kind) → length ks ≡ length ws → ((i : ℕ) → i < length ks → FitsAt fit ks ws i) → AllFit fit ks ws
  all_from [] [] e h = tt
  all_from (k ∷ ks) (w ∷ ws) e h = (one_fits k w ks ws (h 0 (omega arith)), all_from ks ws (omega (arith, e)) (λ i l. h (suc i) (omega (arith, l))))
  all_from [] (w ∷ ws) e h = absurd (omega (arith, e))
  all_from (k ∷ ks) [] e h = absurd (omega (arith, e))

-- ---- local variables: behind those that are told stand some of which nothing is known

pub top_fits : (p : Linked) (k : Kind) → fits p k Top ≡ true
top_fits p Top = refl
top_fits p Int = refl
top_fits p Long = refl
top_fits p Null = refl
top_fits p (Object c) = refl
top_fits p (Fresh j) = refl
top_fits p FreshThis = refl

tops_fit : (p : Linked) (ks : List Kind) → AllFit (fits p) ks (replicate (length ks) Top)
tops_fit p [] = tt
tops_fit p (k ∷ ks) = (top_fits p k, tops_fit p ks)

padded_fit : (p : Linked) (ks ws : List Kind) (m : ℕ) → length ks ≡ length ws + m → ((i : ℕ) → i < length ws → FitsAt (fits p) ks ws i) → AllFit (fits p) ks (ws ++ replicate m Top)
padded_fit p ks [] m e h = subst (λ n. AllFit (fits p) ks (replicate n Top)) (let q : length ks ≡ m = omega (arith, e) in q) (tops_fit p ks)
padded_fit p [] (w ∷ ws) m e h = absurd (omega (arith, e))
padded_fit p (k ∷ ks) (w ∷ ws) m e h =
    (one_fits (fits p) k w ks ws (h 0 (omega arith)), padded_fit p ks ws m (omega (arith, e)) (λ i l. h (suc i) (omega (arith, l))))

pub padded_from : (p : Linked) (ks ws : List Kind) (most : ℕ) → length ks ≡ length ws + (most - length ws) → ((i : ℕ) → i < length ws → FitsAt (fits p) ks ws i) → AllFit (fits p) ks (padded most ws)
padded_from p ks ws most e h = padded_fit p ks ws (most - length ws) e h

pub padded_at : (p : Linked) (ks ws t : List Kind) (i : ℕ) → AllFit (fits p) ks (ws ++ t) → i < length ws → FitsAt (fits p) ks ws i
padded_at p ks [] t i h l = absurd (omega (arith, l))
padded_at p [] (w ∷ ws) t i h l = absurd h
padded_at p (k ∷ ks) (w ∷ ws) t zero h l = (k, w, refl, refl, h.0)
padded_at p (k ∷ ks) (w ∷ ws) t (suc i) h l = padded_at p ks ws t i h.1 (omega (arith, l))

tops_long : (m : ℕ) → length (replicate m Top) ≡ m
tops_long zero = refl
tops_long (suc m) = omega (arith, tops_long m)

padded_length : (ws : List Kind) (m : ℕ) → length (ws ++ replicate m Top) ≡ length ws + m
padded_length [] m = omega (arith, tops_long m)
padded_length (w ∷ ws) m = omega (arith, padded_length ws m)

pub padded_long : (p : Linked) (ks ws : List Kind) (most : ℕ) → AllFit (fits p) ks (padded most ws) → length ks ≡ length ws + (most - length ws)
padded_long p ks ws most h = all_long (fits p) ks (padded most ws) h ∙ padded_length ws (most - length ws)

-- ---- operands that are taken

pub drop_here : {A : Type 0} (xs : List A) (n : ℕ) (x : A) → slice_get xs n ≡ Some x → drop n xs ≡ x ∷ drop (n + 1) xs
drop_here [] n x e = absurd cc
drop_here (y ∷ xs) zero x e = let same : y ≡ x = cc in ap (λ x. x ∷ xs) same
drop_here (y ∷ xs) (suc n) x e = let q : suc n + 1 ≡ suc (n + 1) = omega arith in drop_here xs n x e ∙ ap (λ k. x ∷ drop k (y ∷ xs)) (sym q)

pub units_next : (ks : List Kind) (n : ℕ) (k : Kind) → slice_get ks n ≡ Some k → units (drop n ks) ≡ width k + units (drop (n + 1) ks)
units_next ks n k e = ap units (drop_here ks n k e)

any_here : (f : Kind → Bool) (ks : List Kind) (n : ℕ) (k : Kind) → slice_get ks n ≡ Some k → list_any f (drop n ks) ≡ (f k || list_any f (drop (n + 1) ks))
any_here f ks n k e = ap (list_any f) (drop_here ks n k e)

pub any_true : (f : Kind → Bool) (ks : List Kind) (n : ℕ) (k : Kind) → slice_get ks n ≡ Some k → f k ≡ true → list_any f (drop n ks) ≡ true
any_true f ks n k e t = any_here f ks n k e ∙ (rw t refl)

pub any_next : (f : Kind → Bool) (ks : List Kind) (n : ℕ) (k : Kind) → slice_get ks n ≡ Some k → f k ≡ false → list_any f (drop n ks) ≡ list_any f (drop (n + 1) ks)
any_next f ks n k e t = any_here f ks n k e ∙ (rw t refl)

-- ---- what stands in reverse

pub map_reverse : (f : Kind → Kind) (ks : List Kind) → map f (reverse ks) ≡ reverse (map f ks)
map_reverse f [] = refl
map_reverse f (k ∷ ks) = ap (map f) (reverse-append (k ∷ []) ks) ∙ map-append f (reverse ks) (k ∷ []) ∙ ap (λ l. l ++ f k ∷ []) (map_reverse f ks) ∙ sym (reverse-append (f k ∷ []) (map f ks))
