-- Each turn of an export makes what is pending lighter.
use Rattle.std.proofs.Common.{◌≡◌, ℕ, zero, suc, ◌+◌, ◌<◌, ◌≤◌, Bool, true, false, ◌==◌, if◌then◌else◌, List, [], ◌∷◌, ◌++◌, length, map, Some, refl, sym, ap, ◌∙◌, arith}
use borrow.Author.Tests.{eqb-true, eqb-false}
use Rattle.mach_value.specs.declared.values.Field.{Field}
use Rattle.mach_value.specs.declared.objects.Object.{Object}
use Rattle.mach_value.specs.declared.exporting.Pending.{Pending}
use Rattle.mach_value.specs.declared.exporting.Pending.TheVariants.{Enter, Leave}
use Rattle.mach_value.specs.Exports.{Opened, opened}
use Rattle.mach_value.specs.Exporting.{on_path, free, sum_of, inside_of, size, weight}
use Rattle.mach_value.proofs.Standing.{on_entered}

-- every field takes a turn
size_some : (objects : List Object) (room : ℕ) (x : Field) → 0 < size objects room x
unfolding size
size_some objects zero x = omega arith
size_some objects (suc room) x = omega arith

pub leaf_lighter : (objects : List Object) (x : Field) (ps : List Pending) → weight objects ps < weight objects (Enter x ∷ ps)
unfolding weight
leaf_lighter objects x ps = omega (arith, size_some objects (free (2 + length objects) ps) x)

pub leave_lighter : (objects : List Object) (a : ℕ) (ps : List Pending) → weight objects ps < weight objects (Leave a ∷ ps)
unfolding weight
leave_lighter objects a ps = omega arith

-- inside of one object more, one address less is free

free_same : (n a : ℕ) (ps : List Pending) → n ≤ a → free n (Leave a ∷ ps) ≡ free n ps
free_same zero a ps h = refl
free_same (suc n) a ps h = of (a == n) refl (free_same n a ps (omega arith))
  where
    of : (t : Bool) → (a == n) ≡ t → free n (Leave a ∷ ps) ≡ free n ps
        → (if (if t then true else on_path ps n) then 0 else 1) + free n (Leave a ∷ ps) ≡ (if on_path ps n then 0 else 1) + free n ps
    of true e rest = absurd (omega (arith, eqb-true a n e))
    of false e rest = ap (λ f. (if on_path ps n then 0 else 1) + f) rest

free_less : (n a : ℕ) (ps : List Pending) → a < n → on_path ps a ≡ false → free n ps ≡ suc (free n (Leave a ∷ ps))
free_less zero a ps h off = absurd (omega arith)
free_less (suc n) a ps h off = of (a == n) refl (λ lt. free_less n a ps lt off)
  where
    below : a ≤ n → (a ≡ n → ⊥) → a < n
    below l e = omega (arith, e)

    of : (t : Bool) → (a == n) ≡ t → (a < n → free n ps ≡ suc (free n (Leave a ∷ ps)))
        → (if on_path ps n then 0 else 1) + free n ps ≡ suc ((if (if t then true else on_path ps n) then 0 else 1) + free n (Leave a ∷ ps))
    of true e rest =
        let q : a ≡ n = eqb-true a n e in
        let o : on_path ps n ≡ false = ap (on_path ps) (sym q) ∙ off in
        ap (λ t. (if t then 0 else 1) + free n ps) o ∙ omega (arith, free_same n a ps (omega arith))
    of false e rest = let r = rest (below (omega arith) (eqb-false a n e)) in omega arith

free_entered : (n : ℕ) (xs : List Field) (ps : List Pending) → free n (map Enter xs ++ ps) ≡ free n ps
free_entered zero xs ps = refl
free_entered (suc n) xs ps = ap (λ t. (if t then 0 else 1) + free n (map Enter xs ++ ps)) (on_entered xs ps n) ∙ ap (λ f. (if on_path ps n then 0 else 1) + f) (free_entered n xs ps)

weight_entered : (objects : List Object) (xs : List Field) (ps : List Pending) → weight objects (map Enter xs ++ ps) ≡ sum_of (size objects (free (2 + length objects) ps)) xs + weight objects ps
unfolding weight
weight_entered objects [] ps = omega arith
weight_entered objects (x ∷ xs) ps =
    let e = ap (λ room. size objects room x) (free_entered (2 + length objects) xs ps) in
    omega (arith, e, weight_entered objects xs ps)

pub enter_lighter : (objects : List Object) (x : Field) (a : ℕ) (o : Opened) (ps : List Pending) → opened objects x ≡ Some o → a < 2 + length objects → on_path ps a ≡ false
    → weight objects (map Enter o.fields ++ Leave a ∷ ps) < weight objects (Enter x ∷ ps)
unfolding weight size
enter_lighter objects x a o ps e lt off =
    let room = free (2 + length objects) (Leave a ∷ ps) in
    let f = free_less (2 + length objects) a ps lt off in
    let s : size objects (free (2 + length objects) ps) x ≡ 2 + sum_of (size objects room) o.fields = ap (λ r. size objects r x) f ∙ ap (λ p. 2 + sum_of (size objects room) (inside_of p)) e in
    omega (arith, s, weight_entered objects o.fields (Leave a ∷ ps))
