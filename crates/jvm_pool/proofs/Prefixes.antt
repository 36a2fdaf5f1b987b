-- What stands behind a prefix.
use Rattle.std.proofs.Common.{◌≡◌, ◌≢◌, ℕ, Bool, true, false, cond, eqb, List, [], ◌∷◌, ◌++◌, Option, Some, None, MatchOption, option_map, Bor, refl, sym, ap, ◌∙◌}
use Rattle.std.proofs.lemmas.Bool.{eqb-true, eq-eqb}
use Rattle.jvm_pool.specs.DescriptorReading.{behind_prefix}

pub behind_again : (prefix rest : List ℕ) → behind_prefix prefix (prefix ++ rest) ≡ Some rest
behind_again [] rest = refl
behind_again (p ∷ prefix) rest = rw (eq-eqb p p refl) (behind_again prefix rest)

pub behind_takes : (prefix bytes rest : List ℕ) → behind_prefix prefix bytes ≡ Some rest → bytes ≡ prefix ++ rest
behind_takes [] bytes rest h = cc
behind_takes (p ∷ prefix) [] rest h = absurd cc
behind_takes (p ∷ prefix) (b ∷ bytes) rest h = by (eqb b p) refl h (behind_takes prefix bytes rest)
  where
    by : (same : Bool) → eqb b p ≡ same → cond same (behind_prefix prefix bytes) None ≡ Some rest → (behind_prefix prefix bytes ≡ Some rest → bytes ≡ prefix ++ rest) → b ∷ bytes ≡ p ∷ (prefix ++ rest)
    by true is found more = ap (λ x. x ∷ bytes) (eqb-true b p is) ∙ ap (λ xs. p ∷ xs) (more found)
    by false is found more = absurd cc

pub behind_is : (prefix bytes : List ℕ) (r : Option (Bor (List ℕ))) → MatchOption r ((rest : List ℕ) → bytes ≢ prefix ++ rest) (λ x. bytes ≡ prefix ++ x.now)
    → option_map (λ (x : Bor (List ℕ)). x.now) r ≡ behind_prefix prefix bytes
behind_is prefix bytes (Some x) is = sym (ap (behind_prefix prefix) is ∙ behind_again prefix x.now)
behind_is prefix bytes None none = by (behind_prefix prefix bytes) refl
  where
    by : (o : Option (List ℕ)) → behind_prefix prefix bytes ≡ o → None ≡ o
    by None e = refl
    by (Some rest) e = absurd (none rest (behind_takes prefix bytes rest e))
