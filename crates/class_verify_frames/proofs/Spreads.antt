-- The units of local variables, part by part.
use Rattle.std.proofs.Common.{◌≡◌, List, [], ◌∷◌, ◌++◌, refl, ap}
use Rattle.class_linked.specs.declared.kinds.Kind.{Kind}
use Rattle.class_linked.specs.declared.kinds.Kind.TheVariants.{Top, Int, Long, Null, Object, Fresh, FreshThis}
use Rattle.class_verify_rules.specs.Kinds.{spread}

pub spread_first : (k : Kind) (ks : List Kind) → spread (k ∷ ks) ≡ spread (k ∷ []) ++ spread ks
spread_first Top ks = refl
spread_first Int ks = refl
spread_first Long ks = refl
spread_first Null ks = refl
spread_first (Object c) ks = refl
spread_first (Fresh o) ks = refl
spread_first FreshThis ks = refl

pub spread_append : (js ks : List Kind) → spread (js ++ ks) ≡ spread js ++ spread ks
spread_append [] ks = refl
spread_append (Top ∷ js) ks = ap (λ l. Top ∷ l) (spread_append js ks)
spread_append (Int ∷ js) ks = ap (λ l. Int ∷ l) (spread_append js ks)
spread_append (Long ∷ js) ks = ap (λ l. Long ∷ Top ∷ l) (spread_append js ks)
spread_append (Null ∷ js) ks = ap (λ l. Null ∷ l) (spread_append js ks)
spread_append ((Object c) ∷ js) ks = ap (λ l. (Object c) ∷ l) (spread_append js ks)
spread_append ((Fresh o) ∷ js) ks = ap (λ l. (Fresh o) ∷ l) (spread_append js ks)
spread_append (FreshThis ∷ js) ks = ap (λ l. FreshThis ∷ l) (spread_append js ks)
