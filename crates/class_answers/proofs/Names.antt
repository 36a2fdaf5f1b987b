-- Names, one after the other.
use Rattle.std.proofs.Common.{◌≡◌, ℕ, suc, ◌+◌, ◌<◌, ◌≤◌, List, [], ◌∷◌, ◌++◌, length, map, take, drop, get_or, sym, ap, ◌∙◌}
use Rattle.std.proofs.Math.Seq.{split_at}
use Rattle.std.proofs.lemmas.List.{map-append, take_all, take_more}
use Rattle.std.specs.Prelude.{String, string_bytes}
use Rattle.std.specs.declared.alloc.Global.{Global}

-- the names up to one more
pub names_next : (names : List (String Global)) (i : ℕ) (x : String Global) → i < length names → x ≡ get_or names i x
    → map string_bytes (take (i + 1) names) ≡ map string_bytes (take i names) ++ string_bytes x ∷ []
names_next names i x lt is =
    ap (map string_bytes) (take_more names i x lt ∙ ap (λ (y : String Global). take i names ++ y ∷ []) (sym is))
    ∙ map-append string_bytes (take i names) (x ∷ [])

-- all of them
pub names_all : (names : List (String Global)) (i : ℕ) → length names ≤ i
    → map string_bytes (take i names) ≡ map string_bytes names
names_all names i le = ap (map string_bytes) (take_all i names le)

-- what stands before one of them, and behind it
pub names_around : (names : List (String Global)) (i : ℕ) (x : String Global) → i < length names → x ≡ get_or names i x
    → map string_bytes names ≡ map string_bytes (take i names) ++ string_bytes x ∷ map string_bytes (drop (suc i) names)
names_around names i x lt is =
    ap (map string_bytes) (split_at names i x lt ∙ ap (λ (y : String Global). take i names ++ y ∷ drop (suc i) names) (sym is))
    ∙ map-append string_bytes (take i names) (x ∷ drop (suc i) names)
