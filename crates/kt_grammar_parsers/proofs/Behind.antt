-- Skipping one token after the other.
use Rattle.std.proofs.Common.{◌≡◌, ◌<◌, Bool, true, false, List, [], ◌∷◌, length, refl, sym, ap, ◌∙◌, arith}
use Rattle.kt_grammar_parsers.specs.Parsers.{first, behind, tail}

pub behind_more : {T : Type 0} (test : T → Bool) (ts : List T) → first test ts ≡ true → behind test ts ≡ behind test (tail ts)
behind_more test [] h = absurd cc
behind_more test (t ∷ ts) h = rw h refl

pub behind_done : {T : Type 0} (test : T → Bool) (ts : List T) → first test ts ≡ false → behind test ts ≡ ts
behind_done test [] h = refl
behind_done test (t ∷ ts) h = rw h refl

pub tail_shorter : {T : Type 0} (test : T → Bool) (ts : List T) → first test ts ≡ true → length (tail ts) < length ts
tail_shorter test [] h = absurd cc
tail_shorter test (t ∷ ts) h = omega arith

pub first_there : {T : Type 0} (test : T → Bool) (ts : List T) → first test ts ≡ true → 0 < length ts
first_there test [] h = absurd cc
first_there test (t ∷ ts) h = omega arith

pub first_passes : {T : Type 0} (test : T → Bool) (ts : List T) (t : T) (us : List T) → first test ts ≡ true → ts ≡ t ∷ us → test t ≡ true
first_passes {T} test ts t us h e = ap (first test) (sym e) ∙ h
