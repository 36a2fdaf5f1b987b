-- Sentences of a language, what begins one, and where a list of tokens stops being the beginning of one.
use Rattle.std.specs.Prelude.{◌≡◌, ℕ, ◌+◌, ◌<◌, ◌≤◌, List, [], ◌++◌, length, take}

-- all the tokens spell the value
abbrev pub IsSentence : {T A : Type 0} → (A → List T → List T → Type 0) → List T → A → Type 0
IsSentence L ts a = L a ts []

-- with some more tokens they spell a value
abbrev pub IsPrefix : {T A : Type 0} → (A → List T → List T → Type 0) → List T → Type 0
IsPrefix {T} {A} L ts = (more : List T) × (a : A) × IsSentence L (ts ++ more) a

-- The token at this index is the first that extends no prefix of a sentence; the index after the last stands for the
-- end, which ends no sentence then.
pub record IsRefusedAt {T A : Type 0} (L : A → List T → List T → Type 0) (ts : List T) (at : ℕ) : Type 0 where
  pub within : at ≤ length ts
  pub prefix : IsPrefix L (take at ts)
  pub longer : at < length ts → IsPrefix L (take (at + 1) ts) → ⊥
  pub whole : (a : A) → IsSentence L ts a → ⊥

-- a list of tokens spells at most one value
abbrev pub OneValue : {T A : Type 0} → (A → List T → List T → Type 0) → Type 0
OneValue {T} {A} L = (ts : List T) (a b : A) → IsSentence L ts a → IsSentence L ts b → a ≡ b
