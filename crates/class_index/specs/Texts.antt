-- Texts, each with a number.
use Rattle.std.specs.Prelude.{ℕ, ◌≡◌, ◌<◌, ◌≤◌, ◌+◌, Bool, List, Option, Some, None, bytes_eq, if◌then◌else◌}
use Rattle.std.specs.Ordering.{nat_cmp}
use Rattle.std.specs.Cmp.Lexicographic.{slice_cmp}
use Rattle.std.specs.BTreeMap.{get_by, btree_map_len}
use Rattle.class_index.specs.declared.texts.TextIndex.{TextIndex}

abbrev pub number_in : TextIndex → List ℕ → Option ℕ
number_in texts text = get_by (λ k. slice_cmp nat_cmp text k.items) texts.numbers

-- how many texts have a number
abbrev pub how_many : TextIndex → ℕ
how_many texts = btree_map_len texts.numbers

-- what was there, and else the number where it is that text's
abbrev pub or_at : Option ℕ → Bool → ℕ → Option ℕ
or_at (Some found) here number = Some found
or_at None here number = if here then Some number else None

-- a text that had no number is given one
pub record Adds (text : List ℕ) (number : ℕ) (old new : TextIndex) : Type 0 where
  pub each : (t : List ℕ) → number_in new t ≡ or_at (number_in old t) (bytes_eq text t) number
  pub more : how_many new ≡ how_many old + 1

-- no two texts have one number, and the numbers are less than there are texts
pub record IsNumbering (texts : TextIndex) : Type 0 where
  pub below : (t : List ℕ) (n : ℕ) → number_in texts t ≡ Some n → n < how_many texts
  pub once : (t u : List ℕ) (n : ℕ) → number_in texts t ≡ Some n → number_in texts u ≡ Some n → t ≡ u

-- a text has a number behind; others have what they had, and a new one is none that was there
pub record IsNumbered (text : List ℕ) (old new : TextIndex) (number : ℕ) : Type 0 where
  pub here : number_in new text ≡ Some number
  pub kept : (t : List ℕ) (n : ℕ) → number_in old t ≡ Some n → number_in new t ≡ Some n
  pub fresh : (t : List ℕ) (n : ℕ) → number_in old t ≡ None → number_in new t ≡ Some n → how_many old ≤ n
  pub grown : how_many old ≤ how_many new
  pub numbering : IsNumbering new
