-- The order of first mention: of a pool that grows, and of a finished file.
use Rattle.std.specs.Prelude.{◌≡◌, ℕ, ◌+◌, Bool, List, [], ◌∷◌, ◌++◌, Option, Some, None, nat_lt, ◌==◌, if◌then◌else◌}
use Rattle.std.specs.List.{list_any}
use Rattle.jvm_pool.specs.declared.entries.Entry.{Entry}
use Rattle.jvm_pool.specs.Entries.{size, behind, same, units}

-- ---- a pool that grows

abbrev pub has : List Entry → Entry → Bool
has es e = list_any (same e) es

-- the entries after a mention of e: a new one goes last, and then what g adds
abbrev pub with_one : Entry → (List Entry → List Entry) → List Entry → List Entry
with_one e g es = if has es e then es else g (es ++ e ∷ [])

-- the entries after a mention of each of these alone
abbrev pub with_each : List Entry → List Entry → List Entry
with_each [] es = es
with_each (m ∷ ms) es = with_each ms (with_one m (λ es. es) es)

-- the entries after a mention of e: where it is new, it goes last, and its parts directly behind it
abbrev pub with_mention : Entry → List Entry → List Entry
with_mention e = with_one e (with_each (behind e))

-- the entries after these mentions, in order
unfoldable pub with_mentions : List Entry → List Entry → List Entry
with_mentions [] es = es
with_mentions (m ∷ ms) es = with_mentions ms (with_mention m es)

-- ---- a finished file

-- the index of an entry, where k is that of the first
unfoldable pub seek : ℕ → List Entry → Entry → Option ℕ
seek k [] e = None
seek k (x ∷ xs) e = if same e x then Some k else seek (k + size x) xs e

-- A mentioned index is below the counter, or equal to it: then the counter moves on, to r.
abbrev pub place : Option ℕ → ℕ → Option ℕ → Option ℕ
place None c r = None
place (Some i) c r = if nat_lt i c then Some c else if i == c then r else None

abbrev pub then_count : Option ℕ → (ℕ → Option ℕ) → Option ℕ
then_count None f = None
then_count (Some c) f = f c

module _ (es : List Entry) where
  -- the counter after a mention of e: where e is next, it moves past e, and then as f says
  abbrev pub count_one : Entry → (ℕ → Option ℕ) → ℕ → Option ℕ
  count_one e f c = place (seek 1 es e) c (f (c + size e))

  -- the counter after a mention of each of these alone
  abbrev pub count_each : List Entry → ℕ → Option ℕ
  count_each [] c = Some c
  count_each (m ∷ ms) c = then_count (count_one m (λ c. Some c) c) (count_each ms)

  -- the counter after a mention of e: where e is next, its parts are mentioned in their order
  abbrev pub count_mention : Entry → ℕ → Option ℕ
  count_mention e = count_one e (count_each (behind e))

  unfoldable pub count_mentions : List Entry → ℕ → Option ℕ
  count_mentions [] c = Some c
  count_mentions (m ∷ ms) c = then_count (count_mention m c) (count_mentions ms)

-- The entries of a file stand in the order of their first mention, and each is mentioned.
abbrev pub IsInOrder : List Entry → List Entry → Type 0
IsInOrder es ms = count_mentions es ms 1 ≡ Some (1 + units es)
