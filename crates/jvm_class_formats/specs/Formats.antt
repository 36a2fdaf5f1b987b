-- The parts of a class file: of each, which values it has, what spells a value, and what is read at its place.
--
-- A part is read in file order. Where an item breaks its rule the answer is the offset of its start, and where the file
-- ends within one, the file's length.
use Rattle.std.specs.Prelude.{◌≡◌, ℕ, zero, suc, ◌+◌, ◌*◌, ◌-◌, ◌^◌, ◌<◌, Bool, true, false, List, [], ◌∷◌, ◌++◌, length, take, drop, Option, None, Some, Result, Ok, Err, nat_lt, ◌==◌, if◌then◌else◌}
use Rattle.std.specs.Int.{Width, w8, w16, w32, byte_len, from_be_bytes, to_be_bytes}
use Rattle.std.specs.List.{flat_map, AllByRecursion}
use Rattle.jvm_pool.specs.declared.entries.Entry.{Entry}
use Rattle.jvm_pool.specs.Mentions.{count_mention, seek}
use Rattle.jvm_pool.specs.Numbering.{entry_at}
use Rattle.jvm_pieces.specs.Pieces.{Piece, Bytes, Mention}

-- a place in a file: the file's length, the counter of first mentions, and the bytes that are left
pub record Spot : Type 0 where
  pub total : ℕ
  pub counter : ℕ
  pub bytes : List ℕ

abbrev pub spot : ℕ → ℕ → List ℕ → Spot
spot total counter bytes = record { total = total; counter = counter; bytes = bytes }

-- the offset of a place
abbrev pub here : Spot → ℕ
here s = s.total - length s.bytes

-- a part of a class file: reading gives a value and the place behind it, or the offset of the refusal
pub record Format (A : Type 0) : Type 1 where
  pub allows : A → Type 0
  pub spell : A → List Piece
  pub read : Spot → Result (A × Spot) ℕ

infixl 10 ◌>>=◌
abbrev pub ◌>>=◌ : {A B : Type 0} → Result A ℕ → (A → Result B ℕ) → Result B ℕ
(Ok x) >>= f = f x
(Err at) >>= f = Err at

-- ---- numbers

abbrev pub first_number : Width → Spot → ℕ
first_number w s = from_be_bytes w (take (byte_len w) s.bytes)

abbrev pub behind_number : Width → Spot → Spot
behind_number w s = spot s.total s.counter (drop (byte_len w) s.bytes)

-- a number that keeps a rule
abbrev pub number_at : Width → (ℕ → Bool) → Spot → Result (ℕ × Spot) ℕ
number_at w rule s =
    if nat_lt (length s.bytes) (byte_len w) then Err s.total else
    if rule (first_number w s) then Ok (first_number w s, behind_number w s) else Err (here s)

abbrev pub number : Width → (ℕ → Bool) → Format ℕ
number w rule = record {
  allows = λ n. (n < 2 ^ (8 * byte_len w)) × (rule n ≡ true);
  spell = λ n. Bytes (to_be_bytes w n) ∷ [];
  read = number_at w rule;
}

abbrev pub any : ℕ → Bool
any n = true

-- any number of one, two and four bytes
abbrev pub u1 : Format ℕ
u1 = number w8 any

abbrev pub u2 : Format ℕ
u2 = number w16 any

abbrev pub u4 : Format ℕ
u4 = number w32 any

-- this number
abbrev pub the : Width → ℕ → Format ℕ
the w k = number w (λ n. n == k)

-- ---- mentions

-- the entry at an index, where that is the index of the entry
abbrev pub only_at : ℕ → Entry → Option ℕ → Option Entry
only_at i e None = None
only_at i e (Some j) = if j == i then Some e else None

abbrev pub own : List Entry → ℕ → Option Entry → Option Entry
own es i None = None
own es i (Some e) = only_at i e (seek 1 es e)

abbrev pub named : List Entry → ℕ → Option Entry
named es i = own es i (entry_at 1 es i)

-- what an entry says at a place that needs a kind of entry: `None` where it is of another kind
abbrev pub saying : {A : Type 0} → Entry → Option A → Option (Entry × A)
saying e None = None
saying e (Some a) = Some (e, a)

abbrev pub said : {A : Type 0} → (Entry → Option A) → Option Entry → Option (Entry × A)
said inside None = None
said inside (Some e) = saying e (inside e)

-- the counter moves behind a mention
abbrev pub moved : {A : Type 0} → Spot → ℕ → A → Option ℕ → Result (A × Spot) ℕ
moved rest at a None = Err at
moved rest at a (Some c) = Ok (a, spot rest.total c rest.bytes)

-- a mention of an entry, where it is of the kind and may be mentioned here by the order of first mention
abbrev pub mentioned : {A : Type 0} → List Entry → Spot → ℕ → ℕ → Option (Entry × A) → Result (A × Spot) ℕ
mentioned es rest at counter None = Err at
mentioned es rest at counter (Some x) = moved rest at x.1 (count_mention es x.0 counter)

unfoldable pub mention_at : {A : Type 0} → List Entry → (Entry → Option A) → Spot → Result (A × Spot) ℕ
mention_at es inside s =
    number_at w16 any s >>= λ i. mentioned es i.1 (here s) s.counter (said inside (named es i.0))

-- A mention of the entry that says a value: `entry` gives it, and `inside` what an entry says.
abbrev pub mention : {A : Type 0} → List Entry → (A → Entry) → (Entry → Option A) → Format A
mention es entry inside = record {
  allows = λ a. inside (entry a) ≡ Some a;
  spell = λ a. Mention (entry a) ∷ [];
  read = mention_at es inside;
}

-- no mention where the index is 0
abbrev pub optional_at : {A : Type 0} → List Entry → (Entry → Option A) → Spot → ℕ × Spot → Result (Option A × Spot) ℕ
optional_at es inside s i =
    if i.0 == 0 then Ok (None, i.1) else (mention_at es inside s >>= λ a. Ok (Some a.0, a.1))

abbrev pub optional_allows : {A : Type 0} → (A → Entry) → (Entry → Option A) → Option A → Type 0
optional_allows entry inside None = Unit {0}
optional_allows entry inside (Some a) = inside (entry a) ≡ Some a

abbrev pub optional_spell : {A : Type 0} → (A → Entry) → Option A → List Piece
optional_spell entry None = Bytes (to_be_bytes w16 0) ∷ []
optional_spell entry (Some a) = Mention (entry a) ∷ []

-- a mention, or 0 in its place
abbrev pub optional : {A : Type 0} → List Entry → (A → Entry) → (Entry → Option A) → Format (Option A)
optional es entry inside = record {
  allows = optional_allows entry inside;
  spell = optional_spell entry;
  read = λ s. number_at w16 any s >>= optional_at es inside s;
}

-- ---- parts of parts

-- one part, and then another, which may depend on the first
abbrev pub seq : {A B : Type 0} → Format A → (A → Format B) → Format (A × B)
seq f g = record {
  allows = λ x. f.allows x.0 × (g x.0).allows x.1;
  spell = λ x. f.spell x.0 ++ (g x.0).spell x.1;
  read = λ s. f.read s >>= λ a. (g a.0).read a.1 >>= λ b. Ok ((a.0, b.0), b.1);
}

-- the same part, under names of its own
abbrev pub as_named : {A B : Type 0} → (A → B) → (B → A) → Format A → Format B
as_named make parts f = record {
  allows = λ b. f.allows (parts b);
  spell = λ b. f.spell (parts b);
  read = λ s. f.read s >>= λ a. Ok (make a.0, a.1);
}

abbrev pub allowed_in : {A : Type 0} → Format A → Option A → Type 0
allowed_in f None = ⊥
allowed_in f (Some a) = f.allows a

abbrev pub spelled_in : {A : Type 0} → Format A → Option A → List Piece
spelled_in f None = []
spelled_in f (Some a) = f.spell a

-- the values of one variant: `inside` tells what is in one, and `None` of the others
abbrev pub variant : {A B : Type 0} → (A → B) → (B → Option A) → Format A → Format B
variant make inside f = record {
  allows = λ b. allowed_in f (inside b);
  spell = λ b. spelled_in f (inside b);
  read = λ s. f.read s >>= λ a. Ok (make a.0, a.1);
}

-- one of two parts
abbrev pub choose : {A : Type 0} → Bool → Format A → Format A → Format A
choose true f g = f
choose false f g = g

abbrev pub moved_to : {A : Type 0} → ℕ → ℕ → Result A ℕ → Result A ℕ
moved_to start total (Ok x) = Ok x
moved_to start total (Err at) = if at == total then Err total else Err start

-- one item: what breaks a rule within it is refused at its start
abbrev pub item : {A : Type 0} → Format A → Format A
item f = record { allows = f.allows; spell = f.spell; read = λ s. moved_to (here s) s.total (f.read s) }

-- a part so many times
abbrev pub times_at : {A : Type 0} → Format A → ℕ → Spot → Result (List A × Spot) ℕ
times_at f zero s = Ok ([], s)
times_at f (suc n) s = f.read s >>= λ a. times_at f n a.1 >>= λ rest. Ok (a.0 ∷ rest.0, rest.1)

abbrev pub times : {A : Type 0} → Format A → ℕ → Format (List A)
times f n = record {
  allows = λ l. (length l ≡ n) × AllByRecursion f.allows l;
  spell = λ l. flat_map f.spell l;
  read = times_at f n;
}

-- parts behind their number
abbrev pub counted : {A : Type 0} → Format A → Format (List A)
counted f = as_named (λ x. x.1) (λ l. (length l, l)) (seq u2 (times f))

-- how many bytes pieces take
abbrev pub width : Piece → ℕ
width (Bytes bytes) = length bytes
width (Mention e) = 2

abbrev pub widths : List Piece → ℕ
widths [] = 0
widths (p ∷ ps) = width p + widths ps

-- what was read behind a length, where it takes so many bytes
abbrev pub measured : {A : Type 0} → ℕ → ℕ → ℕ → A × Spot → Result (A × Spot) ℕ
measured field n before a = if before - length a.1.bytes == n then Ok a else Err field

-- a part behind its length, which is compared where the part is there whole and breaks no rule
abbrev pub sized : {A : Type 0} → Format A → Format A
sized f = record {
  allows = λ a. f.allows a × (widths (f.spell a) < 2 ^ 32);
  spell = λ a. Bytes (to_be_bytes w32 (widths (f.spell a))) ∷ f.spell a;
  read = λ s. number_at w32 any s >>= λ n. f.read n.1 >>= measured (here s) n.0 (length n.1.bytes);
}
