-- The code that bytes would be the class file of, if they are one.
use Rattle.std.specs.Prelude.{ℕ, zero, suc, ℤ, ◌-◌, List, [], ◌∷◌, ◌++◌, length, take, drop, Option, None, Some, option_map, option_and_then, nat_le, ◌==◌, if◌then◌else◌}
use Rattle.std.specs.Int.{w16, w32, from_be_bytes, cast_signed}
use Rattle.std.specs.Str.{bytes_eq}
use Rattle.kt_base.specs.declared.stack_code.Plain.{Plain}
use Rattle.kt_base.specs.declared.stack_code.Plain.TheVariants.{Push, Add, Sub, Mul, Print}
use Rattle.jvm_class_first.specs.ClassFile.{magic, version}

-- ---- the pool

-- what stands behind so many bytes
abbrev pub behind_bytes : ℕ → List ℕ → Option (List ℕ)
behind_bytes n bytes = if nat_le n (length bytes) then Some (drop n bytes) else None

-- what stands behind a text with its length
abbrev pub behind_text : List ℕ → Option (List ℕ)
behind_text (high ∷ low ∷ bytes) = behind_bytes (from_be_bytes w16 (high ∷ low ∷ [])) bytes
behind_text _ = None

-- what stands behind the entry at the front
abbrev pub behind_entry : List ℕ → Option (List ℕ)
behind_entry [] = None
behind_entry (tag ∷ bytes) =
    if tag == 1 then behind_text bytes else
    if tag == 3 then behind_bytes 4 bytes else
    if tag == 7 then behind_bytes 2 bytes else
    if tag == 10 then behind_bytes 4 bytes else
    if tag == 12 then behind_bytes 4 bytes else None

-- what stands behind so many entries
unfoldable pub behind_entries : ℕ → List ℕ → Option (List ℕ)
behind_entries zero bytes = Some bytes
behind_entries (suc n) bytes = option_and_then (behind_entries n) (behind_entry bytes)

-- the number of the entry at the front
abbrev pub number_front : List ℕ → Option ℤ
number_front (tag ∷ a ∷ b ∷ c ∷ d ∷ bytes) = if tag == 3
    then Some (cast_signed w32 (from_be_bytes w32 (a ∷ b ∷ c ∷ d ∷ []))) else None
number_front _ = None

-- the number at an index
abbrev pub number_at : List ℕ → ℕ → Option ℤ
number_at pool i = if i == 0 then None else option_and_then number_front (behind_entries (i - 1) pool)

-- ---- the code

abbrev pub push_front : List ℕ → List ℕ → Option (Plain × List ℕ)
push_front pool (high ∷ low ∷ bytes) =
    option_map (λ n. (Push n, bytes)) (number_at pool (from_be_bytes w16 (high ∷ low ∷ [])))
push_front pool _ = None

abbrev pub print_front : List ℕ → Option (Plain × List ℕ)
print_front (a ∷ b ∷ c ∷ d ∷ e ∷ bytes) = Some (Print, bytes)
print_front _ = None

-- the step at the front, and what stands behind it
abbrev pub step_front : List ℕ → List ℕ → Option (Plain × List ℕ)
step_front pool [] = None
step_front pool (opcode ∷ bytes) =
    if opcode == 0x13 then push_front pool bytes else
    if opcode == 0x60 then Some (Add, bytes) else
    if opcode == 0x64 then Some (Sub, bytes) else
    if opcode == 0x68 then Some (Mul, bytes) else
    if opcode == 0xb8 then print_front bytes else None

abbrev pub with_next : (List ℕ → List Plain) → Option (Plain × List ℕ) → List Plain
with_next next None = []
with_next next (Some (step, bytes)) = step ∷ next bytes

-- the steps at the front, so many at most
unfoldable pub steps_front : ℕ → List ℕ → List ℕ → List Plain
steps_front zero pool bytes = []
steps_front (suc n) pool bytes = with_next (steps_front n pool) (step_front pool bytes)

-- ---- the file

-- how many bytes stand between the pool and the first step
abbrev pub before_steps : ℕ
before_steps = 37

-- the pool behind its count, and what stands from the first step on
abbrev pub counted_pool : List ℕ → Option (List ℕ × List ℕ)
counted_pool (high ∷ low ∷ pool) =
    option_and_then (λ behind. option_map (λ steps. (pool, steps)) (behind_bytes before_steps behind))
    (behind_entries (from_be_bytes w16 (high ∷ low ∷ []) - 1) pool)
counted_pool _ = None

abbrev pub pool_and_steps : List ℕ → Option (List ℕ × List ℕ)
pool_and_steps bytes = if bytes_eq (take 8 bytes) (magic ++ version) then counted_pool (drop 8 bytes) else None

abbrev pub code_of : List ℕ → Option (List Plain)
code_of bytes = option_map (λ found. steps_front 512 found.0 found.1) (pool_and_steps bytes)
