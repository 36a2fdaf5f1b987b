-- Parts of a class file judged by what they hold: the tally behind a part, where it is allowed, its mentions stand in the
-- order of first mention, and its bytes have room.
use Rattle.std.specs.Prelude.{ℕ, ◌*◌, ◌-◌, ◌^◌, Bool, true, false, ◌&&◌, List, [], ◌∷◌, length, Option, None, Some, nat_lt, if◌then◌else◌}
use Rattle.std.specs.Int.{Width, w16, w32, byte_len}
use Rattle.jvm_pool.specs.declared.entries.Entry.{Entry}
use Rattle.jvm_pool.specs.Mentions.{count_mention}
use Rattle.jvm_class_formats.specs.Formats.{any}
use Rattle.jvm_class_tally.specs.declared.tally.Tally as declared
use Rattle.jvm_class_tally.specs.declared.tally.Tally.{Tally}

abbrev pub tally : ℕ → Option ℕ → Tally
tally counter room = record { counter = counter; room = room }

abbrev pub on : Option Tally → (Tally → Option Tally) → Option Tally
on None f = None
on (Some t) f = f t

abbrev pub when : {A : Type 0} → Bool → Option A → Option A
when true o = o
when false o = None

-- the room that so many bytes leave; outside of an attribute there is always room
abbrev pub left : ℕ → Option ℕ → Option (Option ℕ)
left n None = Some None
left n (Some room) = if nat_lt room n then None else Some (Some (room - n))

abbrev pub with_room : ℕ → Option (Option ℕ) → Option Tally
with_room counter None = None
with_room counter (Some room) = Some (tally counter room)

-- behind so many bytes
abbrev pub took : ℕ → Tally → Option Tally
took n t = with_room t.counter (left n t.room)

-- behind a mention that moves the counter so
abbrev pub moved : Tally → Option ℕ → Option Tally
moved t None = None
moved t (Some counter) = Some (tally counter t.room)

abbrev pub judge_number : Width → (ℕ → Bool) → ℕ → Tally → Option Tally
judge_number w rule n t = when (nat_lt n (2 ^ (8 * byte_len w)) && rule n) (took (byte_len w) t)

module _ (es : List Entry) where
  -- the index of an entry
  abbrev pub judge_entry : Entry → Tally → Option Tally
  judge_entry e t = on (took 2 t) (λ u. moved u (count_mention es e u.counter))

  abbrev pub judge_mention : {A : Type 0} → (A → Entry) → (A → Bool) → A → Tally → Option Tally
  judge_mention entry keeps a t = when (keeps a) (judge_entry (entry a) t)

  abbrev pub judge_optional : {A : Type 0} → (A → Entry) → (A → Bool) → Option A → Tally → Option Tally
  judge_optional entry keeps None t = judge_number w16 any 0 t
  judge_optional entry keeps (Some a) t = judge_mention entry keeps a t

abbrev pub judge_seq : {A B : Type 0} → (A → Tally → Option Tally) → (A → B → Tally → Option Tally) → A × B → Tally
    → Option Tally
judge_seq f g x t = on (f x.0 t) (g x.0 x.1)

abbrev pub judge_in : {A : Type 0} → (A → Tally → Option Tally) → Option A → Tally → Option Tally
judge_in f None t = None
judge_in f (Some a) t = f a t

abbrev pub judge_one : {A : Type 0} → Bool → (A → Tally → Option Tally) → (A → Tally → Option Tally) → A → Tally
    → Option Tally
judge_one true f g = f
judge_one false f g = g

abbrev pub judge_each : {A : Type 0} → (A → Tally → Option Tally) → List A → Tally → Option Tally
judge_each f [] t = Some t
judge_each f (a ∷ l) t = on (f a t) (judge_each f l)

abbrev pub judge_counted : {A : Type 0} → (A → Tally → Option Tally) → List A → Tally → Option Tally
judge_counted f l t = on (judge_number w16 any (length l) t) (judge_each f l)

-- the room behind a length field, where there is none yet
abbrev pub entered : Tally → Tally
entered t = tally t.counter (Some (2 ^ 32 - 1))

abbrev pub left_behind : Option Tally → Option Tally
left_behind None = None
left_behind (Some t) = Some (tally t.counter None)

abbrev pub judge_within : {A : Type 0} → (A → Tally → Option Tally) → A → Tally → Option ℕ → Option Tally
judge_within f a t None = left_behind (f a (entered t))
judge_within f a t (Some room) = f a t

-- a part behind its length
abbrev pub judge_sized : {A : Type 0} → (A → Tally → Option Tally) → A → Tally → Option Tally
judge_sized f a t = on (took 4 t) (λ u. judge_within f a u u.room)
