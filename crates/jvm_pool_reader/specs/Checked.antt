-- Entries that were read so far, and the next one.
use Rattle.std.specs.Prelude.{◌≡◌, ℕ, ◌+◌, ◌≤◌, List, ◌++◌, length, Result, Ok, Err, if◌then◌else◌}
use Rattle.jvm_class_formats.specs.Formats.{Spot}
use Rattle.jvm_pool_bytes.specs.declared.raws.RawEntry.{RawEntry}
use Rattle.jvm_pool_bytes.specs.Raws.{raw_starts, raw_units}
use Rattle.jvm_pool_bytes.specs.Reading.{is_refused, Stretch}

-- entries with an offset each, the index at which each starts, and the next index
pub record AreNumbered (offsets : List ℕ) (raws : List RawEntry) (starts : List ℕ) (next : ℕ) : Type 0 where
  pub each : length raws ≡ length offsets
  pub started : starts ≡ raw_starts 1 raws
  pub counted : next ≡ 1 + raw_units raws
  pub fits : next ≤ 65535

-- an entry that was read, unless it needs more indices than are left or stands already
abbrev pub checked : ℕ → ℕ → List RawEntry → Result (RawEntry × Spot) ℕ → Result (RawEntry × Spot) ℕ
checked at left before (Err stop) = Err stop
checked at left before (Ok x) = if is_refused left before x.0 then Err at else Ok x

-- what was read, and what is read behind it
abbrev pub onto : List (ℕ × RawEntry) → Stretch → Stretch
onto before more = (before ++ more.0, more.1)
