-- Which units are within limits, and at which place the others are refused.
use Rattle.std.specs.Prelude.{ℕ, ◌+◌, ◌≤◌, ◌≡◌, List, take, Some, slice_get, Result, Ok, Err}
use Rattle.kt_base.specs.declared.refusals.Pos.{Pos}
use Rattle.kt_base.specs.declared.refusals.Kind.TheVariants as kind
use Rattle.kt_base.specs.declared.refusals.FrontErr.{FrontErr}
use Rattle.kt_base.specs.declared.refusals.FrontErr.TheVariants as front_err
use Rattle.kt_typed.specs.Units.{UnitForm}
use Rattle.kt_limits.specs.Limits.{Part, Owner, AreWithinLimits}
use Rattle.kt_limits.specs.Parts.{parts}

-- The first of a list of parts such that those up to and with it pass a limit.
pub record IsFirstBeyond (ps : List (Owner × Part)) (p : Pos) : Type 0 where
  pub number : ℕ
  pub part : Owner × Part
  pub stands : slice_get ps number ≡ Some part
  pub before : (m : ℕ) → m ≤ number → AreWithinLimits (take m ps)
  pub fails : AreWithinLimits (take (number + 1) ps) → ⊥
  pub at : part.1.at ≡ p

-- a unit is within all limits
abbrev pub IsWithin : UnitForm → Type 0
IsWithin u = AreWithinLimits (parts u)

-- A unit is refused at the first header such that the headers up to and with it pass a limit; where none does, at the
-- first direct statement such that the unit cut behind it passes one.
abbrev pub IsRefusedAt : UnitForm → Pos → Type 0
IsRefusedAt u p = IsFirstBeyond (parts u) p

-- what is answered of a unit; want of memory never
abbrev pub Judges : {A : Type 0} → Result A FrontErr → UnitForm → Type 0
Judges (Ok done) u = IsWithin u
Judges (Err (front_err.Refused r)) u = (r.kind ≡ kind.Size) × IsRefusedAt u r.pos
Judges (Err front_err.NoMemory) u = ⊥

-- Laws.

-- a unit is within limits, or refused at one place, and not both
pub record IsJudgedOnce (u : UnitForm) : Type 0 where
  pub not_both : (p : Pos) → IsWithin u → IsRefusedAt u p → ⊥
  pub one_place : (p q : Pos) → IsRefusedAt u p → IsRefusedAt u q → p ≡ q
  pub not_neither : (IsWithin u → ⊥) → ((p : Pos) → IsRefusedAt u p → ⊥) → ⊥

abbrev pub AreJudgedOnce : Type 0
AreJudgedOnce = (u : UnitForm) → IsJudgedOnce u

-- what passes a limit passes it with more behind it
abbrev pub NeverComesBack : Type 0
NeverComesBack =
    (ps : List (Owner × Part)) (m n : ℕ) → m ≤ n → AreWithinLimits (take n ps) → AreWithinLimits (take m ps)
