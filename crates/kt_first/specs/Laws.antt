-- Laws of the programs of the first subset.
use Rattle.std.specs.Prelude.{◌≡◌, ℕ, List}
use Rattle.kt_first.specs.Programs.{Program, values_of}
use Rattle.kt_first.specs.Trees.{IsFirst}

-- a text has one meaning
abbrev pub OneMeaning : Type 0
OneMeaning = (text : List ℕ) (p q : Program) → IsFirst text p → IsFirst text q → values_of p ≡ values_of q
