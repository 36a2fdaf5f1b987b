-- Values as texts, where no class decides.
use Rattle.std.specs.Prelude.{ℕ, Bool, true, false, List, [], ◌∷◌, length, nat_lt, Option, Some, None, codes}
use Rattle.std.specs.Fmt.{signed_decimal}
use Rattle.kt_values.specs.Values as v
use Rattle.kt_values.specs.Values.{Value}

-- the text of a value that is no object and no entry of an enum
abbrev pub text_of_basic : Value → Option (List ℕ)
text_of_basic (v.int n) = Some (signed_decimal n)
text_of_basic (v.long n) = Some (signed_decimal n)
text_of_basic (v.truth true) = Some (codes "true")
text_of_basic (v.truth false) = Some (codes "false")
text_of_basic (v.character c) = Some (c ∷ [])
text_of_basic (v.text t) = Some t
text_of_basic v.null = Some (codes "null")
text_of_basic v.unit = Some (codes "kotlin.Unit")
text_of_basic _ = None

-- a text has at most 16,777,216 units
abbrev pub is_too_long : List ℕ → Bool
is_too_long t = nat_lt 16777216 (length t)
