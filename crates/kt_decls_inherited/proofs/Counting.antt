-- As many arguments as there are types.
use Rattle.std.specs.Prelude.{ℕ, suc, List, [], ◌∷◌, ◌+◌, ◌≡◌, length, map, refl}
use Rattle.std.proofs.Common.{arith}
use Rattle.kt_types_tree.specs.declared.types.KtType.{KtType}
use Rattle.kt_types_tree.specs.Types.{forms_of, type_form}
use Rattle.kt_decls_rules.specs.Erasure.{count_of}

pub count_is : (ts : List KtType) → count_of (forms_of (map type_form ts)) ≡ length ts
count_is [] = refl
count_is (t ∷ ts) = let e : count_of (forms_of (map type_form ts)) ≡ length ts = count_is ts in omega (arith, e)
