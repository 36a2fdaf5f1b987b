use Rattle.std.proofs.Common.{◌≡◌, map, take}
use Rattle.kt_types_tree.specs.Types.{type_form, forms_of, substituted}
use Rattle.kt_types.proofs.substitution.+substitute.Given as goal

abbrev pub invariant-substitute_all-loop-t : goal.invariant-substitute_all-loop-t
invariant-substitute_all-loop-t l = map type_form l.done ≡ map (λ t. substituted (forms_of (map type_form l.arguments)) (type_form t)) (take l.t-index l.all)
