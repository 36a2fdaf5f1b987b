use Rattle.std.proofs.Common.{◌≡◌, map, take}
use Rattle.kt_types_tree.specs.Types.{type_form}
use Rattle.kt_types_tree.proofs.copying.+copy.Given as goal

abbrev pub invariant-copy_all-loop-t : goal.invariant-copy_all-loop-t
invariant-copy_all-loop-t l = map type_form l.copies ≡ map type_form (take l.t-index l.all)
