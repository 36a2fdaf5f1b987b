use Rattle.std.proofs.Common.{◌≡◌, map, take}
use Rattle.kt_types_tree.specs.Types.{type_form}
use Rattle.kt_types_order.specs.Graph.{bound_rows}
use Rattle.kt_types_cycles.proofs.links.bound_links.Given as goal

abbrev pub invariant-loop-bound : goal.invariant-loop-bound
invariant-loop-bound l = l.graph ≡ map bound_rows (map type_form (take l.bound-index l.bound-items))
