use Rattle.std.proofs.Common.{◌≡◌, map, take}
use Rattle.kt_types_tree.specs.Hierarchy.{header_form}
use Rattle.kt_types_order.specs.Graph.{super_rows}
use Rattle.kt_types_cycles.proofs.links.class_links.Given as goal

abbrev pub invariant-loop-header : goal.invariant-loop-header
invariant-loop-header l = l.graph ≡ map super_rows (map header_form (take l.header-index l.header-items))
