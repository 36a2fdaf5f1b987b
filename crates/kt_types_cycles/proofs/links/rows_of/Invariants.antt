use Rattle.std.proofs.Common.{◌≡◌, map, take}
use Rattle.kt_types_tree.specs.Hierarchy.{super_form}
use Rattle.kt_types_cycles.proofs.links.rows_of.Given as goal

abbrev pub invariant-loop-each : goal.invariant-loop-each
invariant-loop-each l = l.rows ≡ map (λ s. s.class) (map super_form (take l.each-index l.supertypes))
