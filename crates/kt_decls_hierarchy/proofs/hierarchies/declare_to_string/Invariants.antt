use Rattle.std.specs.Prelude.{◌≡◌, ◌++◌, map, drop}
use Rattle.kt_types_tree.specs.Hierarchy.{header_form}
use Rattle.kt_decls_hierarchy.proofs.hierarchies.declare_to_string.Given as goal

abbrev pub invariant-loop-header : goal.invariant-loop-header
invariant-loop-header l =
    l.done ++ map (λ c. c.has_to_string) (map header_form (drop l.header-index l.headers)) ≡ map (λ c. c.has_to_string) (map header_form l.headers)
