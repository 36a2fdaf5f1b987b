use Rattle.std.specs.Prelude.{ℕ, Bool, List, ◌≡◌, ◌++◌, map, drop}
use Rattle.kt_types.specs.Kinds.{flag}
use Rattle.kt_types_order.specs.Graph.{Graph}
use Rattle.kt_types_tree.specs.Hierarchy.{header_form}
use Rattle.kt_decls_hierarchy.specs.Marks.{marked, completed_from}
use Rattle.kt_decls_hierarchy.proofs.hierarchies.completed_rows.Given as goal

abbrev pub invariant-loop-header : goal.invariant-loop-header
invariant-loop-header l =
    (l.row ≡ l.header-index) ×
    ((g : Graph) (own other : List Bool) →
    ((row : ℕ) → flag l.to_string row ≡ marked g own row) →
    ((row : ℕ) → flag l.equals row ≡ marked g other row) →
    map header_form l.done ++ completed_from g own other l.row (map header_form (drop l.header-index l.headers)) ≡ completed_from g own other 0 (map header_form l.headers))
