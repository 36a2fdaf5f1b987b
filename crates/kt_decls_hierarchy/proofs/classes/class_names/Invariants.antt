use Rattle.std.specs.Prelude.{ℕ, List, ◌≡◌, map, drop}
use Rattle.std.specs.List.{flat_map}
use Rattle.kt_tree.specs.Declarations.{declaration_tree}
use Rattle.kt_decls_types.specs.Scopes as scopes
use Rattle.kt_decls_rules.specs.Tables.{class_entry, class_from, class_named}
use Rattle.kt_decls_hierarchy.specs.Drafts.{or_found}
use Rattle.kt_decls_hierarchy.proofs.classes.class_names.Given as goal

abbrev pub invariant-loop-declaration : goal.invariant-loop-declaration
invariant-loop-declaration l = (x : List ℕ) →
    class_named (map declaration_tree l.declarations) x ≡ or_found (scopes.class_named l.names x) (class_from l.row (flat_map class_entry (map declaration_tree (drop l.declaration-index l.declarations))) x)
