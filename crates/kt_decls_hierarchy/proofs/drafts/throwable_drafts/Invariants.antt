use Rattle.std.specs.Prelude.{◌≡◌, ◌++◌, map, drop}
use Rattle.kt_types_tree.specs.Hierarchy.{header_form}
use Rattle.kt_decls_hierarchy.specs.Drafts.{throwable_draft}
use Rattle.kt_decls_hierarchy.proofs.drafts.throwable_drafts.Given as goal

abbrev pub invariant-loop-throwable : goal.invariant-loop-throwable
invariant-loop-throwable l =
    map header_form l.done ++ map throwable_draft (drop l.throwable-index l.throwable-items) ≡ map throwable_draft l.throwable-items
