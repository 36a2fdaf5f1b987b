use Rattle.std.specs.Prelude.{ℕ, true, ◌++◌, ◌≡◌, map, Result, Ok, Err, OnOk}
use Rattle.kt_base.specs.declared.errors.NoMemory.{NoMemory}
use Rattle.kt_tree.specs.Declarations.{enum}
use Rattle.kt_types_tree.specs.Hierarchy.{header_form}
use Rattle.kt_decls_types.specs.Scopes.{class_named}
use Rattle.kt_decls_hierarchy.specs.Drafts.{Classes, class_draft, draft_if}
use Rattle.kt_decls_hierarchy.proofs.drafts.push_draft.Goals as goal

at_classes : (P : Classes → Type 0) (classes : Classes) (r : Result ℕ NoMemory) → OnOk r ((cs : Classes) → P cs) → OnOk r (P classes)
at_classes P classes (Ok n) p = p classes
at_classes P classes (Err e) p = tt

pub returns-in-Enum-clause-drafts : goal.returns-in-Enum-clause-drafts
returns-in-Enum-clause-drafts c =
    rw c.in-Enum.is (at_classes (λ (cs : Classes). map header_form c.push_enum.new.done ≡ map header_form c.args.done.now ++ draft_if true (class_draft cs c.args.first (enum c.in-Enum.entries))) (class_named c.args.classes.now) c.push_enum.result c.push_enum.ensures.drafts)
