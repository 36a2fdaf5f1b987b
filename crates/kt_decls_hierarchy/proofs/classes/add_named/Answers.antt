use Rattle.std.specs.Prelude.{ℕ, List, Result, Ok, Err, OnOk}
use Rattle.std.proofs.Common.{◌∙◌}
use Rattle.kt_base.specs.declared.errors.NoMemory.{NoMemory}
use Rattle.kt_decls_types.specs.Scopes.{class_named}
use Rattle.kt_decls_hierarchy.proofs.Naming.{found_named}
use Rattle.kt_decls_hierarchy.proofs.classes.add_named.Goals as goal

on_ok : {A : Type 0} (r : Result ℕ NoMemory) → A → OnOk r A
on_ok (Ok x) a = a
on_ok (Err e) a = tt

pub returns-clause-names : goal.returns-clause-names
returns-clause-names c = on_ok c.sum_of.result (λ (x : List ℕ). c.in_ok-add.ensures x ∙ found_named (class_named c.args.names.now x) c.args.name.now c.args.row c.args.parameters x)
