use Rattle.std.specs.Prelude.{map}
use Rattle.kt_tree.specs.Declarations.{declaration_tree}
use Rattle.kt_decls_tops.proofs.Declared.{not_fine, top_told}
use Rattle.kt_decls_tops.proofs.tops.is_fine_top.Goals as goal

pub returns-then-fine : goal.returns-then-fine
returns-then-fine c = top_told (map declaration_tree c.args.file.now) (declaration_tree c.args.declaration.now) c.args.is_free c.in_ok-fine.fine c.args.scope.now c.args.row c.args.first c.in_ok-fine.ensures c.if-fine.true c.is_fine_kind.result c.is_fine_kind.ensures

pub returns-else-fine : goal.returns-else-fine
returns-else-fine c = λ before same there count free. not_fine (map declaration_tree c.args.file.now) before (declaration_tree c.args.declaration.now) c.in_ok-fine.fine (c.in_ok-fine.ensures before same count free) c.if-fine.false
