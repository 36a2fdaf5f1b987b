use Rattle.std.specs.Prelude.{map}
use Rattle.kt_tree.specs.Declarations.{class_tree, declaration_tree}
use Rattle.kt_decls_tops.proofs.ClassParts.{own_told}
use Rattle.kt_decls_tops.proofs.classes.has_fine_own.Goals as goal

pub returns : goal.returns
returns c = own_told (map declaration_tree c.args.file.now) c.args.row c.args.scope.now (class_tree c.args.declared.now) c.has_bodies-bodies.result c.in_ok-data.data c.are_new_parameters-fresh.result c.both.result c.both-2.result c.both.ensures c.both-2.ensures c.has_bodies-bodies.ensures c.in_ok-data.ensures (rw c.as_slice.ensures at c.are_new_parameters-fresh.ensures)
