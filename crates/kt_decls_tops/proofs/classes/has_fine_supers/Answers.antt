use Rattle.std.specs.Prelude.{map}
use Rattle.kt_tree.specs.Declarations.{class_tree, declaration_tree}
use Rattle.kt_decls_tops.proofs.ClassParts.{supers_told}
use Rattle.kt_decls_tops.proofs.classes.has_fine_supers.Goals as goal

pub returns : goal.returns
returns c = supers_told (map declaration_tree c.args.file.now) c.args.row c.args.scope.now (class_tree c.args.declared.now) c.in_ok-fine.fine c.has_one_superclass-one.result c.in_ok-ends.ends c.both.result c.both-2.result c.both.ensures c.both-2.ensures (rw c.as_slice-written.ensures at c.in_ok-fine.ensures) (rw c.as_slice-written.ensures at c.has_one_superclass-one.ensures) c.in_ok-ends.ensures
