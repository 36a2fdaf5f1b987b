use Rattle.std.specs.Prelude.{map}
use Rattle.kt_tree.specs.Declarations.{declaration_tree, interface_tree}
use Rattle.kt_decls_tops.proofs.ClassParts.{interfaces_told}
use Rattle.kt_decls_tops.proofs.classes.has_interfaces_above.Goals as goal

pub returns : goal.returns
returns c = interfaces_told (map declaration_tree c.args.file.now) c.args.row c.args.scope.now (interface_tree c.args.declared.now) c.in_ok-fine.fine c.in_ok-ends.ends c.both.result c.both.ensures (rw c.as_slice-written.ensures at c.in_ok-fine.ensures) c.in_ok-ends.ensures
