use Rattle.std.specs.Prelude.{map}
use Rattle.kt_tree.specs.Declarations.{declaration_tree, interface_tree}
use Rattle.kt_decls_tops.proofs.ClassesSo.{interface_told, no_interfaces}
use Rattle.kt_decls_tops.proofs.classes.is_fine_interface.Goals as goal

pub returns-then-supers : goal.returns-then-supers
returns-then-supers c = interface_told (map declaration_tree c.args.file.now) c.args.row c.args.scope.now (interface_tree c.args.declared.now) c.in_ok-supers.supers c.in_ok-supers.ensures c.if-supers.true (declaration_tree c.args.declaration.now) c.requires.same c.is_fine_from_above.result c.is_fine_from_above.ensures

pub returns-else-supers : goal.returns-else-supers
returns-else-supers c = no_interfaces (map declaration_tree c.args.file.now) c.args.row c.args.scope.now (interface_tree c.args.declared.now) c.in_ok-supers.supers c.in_ok-supers.ensures c.if-supers.false
