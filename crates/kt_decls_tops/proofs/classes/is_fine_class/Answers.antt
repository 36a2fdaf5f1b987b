use Rattle.std.specs.Prelude.{map, refl}
use Rattle.kt_tree.specs.Declarations.{class_tree, declaration_tree}
use Rattle.kt_decls_tops.proofs.ClassesSo.{class_told, no_supers, not_own}
use Rattle.kt_decls_tops.proofs.classes.is_fine_class.Goals as goal

pub returns-then-not-supers : goal.returns-then-not-supers
returns-then-not-supers c = no_supers (map declaration_tree c.args.file.now) c.args.row c.args.scope.now (class_tree c.args.declared.now) c.in_ok-supers.supers c.in_ok-supers.ensures c.if-not-supers.true

pub returns-then-not-own : goal.returns-then-not-own
returns-then-not-own c = not_own (map declaration_tree c.args.file.now) c.args.row c.args.scope.now (class_tree c.args.declared.now) c.in_ok-supers.supers c.in_ok-supers.ensures c.in_ok-own.own c.in_ok-own.ensures c.if-not-own.true

pub returns : goal.returns
returns c = class_told (map declaration_tree c.args.file.now) c.args.row c.args.scope.now (class_tree c.args.declared.now) c.in_ok-supers.supers c.in_ok-supers.ensures c.in_ok-own.own c.in_ok-own.ensures c.if-not-supers.false c.if-not-own.false (declaration_tree c.args.declaration.now) c.requires.same _ _ refl refl c.is_fine_from_above.result c.is_fine_from_above.ensures
