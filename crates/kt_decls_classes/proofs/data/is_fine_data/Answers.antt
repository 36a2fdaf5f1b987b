use Rattle.std.specs.Prelude.{map}
use Rattle.kt_tree.specs.Declarations.{class_tree, declaration_tree}
use Rattle.kt_decls_classes.proofs.Texts.{data_told, not_data}
use Rattle.kt_decls_classes.proofs.data.is_fine_data.Goals as goal

pub returns-then-plain : goal.returns-then-plain
returns-then-plain c = data_told (map declaration_tree c.args.file.now) c.args.scope.now (class_tree c.args.class.now) c.is_plain_data-plain.result c.are_texts.result c.is_plain_data-plain.ensures c.if-plain.true (rw c.as_slice.ensures at c.are_texts.ensures)

pub returns-else-plain : goal.returns-else-plain
returns-else-plain c = not_data (map declaration_tree c.args.file.now) c.args.scope.now (class_tree c.args.class.now) c.is_plain_data-plain.result c.is_plain_data-plain.ensures c.if-plain.false
