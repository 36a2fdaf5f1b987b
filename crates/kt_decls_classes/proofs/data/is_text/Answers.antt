use Rattle.std.specs.Prelude.{map, option_map}
use Rattle.kt_tree.specs.Declarations.{declaration_tree}
use Rattle.kt_tree.specs.Types.{type_tree}
use Rattle.kt_types_tree.specs.Types.{type_form}
use Rattle.kt_decls_classes.proofs.Texts.{text_so}
use Rattle.kt_decls_classes.proofs.data.is_text.Goals as goal

pub returns : goal.returns
returns c = text_so (map declaration_tree c.args.file.now) c.args.facts.now c.requires.known c.args.scope.now (type_tree c.args.parameter.now.annotation) (option_map type_form c.in_ok-found.found) c.has_text.result c.in_ok-found.ensures c.has_text.ensures
