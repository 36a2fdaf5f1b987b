use Rattle.std.specs.Prelude.{map}
use Rattle.kt_tree.specs.Declarations.{constant_tree, declaration_tree}
use Rattle.kt_decls_types.specs.Scopes.{class_named}
use Rattle.kt_decls_tops.proofs.ConstantsSo.{header_told}
use Rattle.kt_decls_tops.proofs.constants.is_fine_constant.Goals as goal

pub returns : goal.returns
returns c = header_told (map declaration_tree c.args.file.now) (constant_tree c.args.constant.now) (class_named c.args.facts.now.classes) c.requires.known.names c.has_header.result (c.has_header.ensures _ c.constant_header.ensures)
