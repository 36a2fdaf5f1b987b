use Rattle.std.specs.Prelude.{map, option_map}
use Rattle.std.proofs.Common.{◌∙◌}
use Rattle.kt_tree.specs.Declarations.{declaration_tree, function_tree}
use Rattle.kt_types_tree.specs.Hierarchy.{hierarchy_form}
use Rattle.kt_decls_types.specs.Scopes.{class_named}
use Rattle.kt_decls_inherited.specs.Sights.{sight_form, types_form}
use Rattle.kt_decls_methods.proofs.Well.{signature_known, those_told}
use Rattle.kt_decls_methods.proofs.methods.overrides_those.Goals as goal

pub returns : goal.returns
returns c = those_told (map declaration_tree c.args.file.now) c.args.scope.now (function_tree c.args.function.now) (map sight_form c.args.above.now) (hierarchy_form c.args.facts.now.hierarchy) c.requires.known.tree (option_map types_form c.in_ok-types.types) (c.in_ok-types.ensures ∙ signature_known (map declaration_tree c.args.file.now) (class_named c.args.facts.now.classes) c.requires.known.names c.args.scope.now (function_tree c.args.function.now)) c.does_override.result c.does_override.ensures
