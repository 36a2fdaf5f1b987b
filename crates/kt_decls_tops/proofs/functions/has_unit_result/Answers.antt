use Rattle.std.specs.Prelude.{map, option_map, refl}
use Rattle.kt_tree.specs.Declarations.{declaration_tree}
use Rattle.kt_tree.specs.Types.{type_tree}
use Rattle.kt_types_tree.specs.Types.{type_form}
use Rattle.kt_decls_types.specs.Scopes.{class_named}
use Rattle.kt_decls_bounds.proofs.Deciding.{always}
use Rattle.kt_decls_tops.proofs.FunctionsSo.{result_so}
use Rattle.kt_decls_tops.proofs.functions.has_unit_result.Goals as goal

pub returns-in-None : goal.returns-in-None
returns-in-None c = rw c.in-None.is (always refl)

pub returns-in_ok-found-in-Some : goal.returns-in_ok-found-in-Some
returns-in_ok-found-in-Some c = rw c.in-Some.is (result_so (map declaration_tree c.args.file.now) (class_named c.args.facts.now.classes) c.requires.known.names c.args.scope.now (type_tree c.in-Some.one) (option_map type_form c.in_ok-found-in-Some.found) c.is_unit.result c.in_ok-found-in-Some.ensures c.is_unit.ensures)
