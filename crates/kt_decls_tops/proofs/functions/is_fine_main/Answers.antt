use Rattle.std.specs.Prelude.{map}
use Rattle.std.proofs.Common.{arith}
use Rattle.kt_tree.specs.Declarations.{declaration_tree, function_tree}
use Rattle.kt_decls_tops.proofs.FunctionsSo.{has_parameters, main_told, none_written, other_name, some_written}
use Rattle.kt_decls_tops.proofs.functions.is_fine_main.Goals as goal

pub returns-then-not-main : goal.returns-then-not-main
returns-then-not-main c = other_name (map declaration_tree c.args.file.now) c.args.scope.now (function_tree c.args.function.now) c.is_main-main.result c.is_main-main.ensures c.if-not-main.true

pub returns-then-len-eq0 : goal.returns-then-len-eq0
returns-then-len-eq0 c = main_told (map declaration_tree c.args.file.now) c.args.scope.now (function_tree c.args.function.now) c.is_main-main.result c.is_main-main.ensures c.if-not-main.false (none_written c.args.function.now.type_parameters (omega arith)) c.has_unit_result.result c.has_unit_result.ensures

pub returns-else-len-eq0 : goal.returns-else-len-eq0
returns-else-len-eq0 c = has_parameters (map declaration_tree c.args.file.now) c.args.scope.now (function_tree c.args.function.now) c.is_main-main.result c.is_main-main.ensures c.if-not-main.false (λ none. some_written c.args.function.now.type_parameters none (omega arith))
