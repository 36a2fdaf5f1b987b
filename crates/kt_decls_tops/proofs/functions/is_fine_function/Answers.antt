use Rattle.std.specs.Prelude.{map}
use Rattle.kt_tree.specs.Declarations.{declaration_tree, function_tree}
use Rattle.kt_decls_tops.proofs.FunctionsSo.{function_told, is_marked}
use Rattle.kt_decls_tops.proofs.functions.is_fine_function.Goals as goal

pub returns-then-marked : goal.returns-then-marked
returns-then-marked c = is_marked (map declaration_tree c.args.file.now) c.args.scope.now (function_tree c.args.function.now) c.is_marked-marked.result c.is_marked-marked.ensures c.if-marked.true

pub returns-else-marked : goal.returns-else-marked
returns-else-marked c = function_told (map declaration_tree c.args.file.now) c.args.scope.now (function_tree c.args.function.now) c.is_marked-marked.result c.is_marked-marked.ensures c.if-marked.false c.is_fine_main.result c.is_fine_main.ensures
