use Rattle.std.specs.Prelude.{map, refl}
use Rattle.std.proofs.Common.{arith}
use Rattle.std.proofs.Common.{ap}
use Rattle.kt_tree.specs.Declarations.{declaration_tree, function_tree, method}
use Rattle.kt_decls_names.specs.Taken.{is_taken}
use Rattle.kt_decls_members.proofs.MembersJudged.{ahead, at_end, begun, go_on, none_ahead, stop_at}
use Rattle.kt_decls_members.proofs.judging.judge_functions.Goals as goal

pub loop-function-init : goal.loop-function-init
loop-function-init c = λ before d earlier row scope names. begun (map declaration_tree c.args.file.now) before d earlier (map method (map function_tree c.args.functions.now)) (is_taken c.args.taken.now) names

pub returns-then-not-fine : goal.returns-then-not-fine
returns-then-not-fine c = λ before d earlier row scope names. stop_at (map declaration_tree c.args.file.now) before d earlier (map method (map function_tree c.args.functions.now)) (is_taken c.loop-function.taken) (method (function_tree c.function-item.result)) _ _ (ap (map method) (ahead function_tree c.args.functions.now c.loop-function.function-index c.function-item.result (omega arith) c.function-item.is)) (c.loop-function.invariant before d earlier row scope names) c.in_ok-fine.fine (λ passed known. c.in_ok-fine.ensures.fine before d passed row scope known) c.if-not-fine.true c.function-item.result.at refl

pub loop-function-preserved : goal.loop-function-preserved
loop-function-preserved c = λ before d earlier row scope names. go_on (map declaration_tree c.args.file.now) before d earlier (map method (map function_tree c.args.functions.now)) (is_taken c.loop-function.taken) (method (function_tree c.function-item.result)) _ _ (ap (map method) (ahead function_tree c.args.functions.now c.loop-function.function-index c.function-item.result (omega arith) c.function-item.is)) (c.loop-function.invariant before d earlier row scope names) c.in_ok-fine.fine (λ passed known. c.in_ok-fine.ensures.fine before d passed row scope known) c.if-not-fine.false (is_taken c.one_method.new.taken) c.in_ok-fine.ensures.taken

pub returns : goal.returns
returns c = λ before d earlier row scope names. at_end (map declaration_tree c.args.file.now) before d earlier (map method (map function_tree c.args.functions.now)) (is_taken c.loop-function.taken) _ (ap (map method) (none_ahead function_tree c.args.functions.now c.loop-function.function-index (omega arith))) (c.loop-function.invariant before d earlier row scope names)
