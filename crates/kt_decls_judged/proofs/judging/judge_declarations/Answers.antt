use Rattle.std.specs.Prelude.{map, take}
use Rattle.std.proofs.Common.{ap, arith}
use Rattle.std.proofs.lemmas.List.{drop_all}
use Rattle.kt_tree.specs.Declarations.{declaration_tree}
use Rattle.kt_decls_names.specs.Taken.{is_taken}
use Rattle.kt_decls_judged.proofs.Passing.{ahead, passed}
use Rattle.kt_decls_judged.proofs.Walking.{at_end, begun, step_off, step_on}
use Rattle.kt_decls_judged.proofs.judging.judge_declarations.Goals as goal

pub loop-declaration-init : goal.loop-declaration-init
loop-declaration-init c = begun (map declaration_tree c.args.file.now) (is_taken c.new-taken.result) c.in_ok-row.row c.new-taken.ensures c.in_ok-row.ensures

pub returns-then-failed : goal.returns-then-failed
returns-then-failed c = step_off (map declaration_tree c.args.file.now) (is_taken c.loop-declaration.taken) c.loop-declaration.row c.loop-declaration.first (map declaration_tree (take c.loop-declaration.declaration-index c.args.file.now)) _ _ (declaration_tree c.declaration-item.result) (ahead c.args.file.now c.loop-declaration.declaration-index c.declaration-item.result (omega arith) c.declaration-item.is) c.loop-declaration.invariant c.in_ok-told.told.0 c.in_ok-told.ensures.judged c.is_some-failed.result c.is_some-failed.ensures c.if-failed.true

pub loop-declaration-preserved : goal.loop-declaration-preserved
loop-declaration-preserved c = step_on (map declaration_tree c.args.file.now) (is_taken c.loop-declaration.taken) c.loop-declaration.row c.loop-declaration.first (map declaration_tree (take c.loop-declaration.declaration-index c.args.file.now)) _ _ (declaration_tree c.declaration-item.result) (ahead c.args.file.now c.loop-declaration.declaration-index c.declaration-item.result (omega arith) c.declaration-item.is) c.loop-declaration.invariant c.in_ok-told.told.0 c.in_ok-told.ensures.judged c.is_some-failed.result c.is_some-failed.ensures c.if-failed.false _ (passed c.args.file.now c.loop-declaration.declaration-index c.declaration-item.result (omega arith) c.declaration-item.is) (is_taken c.judge_declaration.new.taken) _ _ c.in_ok-row-2.ensures c.in_ok-told.ensures.next c.in_ok-told.ensures.taken

pub returns : goal.returns
returns c = at_end (map declaration_tree c.args.file.now) (is_taken c.loop-declaration.taken) c.loop-declaration.row c.loop-declaration.first (map declaration_tree (take c.loop-declaration.declaration-index c.args.file.now)) _ (ap (map declaration_tree) (drop_all c.loop-declaration.declaration-index c.args.file.now (omega arith))) c.loop-declaration.invariant
