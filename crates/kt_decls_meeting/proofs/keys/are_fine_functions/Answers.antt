use Rattle.std.specs.Prelude.{List, map}
use Rattle.std.proofs.Common.{arith}
use Rattle.kt_tree.specs.Declarations.{declaration_tree, function_tree}
use Rattle.kt_decls_rules.specs.ClassRules.{IsFineAbove}
use Rattle.kt_decls_meeting.specs.Keys.{AreKeys}
use Rattle.kt_tree.specs.declared.declarations.FunctionDeclaration.{FunctionDeclaration}
use Rattle.kt_decls_bounds.proofs.Deciding.{next, stops, goes, ends}
use Rattle.kt_decls_meeting.proofs.keys.are_fine_functions.Goals as goal

pub returns-then-not-fine : goal.returns-then-not-fine
returns-then-not-fine c = stops c.in_ok-fine.fine (next (λ (xs : List FunctionDeclaration). AreKeys (IsFineAbove (map declaration_tree c.args.file.now) c.args.row c.args.needs_bodies c.args.is_data (declaration_tree c.args.declaration.now)) (map function_tree xs)) c.args.functions.now c.loop-function.function-index c.function-item.result (omega arith) c.function-item.is c.loop-function.invariant) c.in_ok-fine.ensures c.if-not-fine.true

pub loop-function-preserved : goal.loop-function-preserved
loop-function-preserved c = goes c.in_ok-fine.fine (next (λ (xs : List FunctionDeclaration). AreKeys (IsFineAbove (map declaration_tree c.args.file.now) c.args.row c.args.needs_bodies c.args.is_data (declaration_tree c.args.declaration.now)) (map function_tree xs)) c.args.functions.now c.loop-function.function-index c.function-item.result (omega arith) c.function-item.is c.loop-function.invariant) c.in_ok-fine.ensures c.if-not-fine.false

pub returns : goal.returns
returns c = ends (λ (xs : List FunctionDeclaration). AreKeys (IsFineAbove (map declaration_tree c.args.file.now) c.args.row c.args.needs_bodies c.args.is_data (declaration_tree c.args.declaration.now)) (map function_tree xs)) c.args.functions.now c.loop-function.function-index (omega arith) tt c.loop-function.invariant
