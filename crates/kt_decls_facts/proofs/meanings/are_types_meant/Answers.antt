use Rattle.std.specs.Prelude.{List, map}
use Rattle.std.proofs.Common.{arith}
use Rattle.kt_tree.specs.Types.{type_tree}
use Rattle.kt_tree.specs.Declarations.{declaration_tree}
use Rattle.kt_tree.specs.declared.types.TypeReference.{TypeReference}
use Rattle.kt_decls_rules.specs.Rules.{AreMeant}
use Rattle.kt_decls_bounds.proofs.Deciding.{next, stops, goes, ends}
use Rattle.kt_decls_facts.proofs.meanings.are_types_meant.Goals as goal

pub returns-then-not-meant : goal.returns-then-not-meant
returns-then-not-meant c = stops c.in_ok-meant.meant (next (λ (ts : List TypeReference). AreMeant (map declaration_tree c.args.file.now) c.args.scope.now (map type_tree ts)) c.args.written.now c.loop-each.each-index c.each-item.result (omega arith) c.each-item.is c.loop-each.invariant) c.in_ok-meant.ensures c.if-not-meant.true

pub loop-each-preserved : goal.loop-each-preserved
loop-each-preserved c = goes c.in_ok-meant.meant (next (λ (ts : List TypeReference). AreMeant (map declaration_tree c.args.file.now) c.args.scope.now (map type_tree ts)) c.args.written.now c.loop-each.each-index c.each-item.result (omega arith) c.each-item.is c.loop-each.invariant) c.in_ok-meant.ensures c.if-not-meant.false

pub returns : goal.returns
returns c = ends (λ (ts : List TypeReference). AreMeant (map declaration_tree c.args.file.now) c.args.scope.now (map type_tree ts)) c.args.written.now c.loop-each.each-index (omega arith) tt c.loop-each.invariant
