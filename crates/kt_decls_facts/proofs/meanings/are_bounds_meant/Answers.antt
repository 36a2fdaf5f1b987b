use Rattle.std.specs.Prelude.{List, map, drop, ◌+◌}
use Rattle.std.specs.List.{flat_map}
use Rattle.std.proofs.Common.{arith}
use Rattle.kt_tree.specs.Types.{maybe_type}
use Rattle.kt_tree.specs.Declarations.{declaration_tree, type_parameter_tree}
use Rattle.kt_tree.specs.declared.declarations.TypeParameter.{TypeParameter}
use Rattle.kt_decls_rules.specs.Rules.{AreMeant, written}
use Rattle.kt_decls_bounds.proofs.Deciding.{next, stops, goes, ends}
use Rattle.kt_decls_facts.proofs.Split.{parted}
use Rattle.kt_decls_facts.proofs.meanings.are_bounds_meant.Goals as goal

pub returns-then-not-meant : goal.returns-then-not-meant
returns-then-not-meant c = stops c.in_ok-meant.meant (parted (map declaration_tree c.args.file.now) c.args.scope.now (written (maybe_type c.each-item.result.bound)) (flat_map (λ p. written p.bound) (map type_parameter_tree (drop (c.loop-each.each-index + 1) c.args.written.now))) (next (λ (ts : List TypeParameter). AreMeant (map declaration_tree c.args.file.now) c.args.scope.now (flat_map (λ p. written p.bound) (map type_parameter_tree ts))) c.args.written.now c.loop-each.each-index c.each-item.result (omega arith) c.each-item.is c.loop-each.invariant)) c.in_ok-meant.ensures c.if-not-meant.true

pub loop-each-preserved : goal.loop-each-preserved
loop-each-preserved c = goes c.in_ok-meant.meant (parted (map declaration_tree c.args.file.now) c.args.scope.now (written (maybe_type c.each-item.result.bound)) (flat_map (λ p. written p.bound) (map type_parameter_tree (drop (c.loop-each.each-index + 1) c.args.written.now))) (next (λ (ts : List TypeParameter). AreMeant (map declaration_tree c.args.file.now) c.args.scope.now (flat_map (λ p. written p.bound) (map type_parameter_tree ts))) c.args.written.now c.loop-each.each-index c.each-item.result (omega arith) c.each-item.is c.loop-each.invariant)) c.in_ok-meant.ensures c.if-not-meant.false

pub returns : goal.returns
returns c = ends (λ (ts : List TypeParameter). AreMeant (map declaration_tree c.args.file.now) c.args.scope.now (flat_map (λ p. written p.bound) (map type_parameter_tree ts))) c.args.written.now c.loop-each.each-index (omega arith) tt c.loop-each.invariant
