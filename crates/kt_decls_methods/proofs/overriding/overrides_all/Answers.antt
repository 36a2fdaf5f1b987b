use Rattle.std.specs.Prelude.{List, map, option_map}
use Rattle.std.proofs.Common.{arith}
use Rattle.kt_types_tree.specs.Hierarchy.{hierarchy_form}
use Rattle.kt_decls_inherited.specs.declared.sights.Sight.{Sight}
use Rattle.kt_decls_inherited.specs.Sights.{sight_form, types_form}
use Rattle.kt_decls_bounds.proofs.Deciding.{next, stops, goes, ends}
use Rattle.kt_decls_methods.specs.Overriding.{OverridesSights}
use Rattle.kt_decls_methods.proofs.overriding.overrides_all.Goals as goal

pub returns-then-not-fine : goal.returns-then-not-fine
returns-then-not-fine c = stops c.overrides-fine.result (next (λ (ss : List Sight). OverridesSights (hierarchy_form c.args.h.now) c.args.is_suspend (option_map types_form c.args.types.now) (map sight_form ss)) c.args.above.now c.loop-each.each-index c.each-item.result (omega arith) c.each-item.is c.loop-each.invariant) c.overrides-fine.ensures c.if-not-fine.true

pub loop-each-preserved : goal.loop-each-preserved
loop-each-preserved c = goes c.overrides-fine.result (next (λ (ss : List Sight). OverridesSights (hierarchy_form c.args.h.now) c.args.is_suspend (option_map types_form c.args.types.now) (map sight_form ss)) c.args.above.now c.loop-each.each-index c.each-item.result (omega arith) c.each-item.is c.loop-each.invariant) c.overrides-fine.ensures c.if-not-fine.false

pub returns : goal.returns
returns c = ends (λ (ss : List Sight). OverridesSights (hierarchy_form c.args.h.now) c.args.is_suspend (option_map types_form c.args.types.now) (map sight_form ss)) c.args.above.now c.loop-each.each-index (omega arith) tt c.loop-each.invariant
