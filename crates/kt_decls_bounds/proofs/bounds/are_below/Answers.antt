use Rattle.std.proofs.Common.{List, map, arith}
use Rattle.kt_types_tree.specs.declared.types.KtType.{KtType}
use Rattle.kt_types_tree.specs.Types.{forms_of, type_form}
use Rattle.kt_types_tree.specs.Hierarchy.{hierarchy_form}
use Rattle.kt_decls_rules.specs.Rules.{AreBelowBounds, header_at}
use Rattle.kt_decls_bounds.proofs.Deciding.{next, stops, goes, ends}
use Rattle.kt_decls_bounds.proofs.bounds.are_below.Goals as goal

pub returns-then-not-below : goal.returns-then-not-below
returns-then-not-below c = stops c.in_ok-below.below (next (λ (ts : List KtType). AreBelowBounds (hierarchy_form c.args.h.now) (header_at (hierarchy_form c.args.h.now) c.args.constructor) (forms_of (map type_form c.args.all.now)) c.loop-argument.place (forms_of (map type_form ts))) c.args.all.now c.loop-argument.argument-index c.argument-item.result (omega arith) c.argument-item.is c.loop-argument.invariant.1) c.in_ok-below.ensures c.if-not-below.true

pub loop-argument-preserved : goal.loop-argument-preserved
loop-argument-preserved c = (omega arith, goes c.in_ok-below.below (next (λ (ts : List KtType). AreBelowBounds (hierarchy_form c.args.h.now) (header_at (hierarchy_form c.args.h.now) c.args.constructor) (forms_of (map type_form c.args.all.now)) c.loop-argument.place (forms_of (map type_form ts))) c.args.all.now c.loop-argument.argument-index c.argument-item.result (omega arith) c.argument-item.is c.loop-argument.invariant.1) c.in_ok-below.ensures c.if-not-below.false)

pub returns : goal.returns
returns c = ends (λ (ts : List KtType). AreBelowBounds (hierarchy_form c.args.h.now) (header_at (hierarchy_form c.args.h.now) c.args.constructor) (forms_of (map type_form c.args.all.now)) c.loop-argument.place (forms_of (map type_form ts))) c.args.all.now c.loop-argument.argument-index (omega arith) tt c.loop-argument.invariant.1
