use Rattle.std.specs.Prelude.{List, map}
use Rattle.std.proofs.Common.{arith}
use Rattle.kt_tree.specs.Declarations.{declaration_tree}
use Rattle.kt_types_tree.specs.declared.hierarchy.Supertype.{Supertype}
use Rattle.kt_types_tree.specs.Hierarchy.{hierarchy_form, super_form}
use Rattle.kt_decls_bounds.proofs.Deciding.{after, ends, goes, next, not_first, stops}
use Rattle.kt_decls_rules.specs.ClassRules.{IsFineAbove}
use Rattle.kt_decls_meeting.specs.Keys.{AreKeysBy, AreKeysUp}
use Rattle.kt_decls_meeting.proofs.AllKeys.{no_step, some_up}
use Rattle.kt_decls_meeting.proofs.keys.+keys.Goals as goal

pub are_fine_up-returns-then-steps-eq0 : goal.are_fine_up-returns-then-steps-eq0
are_fine_up-returns-then-steps-eq0 t c = no_step (IsFineAbove (map declaration_tree c.args.file.now) c.args.row c.args.needs_bodies c.args.is_data (declaration_tree c.args.declaration.now)) (hierarchy_form c.args.facts.now.hierarchy) (map declaration_tree c.args.file.now) c.args.places.now c.args.steps c.args.from (omega arith)

pub are_fine_up-returns : goal.are_fine_up-returns
are_fine_up-returns t c = some_up (IsFineAbove (map declaration_tree c.args.file.now) c.args.row c.args.needs_bodies c.args.is_data (declaration_tree c.args.declaration.now)) (hierarchy_form c.args.facts.now.hierarchy) (map declaration_tree c.args.file.now) c.args.places.now c.args.steps c.args.from (map super_form c.supertypes_of-supertypes.result.now) c.are_fine_by.result (omega arith) c.supertypes_of-supertypes.ensures c.are_fine_by.ensures

pub are_fine_by-returns-then-not-fine : goal.are_fine_by-returns-then-not-fine
are_fine_by-returns-then-not-fine t c = stops c.in_ok-fine.fine (next (λ (ss : List Supertype). AreKeysBy (IsFineAbove (map declaration_tree c.args.file.now) c.args.row c.args.needs_bodies c.args.is_data (declaration_tree c.args.declaration.now)) (hierarchy_form c.args.facts.now.hierarchy) (map declaration_tree c.args.file.now) c.args.places.now (AreKeysUp (IsFineAbove (map declaration_tree c.args.file.now) c.args.row c.args.needs_bodies c.args.is_data (declaration_tree c.args.declaration.now)) (hierarchy_form c.args.facts.now.hierarchy) (map declaration_tree c.args.file.now) c.args.places.now c.args.steps) (map super_form ss)) c.args.supertypes.now c.loop-supertype.supertype-index c.supertype-item.result (omega arith) c.supertype-item.is c.loop-supertype.invariant) c.in_ok-fine.ensures c.if-not-fine.true

pub are_fine_by-loop-supertype-preserved : goal.are_fine_by-loop-supertype-preserved
are_fine_by-loop-supertype-preserved t c = goes c.in_ok-fine.fine (next (λ (ss : List Supertype). AreKeysBy (IsFineAbove (map declaration_tree c.args.file.now) c.args.row c.args.needs_bodies c.args.is_data (declaration_tree c.args.declaration.now)) (hierarchy_form c.args.facts.now.hierarchy) (map declaration_tree c.args.file.now) c.args.places.now (AreKeysUp (IsFineAbove (map declaration_tree c.args.file.now) c.args.row c.args.needs_bodies c.args.is_data (declaration_tree c.args.declaration.now)) (hierarchy_form c.args.facts.now.hierarchy) (map declaration_tree c.args.file.now) c.args.places.now c.args.steps) (map super_form ss)) c.args.supertypes.now c.loop-supertype.supertype-index c.supertype-item.result (omega arith) c.supertype-item.is c.loop-supertype.invariant) c.in_ok-fine.ensures c.if-not-fine.false

pub are_fine_by-returns : goal.are_fine_by-returns
are_fine_by-returns t c = ends (λ (ss : List Supertype). AreKeysBy (IsFineAbove (map declaration_tree c.args.file.now) c.args.row c.args.needs_bodies c.args.is_data (declaration_tree c.args.declaration.now)) (hierarchy_form c.args.facts.now.hierarchy) (map declaration_tree c.args.file.now) c.args.places.now (AreKeysUp (IsFineAbove (map declaration_tree c.args.file.now) c.args.row c.args.needs_bodies c.args.is_data (declaration_tree c.args.declaration.now)) (hierarchy_form c.args.facts.now.hierarchy) (map declaration_tree c.args.file.now) c.args.places.now c.args.steps) (map super_form ss)) c.args.supertypes.now c.loop-supertype.supertype-index (omega arith) tt c.loop-supertype.invariant

pub is_fine_way-returns-then-fine : goal.is_fine_way-returns-then-fine
is_fine_way-returns-then-fine t c = after _ c.in_ok-fine.fine c.are_fine_up.result c.in_ok-fine.ensures c.if-fine.true c.are_fine_up.ensures

pub is_fine_way-returns-else-fine : goal.is_fine_way-returns-else-fine
is_fine_way-returns-else-fine t c = not_first c.in_ok-fine.fine c.in_ok-fine.ensures c.if-fine.false
