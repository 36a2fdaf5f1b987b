use Rattle.std.specs.Prelude.{List, Option, map, option_map}
use Rattle.std.proofs.Common.{arith}
use Rattle.kt_decls_inherited.specs.declared.erasing.Descriptor.{Descriptor}
use Rattle.kt_decls_inherited.specs.Erased.{descriptor_form}
use Rattle.kt_decls_bounds.proofs.Deciding.{next, stops, goes, ends}
use Rattle.kt_decls_methods.specs.Describing.{AreDescriptor}
use Rattle.kt_decls_methods.proofs.describing.are_descriptor.Goals as goal

pub returns-then-not-fine : goal.returns-then-not-fine
returns-then-not-fine c = stops c.is_same_descriptor-fine.result (next (λ (es : List (Option Descriptor)). AreDescriptor (option_map descriptor_form c.args.one.now) (map (option_map descriptor_form) es)) c.args.all.now c.loop-each.each-index c.each-item.result (omega arith) c.each-item.is c.loop-each.invariant) c.is_same_descriptor-fine.ensures c.if-not-fine.true

pub loop-each-preserved : goal.loop-each-preserved
loop-each-preserved c = goes c.is_same_descriptor-fine.result (next (λ (es : List (Option Descriptor)). AreDescriptor (option_map descriptor_form c.args.one.now) (map (option_map descriptor_form) es)) c.args.all.now c.loop-each.each-index c.each-item.result (omega arith) c.each-item.is c.loop-each.invariant) c.is_same_descriptor-fine.ensures c.if-not-fine.false

pub returns : goal.returns
returns c = ends (λ (es : List (Option Descriptor)). AreDescriptor (option_map descriptor_form c.args.one.now) (map (option_map descriptor_form) es)) c.args.all.now c.loop-each.each-index (omega arith) tt c.loop-each.invariant
