use Rattle.std.specs.Prelude.{List, IsTrue, ◌↔◌, map}
use Rattle.std.proofs.Common.{arith}
use Rattle.std.specs.Prelude.{Option, option_map}
use Rattle.kt_decls_inherited.specs.Erased.{descriptor_form}
use Rattle.kt_decls_meeting.specs.Agreeing.{DoDescriptorsAgree}
use Rattle.kt_decls_inherited.specs.declared.erasing.Descriptor.{Descriptor}
use Rattle.kt_decls_methods.specs.Describing.{AreDescriptor}
use Rattle.kt_decls_meeting.proofs.AgreeingSo.{rest_of}
use Rattle.kt_decls_bounds.proofs.Deciding.{next, stops, goes, ends}
use Rattle.kt_decls_meeting.proofs.agreeing.do_descriptors_agree.Goals as goal

pub returns-then-not-fine : goal.returns-then-not-fine
returns-then-not-fine c = stops c.are_descriptor-fine.result (next (λ (xs : List (Option Descriptor)). DoDescriptorsAgree (map (option_map descriptor_form) xs)) c.args.all.now c.loop-each.each-index c.each-item.result (omega arith) c.each-item.is c.loop-each.invariant.1) (rest_of (λ (xs : List (Option Descriptor)). IsTrue c.are_descriptor-fine.result ↔ AreDescriptor (option_map descriptor_form c.each-item.result) (map (option_map descriptor_form) xs)) c.args.all.now c.loop-each.each-index _ (omega arith) c.are_descriptor-fine.ensures) c.if-not-fine.true

pub loop-each-preserved : goal.loop-each-preserved
loop-each-preserved c = (omega arith, goes c.are_descriptor-fine.result (next (λ (xs : List (Option Descriptor)). DoDescriptorsAgree (map (option_map descriptor_form) xs)) c.args.all.now c.loop-each.each-index c.each-item.result (omega arith) c.each-item.is c.loop-each.invariant.1) (rest_of (λ (xs : List (Option Descriptor)). IsTrue c.are_descriptor-fine.result ↔ AreDescriptor (option_map descriptor_form c.each-item.result) (map (option_map descriptor_form) xs)) c.args.all.now c.loop-each.each-index _ (omega arith) c.are_descriptor-fine.ensures) c.if-not-fine.false)

pub returns : goal.returns
returns c = ends (λ (xs : List (Option Descriptor)). DoDescriptorsAgree (map (option_map descriptor_form) xs)) c.args.all.now c.loop-each.each-index (omega arith) tt c.loop-each.invariant.1
