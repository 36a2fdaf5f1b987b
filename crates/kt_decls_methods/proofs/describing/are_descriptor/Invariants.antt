use Rattle.std.specs.Prelude.{◌↔◌, map, option_map, drop}
use Rattle.kt_decls_inherited.specs.Erased.{descriptor_form}
use Rattle.kt_decls_methods.specs.Describing.{AreDescriptor}
use Rattle.kt_decls_methods.proofs.describing.are_descriptor.Given as goal

abbrev pub invariant-loop-each : goal.invariant-loop-each
invariant-loop-each l =
    AreDescriptor (option_map descriptor_form l.one) (map (option_map descriptor_form) l.all) ↔ AreDescriptor (option_map descriptor_form l.one) (map (option_map descriptor_form) (drop l.each-index l.all))
