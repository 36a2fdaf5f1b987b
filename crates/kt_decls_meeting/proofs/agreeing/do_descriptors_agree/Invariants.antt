use Rattle.std.specs.Prelude.{◌≡◌, ◌↔◌, map, drop}
use Rattle.std.specs.Prelude.{option_map}
use Rattle.kt_decls_inherited.specs.Erased.{descriptor_form}
use Rattle.kt_decls_meeting.specs.Agreeing.{DoDescriptorsAgree}
use Rattle.kt_decls_meeting.proofs.agreeing.do_descriptors_agree.Given as goal

abbrev pub invariant-loop-each : goal.invariant-loop-each
invariant-loop-each l =
    (l.behind ≡ l.each-index) × (DoDescriptorsAgree (map (option_map descriptor_form) l.all) ↔ DoDescriptorsAgree (map (option_map descriptor_form) (drop l.each-index l.all)))
