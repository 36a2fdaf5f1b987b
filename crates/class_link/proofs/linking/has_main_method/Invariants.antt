use Rattle.std.proofs.Common.{◌≡◌, take, false}
use Rattle.std.specs.List.{list_any}
use Rattle.class_link.specs.Linking.{is_main}
use Rattle.class_link.proofs.linking.has_main_method.Given as goal

abbrev pub invariant-loop-method : goal.invariant-loop-method
invariant-loop-method l = list_any is_main (take l.method-index l.methods) ≡ false
