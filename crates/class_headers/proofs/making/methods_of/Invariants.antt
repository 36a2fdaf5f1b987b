use Rattle.std.proofs.Common.{◌≡◌, map, take}
use Rattle.jvm_class_types.specs.Seen.{method_seen}
use Rattle.class_headers.specs.Headers.{method_header}
use Rattle.class_headers.proofs.making.methods_of.Given as goal

abbrev pub invariant-loop-method : goal.invariant-loop-method
invariant-loop-method l = l.made ≡ map method_header (map method_seen (take l.method-index l.methods))
