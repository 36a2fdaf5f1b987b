use Rattle.std.proofs.Common.{◌≡◌, map, take}
use Rattle.jvm_runtime.specs.Members.{method_seen}
use Rattle.class_headers.specs.Headers.{own_method_header}
use Rattle.class_headers.proofs.making.own_methods.Given as goal

abbrev pub invariant-loop-method : goal.invariant-loop-method
invariant-loop-method l = l.made ≡ map own_method_header (map method_seen (take l.method-index l.methods))
