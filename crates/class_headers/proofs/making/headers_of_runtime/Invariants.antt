use Rattle.std.proofs.Common.{◌≡◌, map, take}
use Rattle.class_headers.specs.Headers.{own_header}
use Rattle.class_headers.proofs.making.headers_of_runtime.Given as goal

abbrev pub invariant-loop-class : goal.invariant-loop-class
invariant-loop-class l = l.made ≡ map own_header (take l.class-index l.class-items)
