use Rattle.std.proofs.Common.{◌≡◌, map, take}
use Rattle.jvm_class_types.specs.Seen.{class_seen}
use Rattle.class_headers.specs.Headers.{headers_of}
use Rattle.class_headers.proofs.making.all_headers.Given as goal

abbrev pub invariant-loop-class : goal.invariant-loop-class
invariant-loop-class l = l.made ≡ headers_of (map class_seen (take l.class-index l.classes))
