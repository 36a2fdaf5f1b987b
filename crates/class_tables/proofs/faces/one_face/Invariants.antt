use Rattle.std.proofs.Common.{◌≡◌, map, take}
use Rattle.class_tables.specs.Dispatch.{stands_for}
use Rattle.class_tables.proofs.faces.one_face.Given as goal

abbrev pub invariant-loop-method : goal.invariant-loop-method
invariant-loop-method l = l.methods ≡ map (stands_for l.h l.class l.interface) (take l.method-index l.method-items)
