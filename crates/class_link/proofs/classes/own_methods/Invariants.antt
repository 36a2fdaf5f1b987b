use Rattle.std.proofs.Common.{◌≡◌, map, take}
use Rattle.class_link.specs.Classes.{own_method}
use Rattle.class_link.proofs.classes.own_methods.Given as goal

abbrev pub invariant-loop-method : goal.invariant-loop-method
invariant-loop-method l = l.made ≡ map (own_method l.h l.class) (take l.method-index l.methods)
