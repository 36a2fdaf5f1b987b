use Rattle.std.proofs.Common.{◌≡◌, take}
use Rattle.class_link.specs.Classes.{own_classes}
use Rattle.class_link.proofs.all_classes.own_classes.Given as goal

abbrev pub invariant-loop-class : goal.invariant-loop-class
invariant-loop-class l = l.made ≡ own_classes l.h 0 (take l.class l.h.headers)
