use Rattle.std.proofs.Common.{◌≡◌, ◌++◌, map}
use Rattle.std.specs.Vec.Iter.{into_iter_items}
use Rattle.class_link.specs.Classes.{file_method}
use Rattle.class_link.proofs.classes.file_methods.Given as goal

abbrev pub invariant-loop-method : goal.invariant-loop-method
invariant-loop-method l =
    l.made ++ map (file_method l.h l.class) (into_iter_items l.method-iterator)
    ≡ map (file_method l.h l.class) l.fn.methods.items
