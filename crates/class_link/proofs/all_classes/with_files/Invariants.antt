use Rattle.std.proofs.Common.{◌≡◌, ◌++◌}
use Rattle.std.specs.Vec.Iter.{into_iter_items}
use Rattle.class_linked.specs.Numbers.{first_file_class}
use Rattle.class_link.specs.Classes.{file_classes}
use Rattle.class_link.proofs.all_classes.with_files.Given as goal

abbrev pub invariant-loop-file : goal.invariant-loop-file
invariant-loop-file l =
    l.made ++ file_classes l.h l.class (into_iter_items l.file-iterator)
    ≡ l.fn.own ++ file_classes l.h first_file_class l.fn.files.items
