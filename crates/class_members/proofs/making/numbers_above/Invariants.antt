use Rattle.std.proofs.Common.{◌≡◌, ◌++◌, take}
use Rattle.std.specs.Prelude.{flat_map}
use Rattle.class_members.specs.Above.{list_of, number_in, parent_of}
use Rattle.class_members.proofs.making.numbers_above.Given as goal

abbrev pub invariant-loop-name : goal.invariant-loop-name
invariant-loop-name l = l.numbers ≡ list_of (parent_of l.headers l.header) ++ flat_map (number_in l.headers) (take l.name-index l.name-items)
