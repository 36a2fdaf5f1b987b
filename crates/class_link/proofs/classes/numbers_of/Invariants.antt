use Rattle.std.proofs.Common.{◌≡◌, take}
use Rattle.std.specs.Prelude.{flat_map}
use Rattle.class_members.specs.Above.{number_in}
use Rattle.class_link.proofs.classes.numbers_of.Given as goal

abbrev pub invariant-loop-name : goal.invariant-loop-name
invariant-loop-name l = l.numbers ≡ flat_map (number_in l.headers) (take l.name-index l.names)
