use Rattle.std.proofs.Common.{◌≡◌, map, take}
use Rattle.class_members.specs.Above.{parent_of}
use Rattle.class_members.proofs.making.all_parents.Given as goal

abbrev pub invariant-loop-header : goal.invariant-loop-header
invariant-loop-header l = l.parents ≡ map (parent_of l.headers) (take l.header-index l.header-items)
