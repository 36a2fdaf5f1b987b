use Rattle.std.proofs.Common.{◌≡◌, map, take}
use Rattle.class_members.specs.Above.{links_of}
use Rattle.class_members.proofs.making.all_links.Given as goal

abbrev pub invariant-loop-header : goal.invariant-loop-header
invariant-loop-header l = l.links ≡ map (links_of l.headers) (take l.header-index l.header-items)
