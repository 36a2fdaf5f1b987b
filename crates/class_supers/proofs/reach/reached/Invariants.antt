use Rattle.std.proofs.Common.{◌+◌, ◌*◌, length}
use Rattle.class_supers.specs.Search.{IsSearch, link_count, open_count}
use Rattle.class_supers.proofs.reach.reached.Given as goal

abbrev pub invariant-loop-seen : goal.invariant-loop-seen
invariant-loop-seen l = IsSearch l.graph l.start l.seen.items l.waiting.items

abbrev pub decreases-loop-seen : goal.decreases-loop-seen
decreases-loop-seen l = open_count l.seen.items * (link_count l.graph + 1) + length l.waiting.items
