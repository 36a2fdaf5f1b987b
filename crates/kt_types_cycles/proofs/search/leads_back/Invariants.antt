use Rattle.std.proofs.Common.{◌+◌, ◌*◌, length}
use Rattle.kt_types_cycles.specs.Settled.{open_count}
use Rattle.kt_types_cycles.specs.Search.{IsSearch, link_count}
use Rattle.kt_types_cycles.proofs.search.leads_back.Given as goal

abbrev pub invariant-loop-waiting : goal.invariant-loop-waiting
invariant-loop-waiting l = IsSearch l.graph l.row l.seen.items l.waiting.items

abbrev pub decreases-loop-waiting : goal.decreases-loop-waiting
decreases-loop-waiting l = open_count l.seen.items * (link_count l.graph + 1) + length l.waiting.items
