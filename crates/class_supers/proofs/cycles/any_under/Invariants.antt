use Rattle.std.proofs.Common.{◌≡◌, take, false}
use Rattle.std.specs.List.{list_any}
use Rattle.class_supers.specs.Graph.{reaches}
use Rattle.class_supers.proofs.cycles.any_under.Given as goal

abbrev pub invariant-loop-link : goal.invariant-loop-link
invariant-loop-link l = list_any (reaches l.rows l.high) (take l.link-index l.links) ≡ false
