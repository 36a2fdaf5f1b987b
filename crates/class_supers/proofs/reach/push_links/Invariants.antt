use Rattle.std.proofs.Common.{◌≡◌, ◌++◌, take}
use Rattle.class_supers.proofs.reach.push_links.Given as goal

abbrev pub invariant-loop-link : goal.invariant-loop-link
invariant-loop-link l = l.waiting.items ≡ l.fn.waiting.items ++ take l.link-index l.link-items
