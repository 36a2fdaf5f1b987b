use Rattle.std.proofs.Common.{◌≡◌, ◌++◌, take, map}
use Rattle.class_verify_flow.proofs.targets.push_pairs.Given as goal

abbrev pub invariant-loop-pair : goal.invariant-loop-pair
invariant-loop-pair l = l.found.items ≡ l.fn.found.items ++ map (λ pair. pair.1) (take l.pair-index l.pairs)
