use Rattle.std.proofs.Common.{◌≡◌, take, true}
use Rattle.std.specs.List.{list_all}
use Rattle.jvm_code.specs.Decoding.{rows, starts_of, stands}
use Rattle.jvm_code.proofs.targets.targets_stand.Given as goal

abbrev pub invariant-loop-target : goal.invariant-loop-target
invariant-loop-target l = list_all (λ t. stands (starts_of (rows l.code)) 2147483648 l.at t) (take l.target-index l.targets) ≡ true
