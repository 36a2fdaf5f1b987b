use Rattle.std.proofs.Common.{◌≡◌, take, true}
use Rattle.std.specs.Prelude.{map}
use Rattle.std.specs.List.{list_all}
use Rattle.jvm_code_instructions.specs.Table.{pair_of}
use Rattle.jvm_code.specs.Decoding.{rows, starts_of, stands}
use Rattle.jvm_code.proofs.targets.pairs_stand.Given as goal

abbrev pub invariant-loop-pair : goal.invariant-loop-pair
invariant-loop-pair l = list_all (λ p. stands (starts_of (rows l.code)) 2147483648 l.at p.1) (map pair_of (take l.pair-index l.pairs)) ≡ true
