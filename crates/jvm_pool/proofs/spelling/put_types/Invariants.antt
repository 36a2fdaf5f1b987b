use Rattle.std.proofs.Common.{◌≡◌, ◌++◌, take}
use Rattle.std.specs.List.{flat_map}
use Rattle.std.specs.Str.{IsAscii}
use Rattle.jvm_pool.specs.Descriptors.{spelled_type}
use Rattle.jvm_pool.proofs.spelling.put_types.Given as goal

abbrev pub invariant-loop-parameter : goal.invariant-loop-parameter
invariant-loop-parameter l = record {
  written : l.into.items ≡ l.initial.into.items ++ flat_map spelled_type (take l.parameter-index l.types);
  ascii : IsAscii (flat_map spelled_type (take l.parameter-index l.types));
}
