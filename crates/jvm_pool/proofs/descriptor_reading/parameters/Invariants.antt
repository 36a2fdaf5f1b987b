use Rattle.std.proofs.Common.{◌≡◌, ◌++◌, length}
use Rattle.std.specs.List.{flat_map, All}
use Rattle.std.specs.Str.{IsAscii}
use Rattle.jvm_pool.specs.Descriptors.{spelled_type, IsFieldType}
use Rattle.jvm_pool.proofs.descriptor_reading.parameters.Given as goal

abbrev pub invariant-types : goal.invariant-types
invariant-types l = record {
  read : flat_map spelled_type l.types.items ++ l.rest ≡ l.bytes;
  types : All IsFieldType l.types.items;
  ascii : IsAscii l.rest;
}

abbrev pub decreases-types : goal.decreases-types
decreases-types l = length l.rest
