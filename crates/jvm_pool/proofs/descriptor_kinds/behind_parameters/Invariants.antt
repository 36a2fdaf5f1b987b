use Rattle.std.proofs.Common.{◌≡◌, ◌++◌, List, length}
use Rattle.std.specs.List.{flat_map, All}
use Rattle.jvm_pool.specs.declared.descriptors.FieldType.{FieldType}
use Rattle.jvm_pool.specs.Descriptors.{spelled_type, IsFieldType}
use Rattle.jvm_pool.proofs.descriptor_kinds.behind_parameters.Given as goal

abbrev pub invariant-types : goal.invariant-types
invariant-types l = (types : List FieldType) × All IsFieldType types × (flat_map spelled_type types ++ l.rest ≡ l.bytes)

abbrev pub decreases-types : goal.decreases-types
decreases-types l = length l.rest
