use Rattle.std.proofs.Common.{◌≡◌, ◌-◌, map}
use Rattle.jvm_class_formats.specs.Formats.{times_at}
use Rattle.jvm_class_formats.specs.Reads.{in_front}
use Rattle.std.proofs.Common.{ℕ, List}
use Rattle.jvm_maps.specs.Types as types
use Rattle.class_reader_members.proofs.interfaces.some_names.Given as goal

abbrev pub invariant-loop-i : goal.invariant-loop-i
invariant-loop-i l =
    in_front l.names.items (times_at (types.class_name l.pool) (l.count - l.i) l.spot)
    ≡ times_at (types.class_name l.pool) l.count l.initial.spot
