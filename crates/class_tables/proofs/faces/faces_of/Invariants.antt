use Rattle.std.proofs.Common.{◌≡◌, map, take}
use Rattle.std.specs.Prelude.{filter}
use Rattle.class_members.specs.Members.{is_interface_at}
use Rattle.class_tables.specs.Dispatch.{face}
use Rattle.class_tables.proofs.faces.faces_of.Given as goal

abbrev pub invariant-loop-above : goal.invariant-loop-above
invariant-loop-above l = l.made ≡ map (face l.h l.class) (filter (is_interface_at l.h) (take l.above-index l.above-items))
