use Rattle.std.proofs.Common.{◌≡◌}
use Rattle.class_tables.specs.Dispatch.{new_before}
use Rattle.class_tables.proofs.slots.new_methods.Given as goal

abbrev pub invariant-loop-place : goal.invariant-loop-place
invariant-loop-place l = l.made ≡ new_before l.h l.class l.place
