use Rattle.std.proofs.Common.{◌≡◌, drop}
use Rattle.std.specs.List.{list_any}
use Rattle.class_verify_rules.specs.Kinds.{is_fresh_this}
use Rattle.class_verify_frames.proofs.kinds.has_fresh_this.Given as goal

abbrev pub invariant-loop-kind : goal.invariant-loop-kind
invariant-loop-kind l = list_any is_fresh_this l.kinds ≡ list_any is_fresh_this (drop l.kind-index l.kinds)
