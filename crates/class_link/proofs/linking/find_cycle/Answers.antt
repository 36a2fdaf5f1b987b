use Rattle.std.proofs.Common.{subst}
use Rattle.std.specs.Prelude.{slice_get}
use Rattle.class_supers.specs.Graph.{HasNoCycle, IsFirstOnCycle}
use Rattle.class_link.specs.Linking.{IsCycle, name_of}
use Rattle.class_link.proofs.Closing.{cycle_fails}
use Rattle.class_link.proofs.linking.find_cycle.Goals as goal

pub returns-in-None : goal.returns-in-None
returns-in-None c = subst HasNoCycle c.as_slice.ensures c.in-None.ensures.first

pub returns-in-Some : goal.returns-in-Some
returns-in-Some c =
    cycle_fails c.args.h.now c.in-Some.class c.cycle_error.result
    (subst (λ g. IsFirstOnCycle g c.in-Some.class) c.as_slice.ensures c.in-Some.ensures.first)
    (subst (λ hs. IsCycle (name_of (slice_get hs c.in-Some.class)) c.cycle_error.result) c.as_slice-in-Some.ensures
    c.cycle_error.ensures)
