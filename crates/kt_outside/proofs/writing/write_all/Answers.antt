use Rattle.std.proofs.Common.{◌∙◌}
use Rattle.kt_outside.proofs.Appending.{takes_more}
use Rattle.kt_outside.proofs.writing.write_all.Goals as goal

pub loop-rest-preserved : goal.loop-rest-preserved
loop-rest-preserved g c =
    let i = c.loop-rest.invariant in
    let w = c.in_ok-count.ensures in
    record {
      place = takes_more _ _ _ _ _ _ _ w.within i.place.1 i.place.2 w.prefix;
      unfailed = w.unfailed ∙ i.unfailed;
    }
