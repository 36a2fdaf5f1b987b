use Rattle.std.proofs.Common.{ap, ◌∙◌}
use Rattle.class_headers.specs.Places.{number_of}
use Rattle.class_members.specs.Above.{list_of, parent_of}
use Rattle.class_members.proofs.Links.{found_next}
use Rattle.class_members.proofs.making.numbers_above.Goals as goal

pub loop-name-preserved : goal.loop-name-preserved
loop-name-preserved c =
    found_next c.args.headers.now c.as_slice-name-items.result.now c.loop-name.name-index c.name-item.result
    (list_of (parent_of c.args.headers.now c.args.header.now)) c.loop-name.numbers _ c.number.result c.loop-name-test.true
    c.name-item.is c.loop-name.invariant c.in_ok-push_found-2.ensures
    (c.number.ensures ∙ ap (number_of c.args.headers.now) c.as_slice.ensures)
