use Rattle.std.proofs.Common.{◌≡◌, length, subst}
use Rattle.std.proofs.lemmas.Result.{IfOk-weaker}
use Rattle.class_supers.specs.Search.{marked_below}
use Rattle.class_supers.proofs.Rows.{supers_marked}
use Rattle.class_supers.proofs.reach.supers_of.Goals as goal

pub returns : goal.returns
returns c =
    IfOk-weaker c.marked.result _ _
    (λ row e. supers_marked c.args.graph.now c.args.start c.in_ok-seen.seen.items row c.in_ok-seen.ensures
    (subst (λ s. row ≡ marked_below (length s) s) c.as_slice.ensures.value e))
    c.marked.ensures
