use Rattle.std.proofs.Common.{◌≡◌, sym, subst}
use Rattle.std.proofs.lemmas.Result.{IfOk-weaker}
use Rattle.class_supers.specs.Graph.{Ascends}
use Rattle.class_verify_flow.proofs.Deciding.{holds}
use Rattle.class_verify_methods.proofs.whole.body_stands.Goals as goal

pub returns : goal.returns
returns c =
    IfOk-weaker c.begins_well.result _ _ (λ fine h. (
      λ t. record {
        some = h.0 t;
        room = holds c.in_ok-has_room.field-0 c.in_ok-has_room.ensures c.if-not-branch.false;
        ascending = subst (Ascends 0) c.requires.starts c.requires.ascending;
        in_order = subst (Ascends 0) c.requires.frame_starts c.requires.in_order;
      },
      λ s. h.1 s.some,
    )) c.begins_well.ensures
