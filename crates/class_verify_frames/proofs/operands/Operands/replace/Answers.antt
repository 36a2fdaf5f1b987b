use Rattle.std.proofs.Common.{◌≡◌, sym, ap, ◌∙◌}
use Rattle.std.specs.Prelude.{map, reverse}
use Rattle.class_verify_frames.specs.Pairs.{replaced}
use Rattle.class_verify_frames.proofs.Pairs.{map_reverse}
use Rattle.class_verify_frames.proofs.operands.Operands.replace.Goals as goal

pub returns : goal.returns
returns c =
    let f = replaced c.args.old c.args.new in
    ap reverse c.replace.ensures ∙ sym (map_reverse f c.self.inside.kinds.items) ∙ ap (map f) c.self.view_is
