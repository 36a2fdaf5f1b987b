use Rattle.class_index.proofs.AddingTexts.{adds}
use Rattle.class_index.proofs.texts.TextIndex.insert.Goals as goal

pub returns : goal.returns
returns c =
    adds c.args.text.now c.args.number c.args.self.now (record { numbers = c.insert.new.self }) c.in_ok-key.key
    c.in_ok-key.ensures.items c.requires c.in_ok-_before.ensures.updates c.in_ok-_before._before
    c.in_ok-_before.ensures.old c.in_ok-_before.ensures.len
