use Rattle.std.proofs.Common.{refl}
use Rattle.jvm_pool_bytes.proofs.TextLaws.{chars_read, chars_bad}
use Rattle.jvm_pool_bytes.proofs.reading.chars.Goals as goal

pub returns-in-Ok : goal.returns-in-Ok
returns-in-Ok c =
    chars_read c.args.place c.place.inside.total c.place.inside.counter c.place.inside.bytes.now c.place.view_is
    _ c.args.count _ _ c.in-Ok.text c.if-place-count.false c.split_at.ensures.front
    c.split_at.ensures.back c.in-Ok.ensures.found.0 c.in-Ok.ensures.found.1 refl

pub returns-in-Err-Bad : goal.returns-in-Err-Bad
returns-in-Err-Bad c =
    chars_bad c.args.place c.place.inside.total c.place.inside.counter c.place.inside.bytes.now c.place.view_is
    c.args.count _ _ c.if-place-count.false c.split_at.ensures.front (c.in-Err-Bad.ensures.bad cc) c.offset-at.ensures
