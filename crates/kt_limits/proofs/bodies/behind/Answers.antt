use Rattle.kt_limits.proofs.Lights.{kept_behind}
use Rattle.kt_limits.proofs.bodies.behind.Goals as goal

pub returns : goal.returns
returns c = λ s x is sized noted.
    kept_behind s x c.args.before c.args.sizes c.beside.result c.args.notes c.saturating_add.result c.saturating_add.ensures is sized
    noted (λ a b left right. c.beside.ensures a b left right)
