use Rattle.kt_limits.proofs.Noted.{seen_behind_local}
use Rattle.kt_limits.proofs.notes.Notes.behind_local.Goals as goal

pub returns : goal.returns
returns c = λ all is. seen_behind_local c.args.self c.saturating_add.result all c.saturating_add.ensures is
