use Rattle.std.specs.Prelude.{refl}
use Rattle.kt_decls.proofs.Judged.{as_refused}
use Rattle.kt_decls.proofs.declaring.refused_at.Goals as goal

pub returns : goal.returns
returns c = λ file fault. (as_refused file c.args.at fault, refl)
