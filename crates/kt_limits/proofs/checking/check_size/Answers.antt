use Rattle.std.proofs.Common.{refl}
use Rattle.kt_typed.specs.Units.{unit_form}
use Rattle.kt_limits.proofs.Answered.{within, refused}
use Rattle.kt_limits.proofs.checking.check_size.Goals as goal

pub returns-in-Ok : goal.returns-in-Ok
returns-in-Ok c = within (unit_form c.args.unit.now) _ c.in-Ok.ensures

pub returns-in-Err : goal.returns-in-Err
returns-in-Err c = (refl, refused (unit_form c.args.unit.now) c.in-Err.pos c.in-Err.ensures)
