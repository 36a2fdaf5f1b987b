use Rattle.std.proofs.Common.{sym}
use Rattle.kt_parser_types.proofs.TypeSteps.{types_none}
use Rattle.kt_parser_types.proofs.types.TypesBelow.behind_types.Goals as goal

pub returns-in-None-only : goal.returns-in-None-only
returns-in-None-only g c some = types_none _ _ _ c.in-None.ensures _ (sym c.in-None-only.ensures)
