use Rattle.std.proofs.Common.{[], ◌∷◌}
use Rattle.mach_value.specs.Exports.{held}
use Rattle.mach_value.proofs.Lumps.{one_list}
use Rattle.mach_value.proofs.laws.one_lump.Goals as goal

pub returns : goal.returns
returns c = λ objects x nodes more h k. one_list objects (held x ∷ []) nodes more h k
