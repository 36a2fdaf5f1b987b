use Rattle.std.proofs.Common.{[], ◌∷◌}
use Rattle.mach_value.specs.Exports.{held}
use Rattle.mach_value.proofs.Lumps.{prefix_form}
use Rattle.mach_value.proofs.laws.lumps_are_prefix_forms.Goals as goal

pub returns : goal.returns
returns c = λ objects x nodes h. prefix_form objects nodes (held x ∷ []) h
