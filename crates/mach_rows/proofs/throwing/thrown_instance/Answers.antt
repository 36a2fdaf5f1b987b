use Rattle.std.proofs.Common.{sym, subst}
use Rattle.std.specs.Str.{IsAscii}
use Rattle.mach_rows.proofs.ClassNames.{class_name}
use Rattle.mach_rows.proofs.throwing.thrown_instance.Goals as goal

pub of-requires : goal.of-requires
of-requires c = subst IsAscii (sym c.fault_class.ensures) (class_name c.args.fault)
