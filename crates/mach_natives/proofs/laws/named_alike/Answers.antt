use Rattle.mach_natives.proofs.NamesOfTables.{named_alike}
use Rattle.mach_natives.proofs.laws.named_alike.Goals as goal

pub returns : goal.returns
returns c = named_alike
