use Rattle.std.proofs.Common.{sym}
use Rattle.kt_types.proofs.Arguments.{argument_there, no_argument}
use Rattle.kt_types.proofs.substitution.argument_of.Goals as goal

pub returns-in-Some : goal.returns-in-Some
returns-in-Some c = rw (argument_there c.args.arguments.now c.args.place c.in-Some.argument.now _ (sym c.in-Some.ensures)) c.copy_or_null.ensures

pub returns-in-None : goal.returns-in-None
returns-in-None c = rw (no_argument c.args.arguments.now c.args.place _ (sym c.in-None.ensures)) c.parameter.ensures
