use Rattle.std.specs.Str.{IsAscii}
use Rattle.std.proofs.Common.{subst, sym}
use Rattle.kt_decls_headers.proofs.AsciiNames.{name_ascii}
use Rattle.kt_decls_headers.proofs.throwables.throwable_in.Goals as goal

pub of-requires : goal.of-requires
of-requires c = subst IsAscii (sym c.name.ensures) (name_ascii c.args.throwable)
