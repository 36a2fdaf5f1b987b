use Rattle.std.proofs.Common.{sym}
use Rattle.kt_types_tree.proofs.Seen.{seen_type, seen_parameter}
use Rattle.kt_types_climbing.specs.Reading.{layers}
use Rattle.kt_types_climbing.proofs.Environments.{read_argument, read_no_argument, or_null_twice}
use Rattle.kt_types_climbing.proofs.reading.+resolved.Goals as goal

pub as_it_is-requires-in-None : goal.as_it_is-requires-in-None
as_it_is-requires-in-None t c = record { bare = rw (c.in-Under.is, c.in-Parameter.is, seen_parameter) (λ n. read_no_argument (layers c.in-Under.outer.now) c.in-Under.arguments.now n _ _ (sym c.in-None.ensures)) }

pub returns-in-Some-clause-same : goal.returns-in-Some-clause-same
returns-in-Some-clause-same t c = rw (c.in-Under.is, seen_type c.args.t.now, c.in-Parameter.is, seen_parameter, read_argument (layers c.in-Under.outer.now) c.in-Under.arguments.now c.args.t.now.nullable c.in-Parameter.field-0 c.in-Parameter.place c.in-Some.argument.now (sym c.in-Some.ensures), or_null_twice, ← c.either.ensures) c.resolved.ensures.same
