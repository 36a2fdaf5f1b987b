use Rattle.std.proofs.Common.{refl}
use Rattle.kt_parser_steps.proofs.Choosing.{on_if_reads, on_if_skips, on_if_gives, on_if_passes}
use Rattle.kt_parser_primaries.proofs.primaries.Primaries.jump.Goals as goal
use Rattle.kt_parser_steps.proofs.Optional.{so_made}

pub returns-in-Some : goal.returns-in-Some
returns-in-Some g c = on_if_reads _ _ _ _ _ _ _ _ _ _ _ refl c.in-Some.ensures c.return_rest.ensures

pub returns-in-Some-keyword_if : goal.returns-in-Some-keyword_if
returns-in-Some-keyword_if g c = on_if_passes _ _ _ _ _ _ _ _ refl c.in-None.ensures (on_if_gives _ _ _ _ _ _ _ _ _ refl c.in-Some-keyword_if.ensures (so_made _ _ _ c.break_loop.ensures))

pub returns-in-Some-keyword_if-2 : goal.returns-in-Some-keyword_if-2
returns-in-Some-keyword_if-2 g c = on_if_passes _ _ _ _ _ _ _ _ refl c.in-None.ensures (on_if_passes _ _ _ _ _ _ _ _ refl c.in-None-keyword_if.ensures (on_if_gives _ _ _ _ _ _ _ _ _ refl c.in-Some-keyword_if-2.ensures (so_made _ _ _ c.continue_loop.ensures)))

pub returns-in-None-keyword_if-2 : goal.returns-in-None-keyword_if-2
returns-in-None-keyword_if-2 g c = on_if_skips _ _ _ _ _ _ _ _ _ _ refl c.in-None.ensures (on_if_skips _ _ _ _ _ _ _ _ _ _ refl c.in-None-keyword_if.ensures (on_if_skips _ _ _ _ _ _ _ _ _ _ refl c.in-None-keyword_if-2.ensures c.braced.ensures))
