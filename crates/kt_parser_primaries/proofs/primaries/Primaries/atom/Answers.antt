use Rattle.std.proofs.Common.{ℕ, List, ap, ◌∙◌}
use Rattle.kt_tree.specs.Bodies as e
use Rattle.kt_parser_steps.proofs.Choosing.{on_reads, on_skips, on_gives, on_passes}
use Rattle.kt_parser_primaries.proofs.primaries.Primaries.atom.Goals as goal
use Rattle.kt_parser_steps.proofs.Optional.{so_made}
use Rattle.kt_parser_steps.proofs.Turning.{stopped}

pub returns-in-Some : goal.returns-in-Some
returns-in-Some g c = on_reads _ _ _ _ _ _ _ _ _ c.in-Some.ensures c.string_rest.ensures

pub returns-in-Some-take_keyword : goal.returns-in-Some-take_keyword
returns-in-Some-take_keyword g c = on_passes _ _ _ _ _ _ c.in-None.ensures (on_gives _ _ _ _ _ _ _ c.in-Some-take_keyword.ensures (so_made _ _ _ c.this.ensures))

pub returns-in_ok-name_of-in-Some-take_identifier : goal.returns-in_ok-name_of-in-Some-take_identifier
returns-in_ok-name_of-in-Some-take_identifier g c = on_passes _ _ _ _ _ _ c.in-None.ensures (on_passes _ _ _ _ _ _ c.in-None-take_keyword.ensures (on_gives _ _ _ _ _ _ _ c.in-Some-take_identifier.ensures (so_made _ _ _ (c.name.ensures ∙ ap (λ (x : List ℕ). e.name c.in-Some-take_identifier.token.now.pos x) c.in_ok-name_of-in-Some-take_identifier.ensures))))

pub returns-in_ok-literal_atom-in-None-take_identifier : goal.returns-in_ok-literal_atom-in-None-take_identifier
returns-in_ok-literal_atom-in-None-take_identifier g c = on_passes _ _ _ _ _ _ c.in-None.ensures (on_passes _ _ _ _ _ _ c.in-None-take_keyword.ensures (on_passes _ _ _ _ _ _ c.in-None-take_identifier.ensures c.in_ok-literal_atom-in-None-take_identifier.ensures))

pub returns-in_err-literal_atom-in-None-take_identifier : goal.returns-in_err-literal_atom-in-None-take_identifier
returns-in_err-literal_atom-in-None-take_identifier g c = stopped _ _ _ (on_passes _ _ _ _ _ _ c.in-None.ensures (on_passes _ _ _ _ _ _ c.in-None-take_keyword.ensures (on_passes _ _ _ _ _ _ c.in-None-take_identifier.ensures c.in_err-literal_atom-in-None-take_identifier.ensures))) _ c.from_residual-in_err-literal_atom-in-None-take_identifier.ensures.0
