use Rattle.kt_parser_declarations.proofs.Reading.{past_lines}
use Rattle.kt_parser_declarations.proofs.lists.supertypes_rest.Goals as goal

pub returns : goal.returns
returns g c p h = past_lines _ _ _ _ c.skip_lines.ensures _ _ (c.several.ensures p h)
