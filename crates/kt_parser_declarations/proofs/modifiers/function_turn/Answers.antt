use Rattle.std.proofs.Common.{refl}
use Rattle.kt_parser_steps.proofs.Choosing.{on_if_gives, on_if_passes}
use Rattle.kt_parser_steps.proofs.Ways.{expects_from}
use Rattle.kt_parser_declarations.proofs.Items.{goes_on}
use Rattle.kt_parser_declarations.proofs.modifiers.function_turn.Goals as goal

pub returns-in-Some : goal.returns-in-Some
returns-in-Some c = on_if_gives _ _ _ _ _ _ _ _ _ refl c.in-Some.ensures (goes_on _ _ c.with.ensures _)

pub returns-in-Some-soft_keyword_if : goal.returns-in-Some-soft_keyword_if
returns-in-Some-soft_keyword_if c = on_if_passes _ _ _ _ _ _ _ _ refl c.in-None.ensures (on_if_gives _ _ _ _ _ _ _ _ _ refl c.in-Some-soft_keyword_if.ensures (goes_on _ _ c.with-in-Some-soft_keyword_if.ensures _))

pub returns-in-Some-soft_keyword_if-2 : goal.returns-in-Some-soft_keyword_if-2
returns-in-Some-soft_keyword_if-2 c = on_if_passes _ _ _ _ _ _ _ _ refl c.in-None.ensures (on_if_passes _ _ _ _ _ _ _ _ refl c.in-None-soft_keyword_if.ensures (on_if_gives _ _ _ _ _ _ _ _ _ refl c.in-Some-soft_keyword_if-2.ensures (goes_on _ _ c.with-in-Some-soft_keyword_if-2.ensures _)))

pub returns-in-Some-soft_keyword_if-3 : goal.returns-in-Some-soft_keyword_if-3
returns-in-Some-soft_keyword_if-3 c = on_if_passes _ _ _ _ _ _ _ _ refl c.in-None.ensures (on_if_passes _ _ _ _ _ _ _ _ refl c.in-None-soft_keyword_if.ensures (on_if_passes _ _ _ _ _ _ _ _ refl c.in-None-soft_keyword_if-2.ensures (on_if_gives _ _ _ _ _ _ _ _ _ refl c.in-Some-soft_keyword_if-3.ensures (goes_on _ _ c.with-in-Some-soft_keyword_if-3.ensures _))))

pub returns-in-None-soft_keyword_if-3 : goal.returns-in-None-soft_keyword_if-3
returns-in-None-soft_keyword_if-3 c = expects_from _ _ _ (on_if_passes _ _ _ _ _ _ _ _ refl c.in-None.ensures (on_if_passes _ _ _ _ _ _ _ _ refl c.in-None-soft_keyword_if.ensures (on_if_passes _ _ _ _ _ _ _ _ refl c.in-None-soft_keyword_if-2.ensures (on_if_passes _ _ _ _ _ _ _ _ refl c.in-None-soft_keyword_if-3.ensures refl)))) _ _ c.fun_turn.ensures
