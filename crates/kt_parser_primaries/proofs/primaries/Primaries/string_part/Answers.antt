use Rattle.std.proofs.Common.{ℕ, List, Ok, ap, sym, ◌∙◌}
use Rattle.kt_tree.specs.Bodies as tree
use Rattle.kt_tree.specs.Bodies.{PartTree}
use Rattle.kt_grammar_parsers.specs.Parsers.{some_levels}
use Rattle.kt_parser_steps.proofs.Choosing.{on_if_reads, on_if_skips, on_if_gives, on_if_passes}
use Rattle.kt_parser_blocks.proofs.Depth.{levels_are}
use Rattle.kt_parser_primaries.proofs.primaries.Primaries.string_part.Goals as goal

pub returns-in_ok-name_of-in-Some : goal.returns-in_ok-name_of-in-Some
returns-in_ok-name_of-in-Some g c = on_if_gives _ _ _ _ _ _ _ _ _ (c.is_deep-deep.ensures ∙ ap some_levels (levels_are _)) c.in-Some.ensures
    (ap (λ (x : List ℕ). Ok (tree.name_part x, c.class_if.new.tokens)) (sym c.in_ok-name_of-in-Some.ensures) ∙ ap (λ (x : PartTree). Ok (x, c.class_if.new.tokens)) (sym c.name_part.ensures))

pub returns-in-Some-class_if : goal.returns-in-Some-class_if
returns-in-Some-class_if g c = on_if_passes _ _ _ _ _ _ _ _ (c.is_deep-deep.ensures ∙ ap some_levels (levels_are _)) c.in-None.ensures
    (on_if_gives _ _ _ _ _ _ _ _ _ (c.is_deep-deep.ensures ∙ ap some_levels (levels_are _)) c.in-Some-class_if.ensures
    (ap (λ (x : PartTree). Ok (x, c.class_if-in-None.new.tokens)) (sym c.this_part.ensures)))

pub returns-in-Some-class_if-2 : goal.returns-in-Some-class_if-2
returns-in-Some-class_if-2 g c = on_if_skips _ _ _ _ _ _ _ _ _ _ (c.is_deep-deep.ensures ∙ ap some_levels (levels_are _)) c.in-None.ensures
    (on_if_skips _ _ _ _ _ _ _ _ _ _ (c.is_deep-deep.ensures ∙ ap some_levels (levels_are _)) c.in-None-class_if.ensures
    (on_if_reads _ _ _ _ _ _ _ _ _ _ _ (c.is_deep-deep.ensures ∙ ap some_levels (levels_are _)) c.in-Some-class_if-2.ensures c.hole_rest.ensures))

pub returns-in-None-class_if-2 : goal.returns-in-None-class_if-2
returns-in-None-class_if-2 g c = on_if_skips _ _ _ _ _ _ _ _ _ _ (c.is_deep-deep.ensures ∙ ap some_levels (levels_are _)) c.in-None.ensures
    (on_if_skips _ _ _ _ _ _ _ _ _ _ (c.is_deep-deep.ensures ∙ ap some_levels (levels_are _)) c.in-None-class_if.ensures
    (on_if_skips _ _ _ _ _ _ _ _ _ _ (c.is_deep-deep.ensures ∙ ap some_levels (levels_are _)) c.in-None-class_if-2.ensures c.text_rest.ensures))
