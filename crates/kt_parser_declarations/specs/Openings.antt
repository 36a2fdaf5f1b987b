-- As what modifiers are seen, and what a declaration opens with.
use Rattle.kt_base.specs.declared.refusals.Pos.{Pos}
use Rattle.kt_grammar.specs.Declarations as grammar
use Rattle.kt_parser_declarations.specs.declared.modifiers.Modified.{Modified}
use Rattle.kt_parser_declarations.specs.declared.modifiers.Opening.{Opening}

abbrev pub modified_tree : {M : Type 0} → Modified M → grammar.Modified M
modified_tree m = record { start = m.start; modifiers = m.modifiers }

abbrev pub opening_tree : {M : Type 0} → Opening M → Pos × M
opening_tree o = (o.at, o.modifiers)
