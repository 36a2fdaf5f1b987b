use Rattle.std.proofs.Common.{Err, arith, sym, ap, ◌∙◌}
use Rattle.kt_tree.specs.declared.tokens.Token.{Token}
use Rattle.kt_grammar_parsers.specs.Parsers.{Cursor}
use Rattle.kt_parser_steps.proofs.Ways.{reads_from}
use Rattle.kt_parser_types.proofs.TypeSteps.{type_zero, type_less}
use Rattle.kt_parser_types.proofs.types.+read_type.Goals as goal

pub returns-then-room-eq0 : goal.returns-then-room-eq0
returns-then-room-eq0 t c some = type_zero c.args.room c.args.tokens.now (omega arith) ∙ ap (λ (z : Cursor Token). Err z.far) (sym c.refuse.ensures.marked)

pub returns : goal.returns
returns t c = reads_from _ _ _ (type_less c.args.room c.args.tokens.now (omega arith)) _ _ c.whole.ensures
