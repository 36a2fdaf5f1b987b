use Rattle.std.proofs.Common.{sym, ap, subst, ◌∙◌, take, arith}
use Rattle.std.specs.Str.{chars}
use Rattle.kt_lexer.specs.Sources.{IsBrokenOff, no_text}
use Rattle.kt_lexer.proofs.Refusals.{source_too_long, source_no_token, source_broken, broken_is}
use Rattle.kt_lexer.proofs.sources.lex_bytes.Goals as goal

pub returns-then-bytes-gt1048576-clause-refused : goal.returns-then-bytes-gt1048576-clause-refused
returns-then-bytes-gt1048576-clause-refused c r is = source_too_long c.args.bytes.now r c.if-bytes-gt1048576.true is

pub returns-in-Ok-clause-refused : goal.returns-in-Ok-clause-refused
returns-in-Ok-clause-refused c r is = source_no_token c.args.bytes.now c.in-Ok.text.now r (omega (arith, c.if-bytes-gt1048576.false)) c.in-Ok.ensures.cases (c.lex.ensures.refused r is)

pub returns-in-Err-clause-refused : goal.returns-in-Err-clause-refused
returns-in-Err-clause-refused c r is =
    let front = ap (λ n. take n c.args.bytes.now) (c.valid_up_to.ensures ∙ c.in-Err.ensures.valid_len) in
    no_text (omega (arith, c.if-bytes-gt1048576.false)) c.in-Err.ensures.cases.0 (subst (λ t. IsBrokenOff (chars t) r) front (c.broken_off.ensures.refused r (broken_is c.broken_off.result r is)))

pub returns-in-Err-clause-refuses : goal.returns-in-Err-clause-refuses
returns-in-Err-clause-refuses c r refused =
    let front = ap (λ n. take n c.args.bytes.now) (c.valid_up_to.ensures ∙ c.in-Err.ensures.valid_len) in
    c.broken_off.ensures.refuses r (subst (λ t. IsBrokenOff (chars t) r) (sym front) (source_broken c.args.bytes.now r (omega (arith, c.if-bytes-gt1048576.false)) c.in-Err.ensures.cases.0 refused))
