use Rattle.std.proofs.Common.{sym, arith}
use Rattle.kt_lexer.proofs.Numerals.{too_large}
use Rattle.kt_lexer.proofs.numbers.value_of.Goals as goal

pub returns-then-value-gt9223372036854775807 : goal.returns-then-value-gt9223372036854775807
returns-then-value-gt9223372036854775807 c =
    sym (too_large c.loop-rest.value c.digit-item.result c.loop-rest.rest.now c.args.digits.now c.digit-item.is c.in-len1-up.len_at_least c.loop-rest.invariant.value
    (omega (arith, c.if-value-gt9223372036854775807.true, c.from-in-len1-up-2.ensures, c.saturating_sub.ensures, c.from-in-len1-up.ensures, c.from.ensures)))
