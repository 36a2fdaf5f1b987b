use Rattle.std.proofs.Common.{ap, length, arith}
use Rattle.kt_lexer.proofs.TextLengths.{chars_fit}
use Rattle.kt_lexer.proofs.sources.broken_text.Goals as goal

pub broken_characters-requires : goal.broken_characters-requires
broken_characters-requires c =
    let utf8 = c.utf8.front in
    omega (arith, chars_fit c.args.front.now utf8, ap length c.as_slice.ensures.value, ap length c.in-Ok.ensures, c.requires)
