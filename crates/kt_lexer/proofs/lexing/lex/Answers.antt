use Rattle.std.proofs.Common.{subst, ap, ◌∙◌, length, arith}
use Rattle.kt_lexer.specs.Texts.{IsLexRefusedAt}
use Rattle.kt_lexer.proofs.TextLengths.{chars_fit}
use Rattle.kt_lexer.proofs.lexing.lex.Goals as goal

pub tokens_of-requires : goal.tokens_of-requires
tokens_of-requires c =
    let utf8 = c.utf8.text in
    omega (arith, chars_fit c.args.text.now utf8, ap length c.as_slice.ensures.value, ap length c.in_ok-characters.ensures, c.requires)

pub returns-clause-refused : goal.returns-clause-refused
returns-clause-refused c r is =
    let refused = c.tokens_of.ensures.refused r is in
    (refused.0, subst (λ t. IsLexRefusedAt t r.pos) (c.as_slice.ensures.value ∙ c.in_ok-characters.ensures) refused.1)
