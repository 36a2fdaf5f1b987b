use Rattle.std.proofs.Common.{◌≡◌, List, true, sym, subst, inr}
use Rattle.kt_tree.specs.declared.tokens.Token.{Token}
use Rattle.kt_lexer.specs.Sources.{AreTokensOfSource}
use Rattle.kt_tree.specs.Tokens.{ends_alone}
use Rattle.kt_parser.proofs.sources.read_source.Goals as goal

pub parse-requires : goal.parse-requires
parse-requires c = subst (λ (z : List Token). ends_alone z ≡ true) (sym c.as_slice.ensures.value) c.in_ok-tokens.ensures.ends

pub returns-clause-refused : goal.returns-clause-refused
returns-clause-refused c r e = inr (_, subst (λ (z : List Token). AreTokensOfSource c.args.bytes.now z) (sym c.as_slice.ensures.value) c.in_ok-tokens.ensures.tokens, c.parse.ensures.refused r e)
