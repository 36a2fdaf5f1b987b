use Rattle.std.proofs.Common.{◌≡◌, ℕ, List, length, true, sym, subst, ◌∙◌, arith}
use Rattle.std.specs.Prelude.{◌≤◌}
use Rattle.kt_lexer.specs.Sources.{AreTokensOfSource}
use Rattle.kt_tree.specs.declared.tokens.Token.{Token}
use Rattle.kt_grammar.specs.Declarations.{IsFileOf}
use Rattle.kt_tree.specs.Declarations.{file_tree}
use Rattle.kt_tree.specs.Tokens.{ends_alone}
use Rattle.kt_first.proofs.Found.{front_only, code_is, code_only, code_read, prints_values}
use Rattle.kt_first.proofs.reading.parse_first.Goals as goal

pub parse-requires : goal.parse-requires
parse-requires c = subst (λ (z : List Token). ends_alone z ≡ true) (sym c.as_slice.ensures.value) c.in_ok-tokens.ensures.ends

pub returns-in_err-file-clause-only : goal.returns-in_err-file-clause-only
returns-in_err-file-clause-only c p x =
    let tokens = c.as_slice.ensures.value ∙ c.in_ok-tokens.ensures.only x.tokens x.has_tokens in
    front_only c.from_residual-in_err-file.result _ _ c.from_residual-in_err-file.ensures (c.in_err-file.ensures.only x.file (subst (λ (z : List Token). IsFileOf z x.file) (sym tokens) x.is_file))

pub returns-in_ok-file-clause-only : goal.returns-in_ok-file-clause-only
returns-in_ok-file-clause-only c p x =
    let tokens = c.in_ok-tokens.ensures.only x.tokens x.has_tokens in
    let file = c.in_ok-file.ensures.only x.file (subst (λ (z : List Token). IsFileOf z x.file) (sym (c.as_slice.ensures.value ∙ tokens)) x.is_file) in
    code_only c.program_code.result _ _ c.program_code.ensures (code_is c.args.text.now p _ _ x (c.as_slice-then-text-le-MOST_BYTES.ensures.value ∙ tokens) file)

pub returns-in_ok-file-clause-prints : goal.returns-in_ok-file-clause-prints
returns-in_ok-file-clause-prints c = prints_values c.args.text.now c.program_code.result (returns-in_ok-file-clause-only c)

pub returns-in_ok-file-clause-read : goal.returns-in_ok-file-clause-read
returns-in_ok-file-clause-read c =
    let here = c.as_slice-then-text-le-MOST_BYTES.ensures.value in
    let short : length c.args.text.now ≤ 512 = omega (arith, c.if-text-le-MOST_BYTES.true) in
    let file = file_tree c.in_ok-file.file in
    code_read c.args.text.now _ file c.program_code.result short
    (subst (λ (z : List Token). AreTokensOfSource c.args.text.now z) (sym here) c.in_ok-tokens.ensures.tokens)
    (subst (λ (z : List Token). IsFileOf z file) (c.as_slice.ensures.value ∙ sym here) c.in_ok-file.ensures.parsed)
    c.program_code.ensures
