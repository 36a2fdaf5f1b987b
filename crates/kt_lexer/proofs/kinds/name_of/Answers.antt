use Rattle.std.proofs.Common.{◌≡◌, ◌++◌, [], sym, ap, subst, ◌∙◌, arith}
use Rattle.std.proofs.lemmas.List.{append-nil, nil_from_length}
use Rattle.std.specs.Str.{IsAscii}
use Rattle.kt_lexer.proofs.WordBytes.{word_ascii}
use Rattle.kt_lexer.proofs.kinds.name_of.Goals as goal

pub of-requires : goal.of-requires
of-requires c =
    let none : c.loop-rest.rest.now ≡ [] = nil_from_length _ (omega (arith, c.in_default.len_below)) in
    let all : c.loop-rest.bytes.items ≡ c.args.word.now = sym (append-nil _) ∙ ap (λ l. c.loop-rest.bytes.items ++ l) (sym none) ∙ c.loop-rest.invariant.text in
    subst IsAscii (sym (c.as_slice.ensures.value ∙ all)) (word_ascii c.args.word.now c.requires)
