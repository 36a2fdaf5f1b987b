use Rattle.std.proofs.Common.{rules, ap, ◌∙◌}
use Rattle.std.specs.Prelude.{◌==◌, find}
use Rattle.std.specs.Cmp.Lexicographic.{pointwise}
use Rattle.std.proofs.lemmas.Iterator.{YieldsList-from_slice}
use Rattle.std.proofs.lemmas.Iterator.Search.{find_from_yields_List}
use Rattle.kt_lexer.specs.Lexemes.{keyword_text}
use Rattle.kt_lexer.specs.Scanning.{keyword_of}
use Rattle.kt_lexer.proofs.words.keyword_of.Goals as goal

pub returns : goal.returns
unfolding keyword_of
returns c =
    let found = find_from_yields_List (λ k. pointwise ◌==◌ (keyword_text k) c.args.text.now) _ _ c.find.result c.find.ensures.ran (YieldsList-from_slice c.keywords.result.now cc) (λ x b q k. search rules) in
    c.copied.ensures ∙ found ∙ ap (find (λ k. pointwise ◌==◌ (keyword_text k) c.args.text.now)) c.keywords.ensures
