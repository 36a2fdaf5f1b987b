-- A source has one tree, or is refused in one way.
use Rattle.std.proofs.Common.{◌≡◌, ℕ, List, refl, ap, subst, arith, inl, inr}
use Rattle.kt_base.specs.declared.refusals.Refusal.{Refusal}
use Rattle.kt_tree.specs.declared.tokens.Token.{Token}
use Rattle.kt_grammar.specs.Declarations.{IsFileOf}
use Rattle.kt_grammar.proofs.declarations.FileLaws.{one_tree}
use Rattle.kt_lexer.specs.Sources.{AreTokensOfSource, IsSourceRefused, too_long, no_token, no_text, IsBrokenOff, within, at_its_end, lex_refusal}
use Rattle.kt_lexer.proofs.Whole.{one_tokens, tokens_exclude_refusal}
use Rattle.kt_lexer.proofs.Whole as lexer
use Rattle.kt_parser.specs.Trees.{IsSyntaxRefused}
use Rattle.kt_parser.specs.Laws.{OneSourceTree, OneSourceRefusal, TreeExcludesRefusal}
use Rattle.kt_parser.proofs.Files as files

same_tokens : (source : List ℕ) (ts us : List Token) → AreTokensOfSource source ts → AreTokensOfSource source us → ts ≡ us
same_tokens source ts us x y = one_tokens _ ts us x.tokens y.tokens

pub one_source_tree : OneSourceTree
one_source_tree source a b x y = one_tree y.0 a b (subst (λ (ts : List Token). IsFileOf ts a) (same_tokens source x.0 y.0 x.1 y.1) x.2) y.2

-- ---- a source that has tokens isn't refused for its characters

no_tokens : (source : List ℕ) (ts : List Token) (r : Refusal) → AreTokensOfSource source ts → IsSourceRefused source r → ⊥
no_tokens source ts r x (too_long long) = absurd (omega (arith, x.short, long))
no_tokens source ts r x (no_token {at} short utf8 none) = tokens_exclude_refusal _ ts at x.tokens none
no_tokens source ts r x (no_text short not_utf8 broken) = not_utf8 x.utf8

pub tree_excludes_refusal : TreeExcludesRefusal
tree_excludes_refusal source file r x (inl refused) = no_tokens source x.0 r x.1 refused
tree_excludes_refusal source file r x (inr y) = y.2.refused.whole file (subst (λ (ts : List Token). IsFileOf ts file) (same_tokens source x.0 y.0 x.1 y.1) x.2)

-- ---- one refusal

one_broken : (text : List ℕ) (r s : Refusal) → IsBrokenOff text r → IsBrokenOff text s → r ≡ s
one_broken text r s (within {at = a} x) (within {at = b} y) = ap lex_refusal (lexer.one_refusal text a b x y)
one_broken text r s (within {at} x) (at_its_end {ts} y) = absurd (tokens_exclude_refusal text ts at y x)
one_broken text r s (at_its_end {ts} x) (within {at} y) = absurd (tokens_exclude_refusal text ts at x y)
one_broken text r s (at_its_end x) (at_its_end y) = refl

one_by_characters : (source : List ℕ) (r s : Refusal) → IsSourceRefused source r → IsSourceRefused source s → r ≡ s
one_by_characters source r s (too_long x) (too_long y) = refl
one_by_characters source r s (too_long x) (no_token short utf8 none) = absurd (omega (arith, x, short))
one_by_characters source r s (too_long x) (no_text short not_utf8 broken) = absurd (omega (arith, x, short))
one_by_characters source r s (no_token short utf8 none) (too_long y) = absurd (omega (arith, y, short))
one_by_characters source r s (no_token {at = a} short utf8 x) (no_token {at = b} short' utf8' y) = ap lex_refusal (lexer.one_refusal _ a b x y)
one_by_characters source r s (no_token short utf8 none) (no_text short' not_utf8 broken) = absurd (not_utf8 utf8)
one_by_characters source r s (no_text short not_utf8 broken) (too_long y) = absurd (omega (arith, y, short))
one_by_characters source r s (no_text short not_utf8 broken) (no_token short' utf8 none) = absurd (not_utf8 utf8)
one_by_characters source r s (no_text short not_utf8 x) (no_text short' not_utf8' y) = one_broken _ r s x y

pub one_source_refusal : OneSourceRefusal
one_source_refusal source r s (inl x) (inl y) = one_by_characters source r s x y
one_source_refusal source r s (inl x) (inr y) = absurd (no_tokens source y.0 r y.1 x)
one_source_refusal source r s (inr x) (inl y) = absurd (no_tokens source x.0 s x.1 y)
one_source_refusal source r s (inr x) (inr y) = files.one_refusal y.0 r s (subst (λ (ts : List Token). IsSyntaxRefused ts r) (same_tokens source x.0 y.0 x.1 y.1) x.2) y.2
