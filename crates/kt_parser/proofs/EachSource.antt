-- A source has a tree, or is refused.
use Rattle.std.proofs.Common.{◌≡◌, ℕ, ◌-◌, ◌<◌, true, List, [], ◌∷◌, length, min, Ok, Err, ◌⊎◌, inl, inr, refl, arith}
use Rattle.std.proofs.Math.Nat.{min-le_right}
use Rattle.std.proofs.lemmas.Option.{slice_get-get_or}
use Rattle.kt_base.specs.declared.refusals.Kind.TheVariants as stage
use Rattle.kt_base.specs.declared.refusals.Pos.{Pos}
use Rattle.kt_base.specs.declared.refusals.Refusal.{Refusal}
use Rattle.kt_tree.specs.declared.tokens.Token.{Token}
use Rattle.kt_tree.specs.Declarations.{DeclarationTree}
use Rattle.kt_tree.specs.Tokens.{ends_alone}
use Rattle.kt_grammar_parsers.specs.Parsers.{Outcome, cursor}
use Rattle.kt_grammar.specs.Declarations.{IsFileOf}
use Rattle.kt_grammar.specs.DeclarationParser.{file_parser}
use Rattle.kt_lexer.specs.Sources.{AreTokensOfSource, IsSourceRefused}
use Rattle.kt_lexer.proofs.SourcesDecided.{source_tokens_or_refused}
use Rattle.kt_lexer.proofs.LastTokens.{end_is_last}
use Rattle.kt_parser.specs.Trees.{IsPlaceAt, IsSyntaxRefused}
use Rattle.kt_parser.specs.Refusals.{HasTree, IsRefused}
use Rattle.kt_parser.specs.Laws.{TreeOrRefusal}
use Rattle.kt_parser.proofs.Files.{is_file, refused_here}

-- each index has a place
place_at : (ts : List Token) (at : ℕ) → ends_alone ts ≡ true → (place : Pos) × IsPlaceAt ts at place
place_at [] at alone = absurd cc
place_at (t ∷ ts) at alone =
    let last = length (t ∷ ts) - 1 in
    (_, (_, slice_get-get_or (t ∷ ts) (min at last) t (omega (arith, min-le_right at last)), refl))

-- tokens that are a file, or that are refused
abbrev Parsed : List Token → Type 0
Parsed ts = ((file : List DeclarationTree) × IsFileOf ts file) ⊎ ((r : Refusal) × IsSyntaxRefused ts r)

parsed_or_refused : (ts : List Token) (o : Outcome Token (List DeclarationTree)) → ends_alone ts ≡ true
    → file_parser (cursor ts ts) ≡ o → Parsed ts
parsed_or_refused ts (Ok x) alone e = inl (x.0, is_file ts x.0 x.1 alone e)
parsed_or_refused ts (Err k) alone e =
    let place = place_at ts (length ts - length k) alone in
    inr (record { kind = stage.Syntax; pos = place.0 }, refused_here ts k (length k) place.0 e refl place.1)

of_tokens : (source : List ℕ) (ts : List Token) → AreTokensOfSource source ts → Parsed ts
    → HasTree source ⊎ ((r : Refusal) × IsRefused source r)
of_tokens source ts are (inl file) = inl (file.0, (ts, are, file.1))
of_tokens source ts are (inr refused) = inr (refused.0, inr (ts, are, refused.1))

of_source : (source : List ℕ) → ((ts : List Token) × AreTokensOfSource source ts) ⊎ ((r : Refusal) × IsSourceRefused source r)
    → HasTree source ⊎ ((r : Refusal) × IsRefused source r)
of_source source (inl x) =
    of_tokens source x.0 x.1 (parsed_or_refused x.0 _ (end_is_last _ _ _ _ x.1.tokens) refl)
of_source source (inr y) = inr (y.0, inl y.1)

pub tree_or_refusal : TreeOrRefusal
tree_or_refusal source = of_source source (source_tokens_or_refused source)
