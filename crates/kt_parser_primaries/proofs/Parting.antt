-- The next part of a string, by the parts that were read before it; and what the end of a string gives.
use Rattle.std.proofs.Common.{◌≡◌, ℕ, suc, ◌+◌, ◌<◌, ◌^◌, Bool, true, nat_le, List, [], ◌∷◌, length, map, Ok, ap, sym, ◌∙◌, ◌⊎◌, inr, arith}
use Rattle.std.proofs.lemmas.Bool.Decides.{nat_tests}
use Rattle.kt_base.specs.declared.refusals.Pos.{Pos}
use Rattle.kt_tree.specs.declared.tokens.Token.{Token}
use Rattle.kt_tree.specs.declared.bodies.StringPart.{StringPart}
use Rattle.kt_tree.specs.Bodies.{ExpressionTree, PartTree, part_tree, parts_of, template}
use Rattle.kt_tree.specs.Levels.{counted, parts_levels}
use Rattle.kt_grammar.specs.declared.context.Context.{Context}
use Rattle.kt_grammar_parsers.specs.Parsers.{Cursor, Outcome}
use Rattle.kt_grammar.specs.ExpressionParser as p
use Rattle.kt_grammar.specs.ExpressionParser.{Parsers}
use Rattle.kt_grammar.specs.StatementParser.{parsers}
use Rattle.kt_parser_primaries.specs.Rules as rules
use Rattle.kt_parser_blocks.proofs.Depth.{levels_are, above}

module _ (n : ℕ) (at : Context) (c : Cursor Token) where
  pub first_part : (ps : List StringPart) → length ps ≡ 0 → rules.next_part n at (map part_tree ps) c ≡ rules.string_part n at c
  first_part [] h = ap (λ (k : ℕ). p.part_of k ((parsers n).disjunction at) c) (levels_are n)
  first_part (q ∷ ps) h = absurd (omega arith)

  part_above : (m : ℕ) → m + 1 ≡ n → (parsers n).part at c ≡ rules.string_part m at c
  part_above m h = ap (λ (z : Parsers). z.part at c) (above n m h) ∙ ap (λ (k : ℕ). p.part_of k ((parsers m).disjunction at) c) (levels_are m)

  -- one of several is a level lower
  pub later_part : (m : ℕ) → m + 1 ≡ n → (ps : List StringPart) → 0 < length ps → parts_levels (parts_of (map part_tree ps)) < n → rules.next_part n at (map part_tree ps) c ≡ rules.string_part m at c
  later_part m h [] some less = absurd (omega arith)
  later_part m h (q ∷ ps) some less =
      let fits : nat_le (parts_levels (parts_of (map part_tree (q ∷ ps))) + 2) (suc n) ≡ true = grind (arith, nat_tests) in
      ap (λ (b : Bool). p.part_if (suc n) (parsers n) at b c) fits ∙ part_above m h

pub fewer : (n l m : ℕ) → n + 2 < 2 ^ 32 → m ≡ counted l → m < n → l < n
fewer n l m small e less = omega arith

-- what a string's end gives
abbrev pub gave : ExpressionTree → Cursor Token → Outcome Token (List PartTree ⊎ ExpressionTree)
gave a c = Ok (inr a, c)

pub ended_with : (ps qs : List StringPart) (start : Pos) (a : ExpressionTree) (c : Cursor Token) → qs ≡ ps → a ≡ template start (parts_of (map part_tree qs)) → gave (template start (parts_of (map part_tree ps))) c ≡ gave a c
ended_with ps qs start a c e is = ap (λ (x : List StringPart). gave (template start (parts_of (map part_tree x))) c) (sym e) ∙ ap (λ (x : ExpressionTree). gave x c) (sym is)
