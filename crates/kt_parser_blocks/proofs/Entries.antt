-- Entries, conditions and `catch` blocks of each number of levels.
use Rattle.std.proofs.Common.{◌≡◌, ℕ, zero, suc, ◌+◌, ◌<◌, ◌≤◌, Bool, not, List, Option, Some, None, Ok, Err, is_some, option_map, refl, ap, sym, ◌∙◌, arith}
use Rattle.kt_base.specs.declared.refusals.Pos.{Pos}
use Rattle.kt_tree.specs.declared.tokens.Token.{Token}
use Rattle.kt_tree.specs.declared.tokens.Sign.TheVariants as sign
use Rattle.kt_tree.specs.declared.bodies.Expression.{Expression}
use Rattle.kt_tree.specs.Tokens.{is_new_line, is_sign}
use Rattle.kt_tree.specs.Bodies as e
use Rattle.kt_tree.specs.Bodies.{ExpressionTree, EntryTree, expression_tree}
use Rattle.kt_grammar.specs.declared.context.Context.{Context}
use Rattle.kt_grammar_parsers.specs.Parsers.{Cursor, Parser, further, skip, some_levels, pure, ◌>>=◌}
use Rattle.kt_grammar.specs.Readers.{expect, separated}
use Rattle.kt_grammar.specs.ExpressionParser.{Parsers}
use Rattle.kt_grammar.specs.StatementParser as s
use Rattle.kt_grammar.specs.StatementParser.{parsers, refused_if}
use Rattle.kt_parser_steps.specs.Steps.{given, place_of}
use Rattle.kt_parser_steps.proofs.SeparatedItems.{placed_ok, placed_err}
use Rattle.kt_parser_steps.proofs.Ways.{levels_left}
use Rattle.kt_parser_blocks.specs.Rules as rules
use Rattle.kt_parser_blocks.proofs.Depth.{levels_are, above}

-- ---- too few levels are left

module _ (at : Context) (c : Cursor Token) where
  pub no_condition : (subject : Bool) (n : ℕ) → n ≡ 0 → (parsers n).condition at subject c ≡ Err (further c.rest c.far)
  unfolding parsers
  no_condition subject zero h = refl
  no_condition subject (suc n) h = absurd (omega arith)

  pub no_catch : (name : List ℕ) (n : ℕ) → n ≡ 0 → (parsers n).catch at name c ≡ Err (further c.rest c.far)
  unfolding parsers
  no_catch name zero h = refl
  no_catch name (suc n) h = absurd (omega arith)

  -- an entry holds a body, so it needs two levels
  pub no_entry : (subject : Bool) (n : ℕ) → n ≤ 1 → (parsers n).entry at subject c ≡ Err (further c.rest c.far)
  unfolding parsers
  no_entry subject zero h = refl
  no_entry subject (suc zero) h = refl
  no_entry subject (suc (suc n)) h = absurd (omega arith)

-- ---- one level above `m`

module _ (n m : ℕ) (h : m + 1 ≡ n) (at : Context) (c : Cursor Token) where
  pub condition_over : (subject : Bool) → (parsers n).condition at subject c ≡ rules.condition m at subject c
  condition_over subject = ap (λ (z : Parsers). z.condition at subject c) (above n m h) ∙ ap (λ (k : ℕ). s.condition_parser (suc k) (parsers m) at subject c) (levels_are m)

  pub catch_over : (name : List ℕ) → (parsers n).catch at name c ≡ rules.catch_rest m at name c
  catch_over name = ap (λ (z : Parsers). z.catch at name c) (above n m h) ∙ ap (λ (k : ℕ). s.catch_parser (suc k) (parsers m) at name c) (levels_are m)

  -- where a level is left for its body
  pub entry_over : (subject : Bool) → 0 < m → (parsers n).entry at subject c ≡ rules.entry m at subject c
  entry_over subject deep = ap (λ (z : Parsers). z.entry at subject c) (above n m h)
      ∙ ap (λ (b : Bool). refused_if (not b) (rules.entry m at subject) c) (ap some_levels (levels_are m) ∙ levels_left m deep)

-- ---- a `when` up to its `{`

module _ (n : ℕ) (at : Context) (t : Token) (c c1 : Cursor Token) (subject : Option ExpressionTree) (e : rules.subject n at c ≡ Ok (subject, c1)) where
  pub when_opens : (c2 : Cursor Token) → skip is_new_line c1 ≡ Ok (tt, c2) → (brace : Token) (c3 : Cursor Token) → expect sign.OpenBrace c2 ≡ Ok (brace, c3) → rules.when_rest n at t c ≡ rules.entries_rest n at t subject c3
  when_opens c2 skipped brace c3 opened = rw e (rw skipped (rw opened refl))

-- ---- the entries of a `when`, in the code's order

module _ (n : ℕ) (at : Context) (c : Cursor Token) (t : Token) (subject : Option Expression) (has : Bool) (same : has ≡ is_some subject) where
  abbrev seen : Option ExpressionTree
  seen = option_map expression_tree subject

  abbrev entries : Parser Token (List EntryTree × Token)
  entries = separated (is_sign sign.CloseBrace) ((parsers n).entry at has)

  abbrev made : List EntryTree × Token → Parser Token ExpressionTree
  made es = pure (e.when t.pos (e.maybe_expression seen) (e.entries_of es.0))

  seen_same : (o : Option Expression) → is_some (option_map expression_tree o) ≡ is_some o
  seen_same (Some x) = refl
  seen_same None = refl

  over_has : rules.entries_rest n at t seen c ≡ (entries >>= made) c
  over_has = ap (λ (b : Bool). (separated (is_sign sign.CloseBrace) ((parsers n).entry at b) >>= made) c) (seen_same subject ∙ sym same)

  pub when_made : (es : List EntryTree) (end : Pos) (c1 : Cursor Token) → given place_of entries c ≡ Ok ((es, end), c1) → (tree : ExpressionTree) → tree ≡ e.when t.pos (e.maybe_expression seen) (e.entries_of es)
      → rules.entries_rest n at t seen c ≡ Ok (tree, c1)
  when_made es end c1 h tree is = over_has ∙ placed_ok entries c (λ es _. pure (e.when t.pos (e.maybe_expression seen) (e.entries_of es))) es end c1 h ∙ ap (λ (z : ExpressionTree). Ok (z, c1)) (sym is)

  pub when_fails : (k : List Token) → given place_of entries c ≡ Err k → rules.entries_rest n at t seen c ≡ Err k
  when_fails k h = over_has ∙ placed_err entries c made k h
