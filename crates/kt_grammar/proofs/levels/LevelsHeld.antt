-- Phrases of at most so many levels have trees of at most so many levels.
use Rattle.std.proofs.Common.{
  ◌≡◌,
  ℕ,
  zero,
  suc,
  ◌+◌,
  ◌≤◌,
  ◌<◌,
  Bool,
  true,
  false,
  ◌&&◌,
  nat_lt,
  nat_le,
  max,
  List,
  [],
  ◌∷◌,
  ◌++◌,
  Option,
  None,
  Some,
  refl,
  ap,
  sym,
  subst,
  arith,
  inl,
  inr,
  ◌⊎◌,
  map,
}
use Rattle.std.proofs.lemmas.Bool.Decides.{nat_tests}
use Rattle.kt_tree.specs.declared.tokens.Token.{Token}
use Rattle.kt_base.specs.declared.refusals.Pos.{Pos}
use Rattle.kt_tree.specs.Types.{TypeTree}
use Rattle.kt_tree.specs.Bodies as e
use Rattle.kt_tree.specs.Bodies.{
  ExpressionTree,
  StatementTree,
  BodyTree,
  BlockTree,
  PartTree,
  ParameterTree,
  EntryTree,
  ConditionTree,
  CatchTree,
  expressions_of,
  parts_of,
  entries_of,
  conditions_of,
  catches_of,
  statements_of,
  maybe_expression,
}
use Rattle.kt_tree.specs.Levels.{
  most,
  levels,
  type_levels,
  maybe_type_levels,
  parameter_levels,
  expressions_levels,
  maybe_levels,
  part_levels,
  parts_levels,
  part_level,
  entry_levels,
  entries_levels,
  condition_levels,
  conditions_levels,
  catch_levels,
  catches_levels,
  body_levels,
  block_levels,
  statement_levels,
  statements_levels,
}
use Rattle.kt_grammar_parsers.specs.Parsers.{some_levels}
use Rattle.kt_grammar_parsers.specs.Phrases.{Seq, Loop, Chain}
use Rattle.kt_grammar.specs.Levels.{Phrases, none, place, ends_in_name, is_target}
use Rattle.kt_grammar.specs.declared.context.Context.{Context}
use Rattle.kt_grammar.specs.Expressions as x
use Rattle.kt_grammar.specs.Expressions.{IsPart, IsParameter, IsBlockRest, IsBlock, in_lambda}
use Rattle.kt_grammar.specs.Statements as s
use Rattle.kt_grammar.specs.Statements.{in_loop, over, phrases}
use Rattle.kt_grammar_parsers.proofs.Steps.{truth}
use Rattle.kt_grammar.proofs.levels.Room.{some_level}
use Rattle.kt_grammar.proofs.levels.Holding.{
  Each,
  Turns,
  All,
  Perhaps,
  all_last,
  most_of,
  each_gives,
  each_either,
  each_if,
  each_past,
  each_seq,
  each_then,
  each_where,
  each_room,
  each_loop,
  each_comma_list,
  each_maybe_comma_list,
  each_several,
  each_items,
  each_maybe,
  each_empty,
}
use Rattle.kt_grammar.proofs.levels.TypeLevels.{TypeFits, maybe_type_fits, type_fits}

-- ---- of lists, from what holds of each item

expressions_fit : (n : ℕ) (as' : List ExpressionTree) → All (λ a. levels a ≤ n) as' → expressions_levels (expressions_of as') ≤ n
expressions_fit n [] all = omega arith
expressions_fit n (a ∷ as') all = let h = expressions_fit n as' all.1 in omega (arith, all.0, h)

entries_fit : (n : ℕ) (es : List EntryTree) → All (λ a. entry_levels a ≤ n) es → entries_levels (entries_of es) ≤ n
entries_fit n [] all = omega arith
entries_fit n (a ∷ es) all = let h = entries_fit n es all.1 in omega (arith, all.0, h)

conditions_fit : (n : ℕ) (cs : List ConditionTree) → All (λ a. condition_levels a ≤ n) cs → conditions_levels (conditions_of cs) ≤ n
conditions_fit n [] all = omega arith
conditions_fit n (a ∷ cs) all = let h = conditions_fit n cs all.1 in omega (arith, all.0, h)

catches_fit : (n : ℕ) (cs : List CatchTree) → All (λ a. catch_levels a ≤ n) cs → catches_levels (catches_of cs) ≤ n
catches_fit n [] all = omega arith
catches_fit n (a ∷ cs) all = let h = catches_fit n cs all.1 in omega (arith, all.0, h)

statements_fit : (n : ℕ) (ss : List StatementTree) → All (λ a. statement_levels a ≤ n) ss → statements_levels (statements_of ss) ≤ n
statements_fit n [] all = omega arith
statements_fit n (a ∷ ss) all = let h = statements_fit n ss all.1 in omega (arith, all.0, h)

maybe_fits : (n : ℕ) (a : Option ExpressionTree) → Perhaps (λ a. levels a ≤ n) a → maybe_levels (maybe_expression a) ≤ n
maybe_fits n None h = omega arith
maybe_fits n (Some a) h = h

last_part : (ps : List PartTree) (p : PartTree) → parts_levels (parts_of (ps ++ p ∷ [])) ≡ max (part_levels p) (parts_levels (parts_of ps))
last_part [] p = refl
last_part (q ∷ ps) p = further (last_part ps p)
  where
    further : parts_levels (parts_of (ps ++ p ∷ [])) ≡ max (part_levels p) (parts_levels (parts_of ps)) → max (part_levels q) (parts_levels (parts_of (ps ++ p ∷ []))) ≡ max (part_levels p) (max (part_levels q) (parts_levels (parts_of ps)))
    further e = omega arith

-- ---- what is asked

within : (n m : ℕ) → nat_lt n (suc m) ≡ true → n ≤ m
within n m h = grind (arith, nat_tests)

at_most : (n m : ℕ) → nat_le n m ≡ true → n ≤ m
at_most n m h = grind (arith, nat_tests)

one_left : (n : ℕ) → some_levels n ≡ true → 1 ≤ n
one_left zero h = absurd (let e : ℕ = 0 in cc)
one_left (suc n) h = omega arith

and_right : (a b : Bool) → (a && b) ≡ true → b ≡ true
and_right true b h = h
and_right false b h = absurd cc

-- each phrase has as many levels as it may have
pub record Held (below : Phrases) : Type 0 where
  pub disjunction : (at : Context) → Each (below.disjunction at) (λ a. levels a ≤ below.levels)
  pub conjunction : (at : Context) → Each (below.conjunction at) (λ a. levels a ≤ below.levels)
  pub equality : (at : Context) → Each (below.equality at) (λ a. levels a ≤ below.levels)
  pub comparison : (at : Context) → Each (below.comparison at) (λ a. levels a ≤ below.levels)
  pub test : (at : Context) → Each (below.test at) (λ a. levels a ≤ below.levels)
  pub infixed : (at : Context) → Each (below.infixed at) (λ a. levels a ≤ below.levels)
  pub additive : (at : Context) → Each (below.additive at) (λ a. levels a ≤ below.levels)
  pub multiplicative : (at : Context) → Each (below.multiplicative at) (λ a. levels a ≤ below.levels)
  pub cast : (at : Context) → Each (below.cast at) (λ a. levels a ≤ below.levels)
  pub prefix : (at : Context) → Each (below.prefix at) (λ a. levels a ≤ below.levels)
  pub lambda : (at : Context) → Each (below.lambda at) (λ a. levels a ≤ below.levels)
  pub statement : (at : Context) → Each (below.statement at) (λ a. statement_levels a ≤ below.levels)
  pub body : (at : Context) → Each (below.body at) (λ a. body_levels a ≤ below.levels)
  -- what a part holds is one level below it
  pub part : (at : Context) → Each (below.part at) (λ a. part_levels a + 1 ≤ max 1 below.levels)
  pub parameter : Each below.parameter (λ a. parameter_levels a ≤ below.levels)
  pub entry : (at : Context) (subject : Bool) → Each (below.entry at subject) (λ a. entry_levels a ≤ below.levels)
  pub condition : (at : Context) (subject : Bool) → Each (below.condition at subject) (λ a. condition_levels a ≤ below.levels)
  pub catch : (at : Context) (name : List ℕ) → Each (below.catch at name) (λ a. catch_levels a ≤ below.levels)

-- ---- parts, parameters, blocks

part_holds : (n : ℕ) (Expression : ExpressionTree → List Token → List Token → Type 0) → Each Expression (λ a. levels a ≤ n) → Each (IsPart n Expression) (λ p. part_levels p ≤ n)
part_holds n Expression h = each_either (each_if (some_levels n) (λ l. each_then (λ _. each_gives (one_left n l))) (λ _. each_empty))
    (each_either (each_if (some_levels n) (λ l. each_then (λ _. each_gives (one_left n l))) (λ _. each_empty))
    (each_either (each_then (λ _. each_seq (each_past h) (λ a k. each_then (λ _. each_gives k)))) (each_then (λ _. each_gives (omega arith)))))

parameter_holds : (n : ℕ) → Each (IsParameter (suc n)) (λ p. parameter_levels p ≤ suc n)
parameter_holds n = each_then (λ x. each_seq (each_maybe (TypeFits (suc n)) (type_fits (suc n))) (λ t h. each_gives (let k = maybe_type_fits (suc n) t h in omega (arith, k))))

block_rest_holds : (n : ℕ) (Statement : StatementTree → List Token → List Token → Type 0) → Each Statement (λ s. statement_levels s ≤ n) → Each (IsBlockRest Statement) (λ b. block_levels b ≤ n)
block_rest_holds n Statement h = each_seq (each_items (λ s. statement_levels s ≤ n) h) (λ b all. each_gives (statements_fit n b.0 all))

pub block_holds : (n : ℕ) (Statement : StatementTree → List Token → List Token → Type 0) → Each Statement (λ s. statement_levels s ≤ n) → Each (IsBlock Statement) (λ b. block_levels b ≤ n)
block_holds n Statement h = each_then (λ _. block_rest_holds n Statement h)

-- ---- one level more

module _ (below : Phrases) (H : Held below) (at : Context) where
  abbrev m : ℕ
  m = below.levels

  abbrev room : ℕ
  room = suc m

  abbrev Fits : ExpressionTree → Type 0
  Fits a = levels a ≤ room

  abbrev Inner : ExpressionTree → Type 0
  Inner a = levels a ≤ m

  -- ---- primaries

  next_part_holds : (ps : List PartTree) → Each (x.IsNextPart room below at ps) (λ p. parts_levels (parts_of (ps ++ p ∷ [])) + part_level (parts_of (ps ++ p ∷ [])) ≤ m)
  next_part_holds [] = record { value = λ p u rest l. let h = (part_holds m (below.disjunction at) (H.disjunction at)).value p u rest l in omega (arith, h) }
  next_part_holds (q ∷ []) = each_if _ (λ g. record { value = λ p u rest l. let h = (H.part at).value p u rest l in let k = at_most _ _ g in omega (arith, h, k) }) (λ _. each_empty)
  next_part_holds (q ∷ r ∷ ps) = each_if _ (λ g. record { value = λ p u rest l. let h = (H.part at).value p u rest l in let k = at_most _ _ g in let j = last_part (q ∷ r ∷ ps) p in omega (arith, h, k, j) }) (λ _. each_empty)

  abbrev PartsFit : List PartTree → Type 0
  PartsFit ps = parts_levels (parts_of ps) + part_level (parts_of ps) ≤ m

  string_holds : Each (x.IsString room below at) Fits
  string_holds = each_then (λ t. each_loop PartsFit Fits (λ ps h. each_either (each_then (λ _. each_gives (omega (arith, h)))) (each_seq (next_part_holds ps) (λ p k. each_gives k))) [] (omega arith))

  head_holds : Each (x.IsLambdaHead room below at) (λ ps. most (map parameter_levels ps) ≤ m)
  head_holds = each_seq (each_several (λ p. parameter_levels p ≤ m) H.parameter) (λ ps all. each_then (λ _. each_gives (most_of parameter_levels m ps all)))

  lambda_holds : Each (x.IsLambda room below at) Fits
  lambda_holds = each_then (λ t. each_then (λ _. each_seq (each_where (each_seq head_holds (λ ps h. each_gives h)) (each_gives {P = λ ps. most (map parameter_levels ps) ≤ m} (omega arith)))
      (λ ps h. each_seq (block_rest_holds m (below.statement in_lambda) (H.statement in_lambda)) (λ b k. each_gives (omega (arith, h, k))))))

  if_holds : Each (x.IsIf room below at) Fits
  if_holds = each_then (λ t. each_then (λ _. each_seq (H.disjunction at) (λ a h. each_then (λ _. each_seq (each_past (H.body at)) (λ b k.
      each_where (each_then (λ _. each_seq (H.body at) (λ c j. each_gives (omega (arith, h, k, j))))) (each_gives (omega (arith, h, k))))))))

  subject_holds : Each (x.IsSubject room below at) (Perhaps Inner)
  subject_holds = each_room _ (λ _. each_then (λ _. each_seq (H.disjunction at) (λ a h. each_then (λ _. each_gives h)))) (each_gives tt)

  when_holds : Each (x.IsWhen room below at) Fits
  when_holds = each_then (λ t. each_seq subject_holds (λ a h. each_then (λ _. each_seq (each_items (λ e. entry_levels e ≤ m) (H.entry at _)) (λ es k.
      each_gives (let j = maybe_fits m a h in let i = entries_fit m es.0 k in omega (arith, j, i))))))

  abbrev CatchesFit : List CatchTree → Type 0
  CatchesFit = All (λ c. catch_levels c ≤ m)

  catch_turn_holds : (cs : List CatchTree) → CatchesFit cs → Each (x.CatchTurn room below at cs) (Turns CatchesFit CatchesFit)
  catch_turn_holds cs all = each_room _ (λ _. each_then (λ x. each_seq (H.catch at _) (λ c h. each_gives (all_last (λ c. catch_levels c ≤ m) cs c all h)))) (each_gives all)

  no_finally_holds : (start : _) (b : BlockTree) (cs : List CatchTree) → block_levels b ≤ m → CatchesFit cs → Each (x.IsNoFinally room below at start b cs) Fits
  no_finally_holds start b [] h all = each_empty
  no_finally_holds start b (c ∷ cs) h all = each_gives (let k = catches_fit m cs all.1 in omega (arith, h, k, all.0))

  try_holds : Each (x.IsTry room below at) Fits
  try_holds = each_then (λ t. each_seq (each_past (block_holds m (below.statement at) (H.statement at))) (λ b h. each_seq (each_loop CatchesFit CatchesFit catch_turn_holds [] tt) (λ cs all.
      each_where (each_then (λ _. each_seq (block_rest_holds m (below.statement at) (H.statement at)) (λ f k. each_gives (let j = catches_fit m cs all in omega (arith, h, k, j))))) (no_finally_holds t.pos b cs h all))))

  return_holds : Each (x.IsReturn room below at) Fits
  return_holds = each_if _ (λ _. each_then (λ t. each_where (each_then (λ _. each_seq (H.disjunction at) (λ a h. each_gives (omega (arith, h))))) (each_gives (omega arith)))) (λ _. each_empty)

  primary_holds : Each (x.IsPrimary room below at) Fits
  primary_holds =
      each_either (each_then (λ t. each_seq (H.disjunction at) (λ a h. each_then (λ _. each_gives (omega (arith, h))))))
      (each_either if_holds
      (each_either (each_then (λ t. each_seq (H.disjunction at) (λ a h. each_gives (omega (arith, h)))))
      (each_either return_holds
      (each_either (each_if _ (λ _. each_then (λ t. each_gives (omega arith))) (λ _. each_empty))
      (each_either (each_if _ (λ _. each_then (λ t. each_gives (omega arith))) (λ _. each_empty))
      (each_either lambda_holds
      (each_either when_holds
      (each_either try_holds
      (each_either string_holds
      (each_either (each_then (λ t. each_gives (omega arith)))
      (each_either (each_then (λ t. each_gives (omega arith)))
      (each_then (λ l. each_gives (omega arith))))))))))))))

  -- ---- suffixes

  abbrev ArgumentsFit : List ExpressionTree → Type 0
  ArgumentsFit = All Inner

  arguments_hold : Each (x.IsArguments room below at) ArgumentsFit
  arguments_hold = each_seq (each_maybe_comma_list Inner (H.disjunction at))
      (λ es all. each_where (each_then (λ _. each_seq (H.lambda at) (λ l h. each_gives (all_last Inner es l all h)))) (each_gives all))

  call_arguments_hold : Each (x.IsCall room below at) (λ es. ArgumentsFit es.0)
  call_arguments_hold = each_either (each_then (λ t. each_seq arguments_hold (λ es all. each_gives {P = λ es. ArgumentsFit es.0} all)))
      (each_seq (H.lambda at) (λ l h. each_gives {P = λ es. ArgumentsFit es.0} (h, tt)))

  -- there is room for a call of this
  abbrev CallFits : ExpressionTree → Type 0
  CallFits a = levels (x.called room below at a (place a) [] []) ≤ room

  -- what is called, and the arguments and types, have room
  call_holds : (a : ExpressionTree) (ts : List TypeTree × Pos) → CallFits a → All (TypeFits room) ts.0 → Each (x.IsCallOf room below at a ts) (Turns Fits Fits)
  call_holds a ts h all = each_seq call_arguments_hold (λ es k. each_gives (let j = expressions_fit m es.0 k in let i = most_of type_levels room ts.0 all in omega (arith, h, i, j)))

  plain_call_holds : (a : ExpressionTree) → CallFits a → Each (x.IsPlainCall room below at a) (Turns Fits Fits)
  plain_call_holds a h = each_seq call_arguments_hold (λ es k. each_gives (let j = expressions_fit m es.0 k in omega (arith, h, j)))

  named_call : (a : ExpressionTree) → ends_in_name a ≡ true → Fits a → CallFits a
  named_call (e.name at' y) n h = omega arith
  named_call (e.member at' a safe y) n h = omega (arith, h)
  named_call _ n h = absurd (let i : false ≡ true = n in cc)

  suffix_holds : (a : ExpressionTree) → Fits a → Each (x.SuffixTurn room below at a) (Turns Fits Fits)
  suffix_holds a h =
      each_room _ (λ n. each_seq (each_then (λ t. each_seq (each_comma_list (TypeFits room) (type_fits room)) (λ ts all. each_then (λ _. each_gives {P = λ ts. All (TypeFits room) ts.0} all)))) (λ ts all. call_holds a ts (named_call a n h) all))
      (each_room _ (λ c. each_then (λ _. plain_call_holds a (at_most _ _ c)))
      (each_room _ (λ g. each_then (λ _. each_gives (let k = within _ _ g in omega (arith, k))))
      (each_room _ (λ g. each_then (λ _. each_seq (H.disjunction at) (λ i j. each_then (λ _. each_gives (let k = within _ _ g in omega (arith, k, j))))))
      (each_room _ (λ g. each_then (λ safe. each_then (λ y. each_gives (let k = within _ _ g in omega (arith, k))))) (each_gives h)))))

  postfix_holds : Each (x.IsPostfix room below at) Fits
  postfix_holds = each_seq primary_holds (λ a h. each_loop Fits Fits suffix_holds a h)

  -- ---- operators

  prefixed_holds : Each (x.IsPrefixed room below at) Fits
  prefixed_holds = each_either (each_then (λ o. each_seq (H.prefix at) (λ a h. each_gives (omega (arith, h))))) postfix_holds

  cast_turn_holds : (a : ExpressionTree) → Fits a → Each (x.CastTurn room below at a) (Turns Fits Fits)
  cast_turn_holds a h = each_room _ (λ g. each_then (λ safe. each_seq (each_past (type_fits room)) (λ t k. each_gives (let j = within _ _ g in omega (arith, k, j))))) (each_gives h)

  cast_holds : Each (x.IsCast room below at) Fits
  cast_holds = each_seq prefixed_holds (λ a h. each_loop Fits Fits cast_turn_holds a h)

  chain_holds : {First Operand : ExpressionTree → List Token → List Token → Type 0} {Operator : _} → Each First Fits → Each Operand Inner → Each (x.IsChain room below at First Operator Operand) Fits
  chain_holds first operand = each_seq first (λ a h. each_loop Fits Fits (λ a h. each_room _ (λ g. each_then (λ o. each_then (λ _. each_seq operand (λ b k. each_gives (let j = within _ _ g in omega (arith, k, j)))))) (each_gives h)) a h)

  multiplicative_holds : Each (x.IsMultiplicative room below at) Fits
  multiplicative_holds = chain_holds cast_holds (H.cast at)

  additive_holds : Each (x.IsAdditive room below at) Fits
  additive_holds = chain_holds multiplicative_holds (H.multiplicative at)

  infix_holds : Each (x.IsInfix room below at) Fits
  infix_holds = chain_holds additive_holds (H.additive at)

  elvis_holds : Each (x.IsElvis room below at) Fits
  elvis_holds = chain_holds infix_holds (H.infixed at)

  test_holds : Each (x.IsTest room below at) Fits
  test_holds = each_seq elvis_holds (λ a h. each_room _ (λ g. each_then (λ not. each_seq (each_past (type_fits room)) (λ t k. each_gives (let j = within _ _ g in omega (arith, k, j))))) (each_gives h))

  comparison_holds : Each (x.IsComparison room below at) Fits
  comparison_holds = each_seq test_holds (λ a h. each_room _ (λ g. each_then (λ o. each_seq (each_past (H.test at)) (λ b k. each_gives (let j = within _ _ g in omega (arith, k, j))))) (each_gives h))

  equality_holds : Each (x.IsEquality room below at) Fits
  equality_holds = chain_holds comparison_holds (H.comparison at)

  conjunction_holds : Each (x.IsConjunction room below at) Fits
  conjunction_holds = chain_holds equality_holds (H.equality at)

  disjunction_holds : Each (x.IsDisjunction room below at) Fits
  disjunction_holds = chain_holds conjunction_holds (H.conjunction at)

  -- ---- statements

  abbrev StatementFits : StatementTree → Type 0
  StatementFits a = statement_levels a ≤ room

  initializer_holds : Each (s.IsInitializer room below at) (Perhaps Inner)
  initializer_holds = each_room _ (λ _. each_then (λ _. each_seq (each_past (H.disjunction at)) (λ a h. each_gives h))) (each_gives tt)

  local_holds : Each (s.IsLocal room below at) StatementFits
  local_holds = each_then (λ var. each_then (λ y. each_seq (each_maybe (TypeFits room) (type_fits room)) (λ t h. each_seq initializer_holds (λ a k.
      each_gives (let j = maybe_type_fits room t h in let i = maybe_fits m a k in omega (arith, j, i))))))

  simple_holds : Each (s.IsSimple room below at) StatementFits
  simple_holds = each_seq disjunction_holds (λ a h.
      each_room _ (λ g. each_then (λ o. each_seq (each_past (H.disjunction at)) (λ b k. each_gives (let j = within (levels a) m (and_right (is_target a) (nat_lt (levels a) room) g) in omega (arith, k, j)))))
      (each_room _ (λ g. each_then (λ o. each_gives (let j = within (levels a) m (and_right (is_target a) (nat_lt (levels a) room) g) in omega (arith, j)))) (each_gives h)))

  while_holds : Each (s.IsWhile room below at) StatementFits
  while_holds = each_then (λ t. each_then (λ _. each_seq (H.disjunction at) (λ a h. each_then (λ _. each_seq (each_past (H.body (in_loop at))) (λ b k. each_gives (omega (arith, h, k)))))))

  do_holds : Each (s.IsDoWhile room below at) StatementFits
  do_holds = each_then (λ t. each_seq (each_past (block_holds m (below.statement (in_loop at)) (H.statement (in_loop at)))) (λ b h. each_then (λ _. each_then (λ _. each_seq (H.disjunction at) (λ a k. each_then (λ _. each_gives (omega (arith, h, k))))))))

  for_holds : Each (s.IsFor room below at) StatementFits
  for_holds = each_then (λ t. each_then (λ _. each_then (λ y. each_then (λ _. each_seq (H.additive at) (λ a h. each_then (λ o. each_seq (H.additive at) (λ b k. each_then (λ _. each_seq (each_past (H.body (in_loop at))) (λ c j. each_gives (omega (arith, h, k, j)))))))))))

  statement_holds : Each (s.IsStatement room below at) StatementFits
  statement_holds = record { value = λ a u rest l. (each_either local_holds (each_either while_holds (each_either do_holds (each_either for_holds simple_holds)))).value a u rest l.0 }

  body_holds : Each (s.IsBody room below at) (λ b. body_levels b ≤ room)
  body_holds = each_either (each_seq (block_holds room (s.IsStatement room below at) statement_holds) (λ b h. each_gives h)) (each_seq statement_holds (λ a h. each_gives h))

  condition_holds : (subject : Bool) → Each (s.IsCondition room below at subject) (λ c. condition_levels c ≤ room)
  condition_holds subject = each_either (each_seq (H.disjunction at) (λ a h. each_gives (omega (arith, h)))) (each_if subject (λ _. each_then (λ not. each_seq (type_fits room) (λ t h. each_gives h))) (λ _. each_empty))

  entry_holds : (subject : Bool) → Each (s.IsEntry room below at subject) (λ e. entry_levels e ≤ room)
  entry_holds subject = each_seq (each_either (each_then (λ _. each_gives tt)) (each_several (λ c. condition_levels c ≤ m) (H.condition at subject)))
      (λ cs all. each_then (λ _. each_seq (each_past (H.body at)) (λ b k. each_gives (let j = conditions_fit m cs all in omega (arith, j, k)))))

  catch_holds : (name : List ℕ) → Each (s.IsCatchRest room below at name) (λ c. catch_levels c ≤ room)
  catch_holds name = each_seq (type_fits room) (λ t h. each_then (λ _. each_seq (each_past (block_holds m (below.statement at) (H.statement at))) (λ b k. each_gives (omega (arith, h, k)))))

-- ---- each number of levels

none_held : Held none
none_held = record {
  disjunction = λ at. each_empty;
  conjunction = λ at. each_empty;
  equality = λ at. each_empty;
  comparison = λ at. each_empty;
  test = λ at. each_empty;
  infixed = λ at. each_empty;
  additive = λ at. each_empty;
  multiplicative = λ at. each_empty;
  cast = λ at. each_empty;
  prefix = λ at. each_empty;
  lambda = λ at. each_empty;
  statement = λ at. each_empty;
  body = λ at. each_empty;
  part = λ at. each_empty;
  parameter = each_empty;
  entry = λ at subject. each_empty;
  condition = λ at subject. each_empty;
  catch = λ at name. each_empty;
}

over_held : (below : Phrases) → Held below → Held (over below)
over_held below H = record {
  disjunction = disjunction_holds below H;
  conjunction = conjunction_holds below H;
  equality = equality_holds below H;
  comparison = comparison_holds below H;
  test = test_holds below H;
  infixed = infix_holds below H;
  additive = additive_holds below H;
  multiplicative = multiplicative_holds below H;
  cast = cast_holds below H;
  prefix = prefixed_holds below H;
  lambda = lambda_holds below H;
  statement = statement_holds below H;
  body = body_holds below H;
  part = λ at. record { value = λ p u rest l. let h = (part_holds below.levels (below.disjunction at) (H.disjunction at)).value p u rest l in omega (arith, h) };
  parameter = parameter_holds below.levels;
  entry = entry_holds below H;
  condition = condition_holds below H;
  catch = catch_holds below H;
}

pub phrases_held : (n : ℕ) → Held (phrases n)
unfolding phrases
phrases_held zero = none_held
phrases_held (suc n) = over_held (phrases n) (phrases_held n)

pub levels_are : (n : ℕ) → (phrases n).levels ≡ n
unfolding phrases
levels_are zero = refl
levels_are (suc n) = ap suc (levels_are n)
