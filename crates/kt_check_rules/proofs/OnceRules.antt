-- A tree has at most one typing.
use Rattle.std.proofs.Common.{ℕ, List, Option, Bool}
use Rattle.kt_base.specs.declared.refusals.Pos.{Pos}
use Rattle.kt_tree.specs.declared.bodies.AssignmentOperator.{AssignmentOperator}
use Rattle.kt_tree.specs.declared.bodies.StepOperator.{StepOperator}
use Rattle.kt_tree.specs.Types.{TypeTree}
use Rattle.kt_tree.specs.Bodies.{ExpressionTree, literal, template, name, this, parenthesized, lambda, prefix, binary, type_check, cast, not_null, member, index, call, if_else, when, try_catch, throw, return, break, continue}
use Rattle.kt_tree.specs.Bodies.{ExpressionTrees, expressions_end, expression_then, MaybeExpression, no_expression, some_expression, PartTree, text, name_part, this_part, hole, PartTrees, parts_end, part_then}
use Rattle.kt_tree.specs.Bodies.{entry, EntryTrees, entries_end, entry_then, ConditionTree, equals, of_type, ConditionTrees, conditions_end, condition_then}
use Rattle.kt_tree.specs.Bodies.{BodyTree, braces, single, MaybeBody, no_body, some_body, BlockTree, block, StatementTree, local, assign, step, while, do_while, for, evaluate, StatementTrees, statements_end, statement_then}
use Rattle.kt_check_rules.specs.States.{Context, meaning}
use Rattle.kt_check_rules.specs.Literals.{behind_minus}
use Rattle.kt_check_rules.specs.Names.{Names}
use Rattle.kt_check_rules.specs.Calls.{callable, count}
use Rattle.kt_check_rules.specs.Conditionals.{NoLines}
use Rattle.kt_check_rules.specs.Assignments.{applied_by}
use Rattle.kt_check_rules.specs.Rules.{Typed, TypedAll, TypedParts, TypedPart, TypedEntries, TypedConditions, TypedCondition, TypedBody, TypedBlock, TypedElse, TypedSingle, TypedLines, TypedBlockLines, TypedStatement, TypedLocal, TypedAssignment, TypedStep, NoRule}
use Rattle.kt_check_rules.proofs.Once.{OnceFor, OnceAt, none_once, then_once}
use Rattle.kt_check_rules.proofs.OnceOperators.{literals_once, no_rule_once, text_once, printed_once, templates_once, names_once, binaries_once, prefixes_once, tests_once, casts_once, not_nulls_once, elements_once, members_once}
use Rattle.kt_check_rules.proofs.OnceCalls.{OnceEach, no_arguments_once, more_arguments_once, calls_once, method_calls_once}
use Rattle.kt_check_rules.proofs.OnceBlocks.{OnceLines, OnceElse, OnceCondition, OnceConditions, OnceEntries, no_lines_once, line_then_once, last_line_once, evaluations_once, blocks_once, no_else_once, else_once, ifs_once, conditions_once, type_conditions_once, no_conditions_once, condition_then_once, no_entries_once, entry_then_once, whens_without_once, whens_once}
use Rattle.kt_check_rules.proofs.OnceLoops.{no_statement_rule_once, whiles_once, do_whiles_once, fors_once, breaks_once, continues_once, returns_once, bare_returns_once, local_assignments_once, local_steps_once, element_assignments_once, element_steps_once, bare_once, initialized_once}

mutual
  pub typed : (K : Context) (e : ExpressionTree) → OnceFor (Typed K e)
  typed K (literal at l) = literals_once l
  typed K (template at ps) = templates_once (TypedParts K at ps) (parts K at ps)
  typed K (name at x) = names_once K x
  typed K (this at) = no_rule_once
  typed K (parenthesized at e) = typed K e
  typed K (lambda at l) = no_rule_once
  typed K (prefix at o e) = prefixes_once K o (Typed K e) (behind_minus e) (typed K e)
  typed K (binary at o a b) = binaries_once K o (Typed K a) (Typed K b) (typed K a) (typed K b)
  typed K (type_check at e n t) = tests_once K (Typed K e) n (meaning K t) (typed K e)
  typed K (cast at e n t) = casts_once K (Typed K e) n (meaning K t) (typed K e)
  typed K (not_null at e) = not_nulls_once K (Typed K e) (typed K e)
  typed K (member at e n x) = members_once K (Typed K e) n x (typed K e)
  typed K (index at a i) = elements_once (Typed K a) (Typed K i) (typed K a) (typed K i)
  typed K (call at (name place x) start ts es) = calls_once (callable K x ts (count es)) (TypedAll K es) start
      (arguments K es)
  typed K (call at (member place e n x) start ts es) =
      method_calls_once K (Typed K e) n x ts (count es) (TypedAll K es) start (typed K e) (arguments K es)
  typed K (call at f start ts es) = no_rule_once
  typed K (if_else at e x y) = ifs_once K (Typed K e) (TypedBody K x) (TypedElse K y) (typed K e) (branch K x)
      (otherwise K y)
  typed K (when at no_expression es) = whens_without_once K (TypedEntries K es) (entries K es)
  typed K (when at (some_expression e) es) = whens_once K (Typed K e) (TypedEntries K es) (typed K e) (entries K es)
  typed K (try_catch at x cs f) = no_rule_once
  typed K (throw at e) = no_rule_once
  typed K (return at no_expression) = bare_returns_once K
  typed K (return at (some_expression e)) = returns_once K (Typed K e) (typed K e)
  typed K (break at) = breaks_once
  typed K (continue at) = continues_once

  arguments : (K : Context) (es : ExpressionTrees) → OnceEach (TypedAll K es)
  arguments K expressions_end = no_arguments_once
  arguments K (expression_then e es) = more_arguments_once K (Typed K e) (TypedAll K es) (typed K e) (arguments K es)

  parts : (K : Context) (at : Pos) (ps : PartTrees) → OnceAt (TypedParts K at ps)
  parts K at parts_end = none_once
  parts K at (part_then p ps) = then_once (TypedPart K at p) (TypedParts K at ps) (part K at p) (parts K at ps)

  part : (K : Context) (at : Pos) (p : PartTree) → OnceAt (TypedPart K at p)
  part K at (text t) = text_once t
  part K at (name_part x) = printed_once K (Names K x) (names_once K x)
  part K at this_part = printed_once K NoRule no_rule_once
  part K at (hole e) = printed_once K (Typed K e) (typed K e)

  entries : (K : Context) (es : EntryTrees) → OnceEntries (TypedEntries K es)
  entries K entries_end = no_entries_once
  entries K (entry_then (entry cs x) es) =
      entry_then_once K (TypedConditions K cs) (TypedBody K x) (TypedEntries K es) (conditions K cs) (branch K x)
      (entries K es)

  conditions : (K : Context) (cs : ConditionTrees) → OnceConditions (TypedConditions K cs)
  conditions K conditions_end = no_conditions_once
  conditions K (condition_then c cs) =
      condition_then_once K (TypedCondition K c) (TypedConditions K cs) (condition K c) (conditions K cs)

  condition : (K : Context) (c : ConditionTree) → OnceCondition (TypedCondition K c)
  condition K (equals e) = conditions_once K (Typed K e) (typed K e)
  condition K (of_type n t) = type_conditions_once K n (meaning K t)

  branch : (K : Context) (x : BodyTree) → OnceFor (TypedBody K x)
  branch K (braces x) = blocks K x
  branch K (single x) = blocks_once (TypedSingle K x) (alone K x)

  blocks : (K : Context) (x : BlockTree) → OnceFor (TypedBlock K x)
  blocks K (block ss at) = blocks_once (TypedLines K ss) (lines K ss)

  otherwise : (K : Context) (y : MaybeBody) → OnceElse (TypedElse K y)
  otherwise K no_body = no_else_once
  otherwise K (some_body x) = else_once K (TypedBody K x) (branch K x)

  alone : (K : Context) (x : StatementTree) → OnceLines (TypedSingle K x)
  alone K (evaluate at e) = last_line_once K at (Typed K e) (typed K e)
  alone K (local at var x t e) = line_then_once (TypedLocal K at var x t e) (NoLines K)
      (declaration K at var x t e) (no_lines_once K)
  alone K (assign at e o a) =
      line_then_once (TypedAssignment K at o e (Typed K a)) (NoLines K) (assignment K at o e a (typed K a))
      (no_lines_once K)
  alone K (step at e o) = line_then_once (TypedStep K at o e) (NoLines K) (stepping K at o e) (no_lines_once K)
  alone K (while at e x) = line_then_once _ (NoLines K) (whiles_once K at (Typed K e) (TypedBody K x) (typed K e)
      (branch K x)) (no_lines_once K)
  alone K (do_while at x e) =
      line_then_once _ (NoLines K) (do_whiles_once K at (TypedBlockLines K x) (Typed K e) (block_lines K x)
      (typed K e)) (no_lines_once K)
  alone K (for at x a o c b) =
      line_then_once _ (NoLines K) (fors_once at x o (Typed K a) (Typed K c) (TypedBody K b) (typed K a)
      (typed K c) (branch K b)) (no_lines_once K)

  lines : (K : Context) (ss : StatementTrees) → OnceLines (TypedLines K ss)
  lines K statements_end = no_lines_once K
  lines K (statement_then (evaluate at e) statements_end) = last_line_once K at (Typed K e) (typed K e)
  lines K (statement_then x ss) = line_then_once (TypedStatement K x) (TypedLines K ss) (statement K x) (lines K ss)

  block_lines : (K : Context) (x : BlockTree) → OnceLines (TypedBlockLines K x)
  block_lines K (block ss at) = lines K ss

  pub statement : (K : Context) (x : StatementTree) → OnceAt (TypedStatement K x)
  statement K (local at var x t e) = declaration K at var x t e
  statement K (assign at e o a) = assignment K at o e a (typed K a)
  statement K (step at e o) = stepping K at o e
  statement K (while at e x) = whiles_once K at (Typed K e) (TypedBody K x) (typed K e) (branch K x)
  statement K (do_while at x e) = do_whiles_once K at (TypedBlockLines K x) (Typed K e) (block_lines K x) (typed K e)
  statement K (for at x a o c b) = fors_once at x o (Typed K a) (Typed K c) (TypedBody K b) (typed K a) (typed K c)
      (branch K b)
  statement K (evaluate at e) = evaluations_once K at (Typed K e) (typed K e)

  declaration : (K : Context) (at : Pos) (var : Bool) (x : List ℕ) (t : Option TypeTree) (e : MaybeExpression) →
      OnceAt (TypedLocal K at var x t e)
  declaration K at var x t no_expression = bare_once K at var x t
  declaration K at var x t (some_expression e) = initialized_once K at var x t (Typed K e) (typed K e)

  assignment : (K : Context) (at : Pos) (o : AssignmentOperator) (target a : ExpressionTree) → OnceFor (Typed K a) →
      OnceAt (TypedAssignment K at o target (Typed K a))
  assignment K at o (name place x) e i = local_assignments_once K at x (applied_by o) (Typed K e) i
  assignment K at o (index place a j) e i =
      element_assignments_once K at (Typed K a) (Typed K j) (applied_by o) (Typed K e) (typed K a) (typed K j) i
  assignment K at o _ e i = no_statement_rule_once

  stepping : (K : Context) (at : Pos) (o : StepOperator) (target : ExpressionTree) → OnceAt (TypedStep K at o target)
  stepping K at o (name place x) = local_steps_once at x o
  stepping K at o (index place a i) = element_steps_once at (Typed K a) (Typed K i) o (typed K a) (typed K i)
  stepping K at o _ = no_statement_rule_once
