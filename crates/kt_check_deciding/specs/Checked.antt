-- What comes of a tree: for each form its rule as a function. The flag says whether all rules count, a form without a
-- rule having no typing, or those alone that the code has.
use Rattle.std.specs.Prelude.{ℕ, Bool, List, Option}
use Rattle.kt_base.specs.declared.refusals.Pos.{Pos}
use Rattle.kt_tree.specs.declared.bodies.AssignmentOperator.{AssignmentOperator}
use Rattle.kt_tree.specs.declared.bodies.StepOperator.{StepOperator}
use Rattle.kt_tree.specs.Types.{TypeTree}
use Rattle.kt_tree.specs.Bodies.{ExpressionTree, literal, template, name, this, parenthesized, lambda, prefix, binary, type_check, cast, not_null, member, index, call, if_else, when, try_catch, throw, return, break, continue}
use Rattle.kt_tree.specs.Bodies.{ExpressionTrees, expressions_end, expression_then, MaybeExpression, no_expression, some_expression, PartTree, text, name_part, this_part, hole, PartTrees, parts_end, part_then}
use Rattle.kt_tree.specs.Bodies.{entry, EntryTrees, entries_end, entry_then as tree_then, ConditionTree, equals, of_type, ConditionTrees, conditions_end, condition_then}
use Rattle.kt_tree.specs.Bodies.{BodyTree, braces, single, MaybeBody, no_body, some_body, BlockTree, block, StatementTree, local, assign, step, while, do_while, for, evaluate, StatementTrees, statements_end, statement_then}
use Rattle.kt_typed.specs.Bodies.{BlockForm, StatementForm, PartForm}
use Rattle.kt_check_rules.specs.States.{Context, meaning}
use Rattle.kt_check_rules.specs.Literals.{behind_minus}
use Rattle.kt_check_rules.specs.Calls.{callable, count}
use Rattle.kt_check_rules.specs.Assignments.{applied_by}
use Rattle.kt_check_deciding.specs.Outcomes.{Decision, DecisionAt, unruled, unruled_at, later, later_at}
use Rattle.kt_check_deciding.specs.Expressions.{Typings, literals, names, prefixes, binaries, Arguments, no_arguments, more_arguments, calls, calls_named}
use Rattle.kt_check_deciding.specs.Blocks.{LineForms, no_lines, line_then, last_line, evaluations, blocks, ElseForm, no_else, elses, ifs}
use Rattle.kt_check_deciding.specs.Access.{no_parts, parts_then, text_parts, printed_parts, templates, tests, casts, not_nulls, elements, members, method_calls, element_assignments, element_steps}
use Rattle.kt_check_deciding.specs.Loops.{do_whiles, fors}
use Rattle.kt_check_deciding.specs.Whens.{Ask, asks, type_asks, Asks, no_asks, ask_then, Entries, no_entries, entry_then, whens_without, whens}
use Rattle.kt_check_deciding.specs.Statements.{whiles, breaks, continues, returns, bare_returns, bares, initialized, assignments_to, local_steps}

abbrev mutual
  pub checked : Bool → Context → ExpressionTree → Typings
  checked all K (literal at l) = literals l
  checked all K (template at ps) = later all (templates (checked_parts all K at ps))
  checked all K (name at x) = names K x
  checked all K (this at) = unruled all
  checked all K (parenthesized at e) = checked all K e
  checked all K (lambda at l) = unruled all
  checked all K (prefix at o e) = prefixes K o (checked all K e) (behind_minus e)
  checked all K (binary at o a b) = binaries all K o (checked all K a) (checked all K b)
  checked all K (type_check at e is_negated t) = later all (tests K (checked all K e) is_negated (meaning K t))
  checked all K (cast at e gives_null t) = later all (casts K (checked all K e) gives_null (meaning K t))
  checked all K (not_null at e) = later all (not_nulls K (checked all K e))
  checked all K (member at e is_safe x) = later all (members K (checked all K e) is_safe x)
  checked all K (index at a i) = later all (elements (checked all K a) (checked all K i))
  checked all K (call at (name place x) start ts es) =
      calls_named all x (calls (callable K x ts (count es)) (checked_all all K es) start)
  checked all K (call at (member place e is_safe x) start ts es) =
      later all (method_calls K (checked all K e) is_safe x ts (count es) (checked_all all K es) start)
  checked all K (call at f start ts es) = unruled all
  checked all K (if_else at e x y) = ifs K (checked all K e) (checked_body all K x) (checked_else all K y)
  checked all K (when at no_expression es) = later all (whens_without K (checked_entries all K es))
  checked all K (when at (some_expression e) es) = later all (whens K (checked all K e) (checked_entries all K es))
  checked all K (try_catch at x cs f) = unruled all
  checked all K (throw at e) = unruled all
  checked all K (return at no_expression) = bare_returns K
  checked all K (return at (some_expression e)) = returns K (checked all K e)
  checked all K (break at) = breaks
  checked all K (continue at) = continues

  -- arguments
  pub checked_all : Bool → Context → ExpressionTrees → Arguments
  checked_all all K expressions_end = no_arguments
  checked_all all K (expression_then e es) = more_arguments K (checked all K e) (checked_all all K es)

  -- parts of a string
  pub checked_parts : Bool → Context → Pos → PartTrees → DecisionAt (List PartForm)
  checked_parts all K at parts_end = no_parts
  checked_parts all K at (part_then p ps) = parts_then (checked_part all K at p) (checked_parts all K at ps)

  pub checked_part : Bool → Context → Pos → PartTree → DecisionAt PartForm
  checked_part all K at (text t) = text_parts t
  checked_part all K at (name_part x) = printed_parts K (names K x)
  checked_part all K at this_part = printed_parts K (unruled all)
  checked_part all K at (hole e) = printed_parts K (checked all K e)

  pub checked_entries : Bool → Context → EntryTrees → Entries
  checked_entries all K entries_end = no_entries
  checked_entries all K (tree_then (entry cs x) es) =
      entry_then K (checked_conditions all K cs) (checked_body all K x) (checked_entries all K es)

  pub checked_conditions : Bool → Context → ConditionTrees → Asks
  checked_conditions all K conditions_end = no_asks
  checked_conditions all K (condition_then c cs) =
      ask_then K (checked_condition all K c) (checked_conditions all K cs)

  pub checked_condition : Bool → Context → ConditionTree → Ask
  checked_condition all K (equals e) = asks K (checked all K e)
  checked_condition all K (of_type is_negated t) = type_asks K is_negated (meaning K t)

  pub checked_body : Bool → Context → BodyTree → Decision BlockForm
  checked_body all K (braces x) = checked_block all K x
  checked_body all K (single x) = blocks (checked_single all K x)

  pub checked_block : Bool → Context → BlockTree → Decision BlockForm
  checked_block all K (block ss at) = blocks (checked_lines all K ss)

  pub checked_else : Bool → Context → MaybeBody → Decision ElseForm
  checked_else all K no_body = no_else
  checked_else all K (some_body x) = elses K (checked_body all K x)

  -- one statement, as if it stood in a block
  pub checked_single : Bool → Context → StatementTree → Decision LineForms
  checked_single all K (evaluate at e) = last_line K at (checked all K e)
  checked_single all K (local at var x t e) = line_then (checked_local all K at var x t e) (no_lines K)
  checked_single all K (assign at e o a) = line_then (checked_assignment all K at o e (checked all K a)) (no_lines K)
  checked_single all K (step at e o) = line_then (checked_step all K at o e) (no_lines K)
  checked_single all K (while at e x) = line_then (whiles K at (checked all K e) (checked_body all K x)) (no_lines K)
  checked_single all K (do_while at x e) =
      line_then (later_at all (do_whiles K at (checked_block_lines all K x) (checked all K e))) (no_lines K)
  checked_single all K (for at x a o c b) =
      line_then (later_at all (fors at x o (checked all K a) (checked all K c) (checked_body all K b))) (no_lines K)

  pub checked_lines : Bool → Context → StatementTrees → Decision LineForms
  checked_lines all K statements_end = no_lines K
  checked_lines all K (statement_then (evaluate at e) statements_end) = last_line K at (checked all K e)
  checked_lines all K (statement_then x ss) = line_then (checked_statement all K x) (checked_lines all K ss)

  -- the statements of a block in whose scope something follows
  pub checked_block_lines : Bool → Context → BlockTree → Decision LineForms
  checked_block_lines all K (block ss at) = checked_lines all K ss

  pub checked_statement : Bool → Context → StatementTree → DecisionAt StatementForm
  checked_statement all K (local at var x t e) = checked_local all K at var x t e
  checked_statement all K (assign at e o a) = checked_assignment all K at o e (checked all K a)
  checked_statement all K (step at e o) = checked_step all K at o e
  checked_statement all K (while at e x) = whiles K at (checked all K e) (checked_body all K x)
  checked_statement all K (do_while at x e) =
      later_at all (do_whiles K at (checked_block_lines all K x) (checked all K e))
  checked_statement all K (for at x a o c b) =
      later_at all (fors at x o (checked all K a) (checked all K c) (checked_body all K b))
  checked_statement all K (evaluate at e) = evaluations K at (checked all K e)

  pub checked_local :
      Bool → Context → Pos → Bool → List ℕ → Option TypeTree → MaybeExpression → DecisionAt StatementForm
  checked_local all K at var x t no_expression = bares K at var x t
  checked_local all K at var x t (some_expression e) = initialized K at var x t (checked all K e)

  -- the target of an assignment, and what comes of that which is assigned
  pub checked_assignment :
      Bool → Context → Pos → AssignmentOperator → ExpressionTree → Typings → DecisionAt StatementForm
  checked_assignment all K at o (name place x) e = assignments_to all K at x (applied_by o) e
  checked_assignment all K at o (index place a i) e =
      later_at all (element_assignments K at (checked all K a) (checked all K i) (applied_by o) e)
  checked_assignment all K at o _ e = unruled_at all

  pub checked_step : Bool → Context → Pos → StepOperator → ExpressionTree → DecisionAt StatementForm
  checked_step all K at o (name place x) = local_steps at x o
  checked_step all K at o (index place a i) = later_at all (element_steps at (checked all K a) (checked all K i) o)
  checked_step all K at o _ = unruled_at all
