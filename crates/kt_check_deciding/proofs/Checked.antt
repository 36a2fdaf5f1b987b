-- What comes of a tree is what the rules say of it.
use Rattle.std.proofs.Common.{ℕ, List, Option, Bool}
use Rattle.kt_base.specs.declared.refusals.Pos.{Pos}
use Rattle.kt_tree.specs.declared.bodies.AssignmentOperator.{AssignmentOperator}
use Rattle.kt_tree.specs.declared.bodies.StepOperator.{StepOperator}
use Rattle.kt_tree.specs.Types.{TypeTree}
use Rattle.kt_tree.specs.Bodies.{ExpressionTree, literal, template, name, this, parenthesized, lambda, prefix, binary, type_check, cast, not_null, member, index, call, if_else, when, try_catch, throw, return, break, continue}
use Rattle.kt_tree.specs.Bodies.{ExpressionTrees, expressions_end, expression_then, MaybeExpression, no_expression, some_expression, PartTree, text, name_part, this_part, hole, PartTrees, parts_end, part_then}
use Rattle.kt_tree.specs.Bodies.{entry, EntryTrees, entries_end, entry_then, ConditionTree, equals, of_type, ConditionTrees, conditions_end, condition_then}
use Rattle.kt_tree.specs.Bodies.{BodyTree, braces, single, MaybeBody, no_body, some_body, BlockTree, block, StatementTree, local, assign, step, while, do_while, for, evaluate, StatementTrees, statements_end, statement_then}
use Rattle.kt_types_order.specs.Graph.{ClassesEnd}
use Rattle.kt_check_rules.specs.States.{Context, hierarchy, meaning}
use Rattle.kt_check_rules.specs.Literals.{behind_minus}
use Rattle.kt_check_rules.specs.Calls.{callable, count}
use Rattle.kt_check_rules.specs.Conditionals.{NoLines}
use Rattle.kt_check_rules.specs.Assignments.{applied_by}
use Rattle.kt_check_rules.specs.Rules.{Typed, TypedAll, TypedParts, TypedPart, TypedEntries, TypedConditions, TypedCondition, TypedBlockLines, TypedBody, TypedBlock, TypedElse, TypedSingle, TypedLines, TypedStatement, TypedLocal, TypedAssignment, TypedStep}
use Rattle.kt_check_deciding.specs.Blocks.{no_lines}
use Rattle.kt_check_deciding.specs.Checked.{checked, checked_all, checked_parts, checked_part, checked_entries, checked_conditions, checked_condition, checked_block_lines, checked_body, checked_block, checked_else, checked_single, checked_lines, checked_statement, checked_local, checked_assignment, checked_step}
use Rattle.kt_check_deciding.proofs.Deciding.{Decides, DecidesAt}
use Rattle.kt_check_deciding.proofs.Expressions.{unruled_decided, unruled_statement_decided, later_decided, later_at_decided, literals_decided, names_decided, prefixes_decided, binaries_decided, DecidesEach, no_arguments_decided, more_arguments_decided, calls_decided, calls_named_decided}
use Rattle.kt_check_deciding.proofs.Blocks.{DecidesLines, DecidesElse, line_then_decided, no_lines_decided, evaluations_decided, last_line_decided, blocks_decided, no_else_decided, else_decided, ifs_decided}
use Rattle.kt_check_deciding.proofs.Statements.{breaks_decided, continues_decided, whiles_decided, returns_decided, bare_returns_decided, bares_decided, initialized_decided, assignments_decided, local_steps_decided}
use Rattle.kt_check_deciding.proofs.Access.{no_parts_decided, parts_then_decided, text_decided, printed_decided, unprinted_decided, templates_decided, tests_decided, casts_decided, not_nulls_decided, elements_decided, members_decided, method_calls_decided, element_assignments_decided, element_steps_decided}
use Rattle.kt_check_deciding.proofs.Loops.{do_whiles_decided, fors_decided}
use Rattle.kt_check_deciding.proofs.Whens.{DecidesAsk, DecidesAsks, DecidesEntries, asks_decided, type_asks_decided, no_asks_decided, ask_then_decided, no_entries_decided, entry_then_decided, whens_without_decided, whens_decided}

module _ (all : Bool) (K : Context) (ends : ClassesEnd (hierarchy K)) where
  mutual
    pub expression : (e : ExpressionTree) → Decides (Typed K e) (checked all K e)
    expression (literal at l) = literals_decided l
    expression (template at ps) =
        later_decided all _ _ (templates_decided (TypedParts K at ps) (checked_parts all K at ps) (parts at ps))
    expression (name at x) = names_decided K x
    expression (this at) = unruled_decided all
    expression (parenthesized at e) = expression e
    expression (lambda at l) = unruled_decided all
    expression (prefix at o e) =
        prefixes_decided K ends o (Typed K e) (checked all K e) (behind_minus e) (expression e)
    expression (binary at o a b) =
        binaries_decided K ends all o (Typed K a) (Typed K b) (checked all K a) (checked all K b) (expression a)
        (expression b)
    expression (type_check at e is_negated t) =
        later_decided all _ _
        (tests_decided K ends (Typed K e) (checked all K e) is_negated (meaning K t) (expression e))
    expression (cast at e gives_null t) =
        later_decided all _ _
        (casts_decided K ends (Typed K e) (checked all K e) gives_null (meaning K t) (expression e))
    expression (not_null at e) =
        later_decided all _ _ (not_nulls_decided K ends (Typed K e) (checked all K e) (expression e))
    expression (member at e is_safe x) =
        later_decided all _ _ (members_decided K (Typed K e) (checked all K e) is_safe x (expression e))
    expression (index at a i) =
        later_decided all _ _
        (elements_decided (Typed K a) (Typed K i) (checked all K a) (checked all K i) (expression a) (expression i))
    expression (call at (name place x) start ts es) =
        calls_named_decided all x _ _
        (calls_decided (callable K x ts (count es)) (TypedAll K es) (checked_all all K es) start
        (arguments es))
    expression (call at (member place e is_safe x) start ts es) =
        later_decided all _ _
        (method_calls_decided K (Typed K e) (checked all K e) is_safe x ts (count es) (TypedAll K es)
        (checked_all all K es) start (expression e) (arguments es))
    expression (call at f start ts es) = unruled_decided all
    expression (if_else at e x y) =
        ifs_decided K ends (Typed K e) (TypedBody K x) (TypedElse K y) (checked all K e) (checked_body all K x)
        (checked_else all K y) (expression e) (branch x) (otherwise y)
    expression (when at no_expression es) =
        later_decided all _ _
        (whens_without_decided K ends (TypedEntries K es) (checked_entries all K es) (entries es))
    expression (when at (some_expression e) es) =
        later_decided all _ _
        (whens_decided K ends (Typed K e) (TypedEntries K es) (checked all K e) (checked_entries all K es)
        (expression e) (entries es))
    expression (try_catch at x cs f) = unruled_decided all
    expression (throw at e) = unruled_decided all
    expression (return at no_expression) = bare_returns_decided K ends
    expression (return at (some_expression e)) =
        returns_decided K ends (Typed K e) (checked all K e) (expression e)
    expression (break at) = breaks_decided
    expression (continue at) = continues_decided

    arguments : (es : ExpressionTrees) → DecidesEach (TypedAll K es) (checked_all all K es)
    arguments expressions_end = no_arguments_decided
    arguments (expression_then e es) =
        more_arguments_decided K ends (Typed K e) (TypedAll K es) (checked all K e) (checked_all all K es)
        (expression e) (arguments es)

    parts : (at : Pos) (ps : PartTrees) → DecidesAt (TypedParts K at ps) (checked_parts all K at ps)
    parts at parts_end = no_parts_decided
    parts at (part_then p ps) =
        parts_then_decided (TypedPart K at p) (TypedParts K at ps) (checked_part all K at p)
        (checked_parts all K at ps) (part at p) (parts at ps)

    part : (at : Pos) (p : PartTree) → DecidesAt (TypedPart K at p) (checked_part all K at p)
    part at (text t) = text_decided t
    part at (name_part x) = printed_decided K ends _ _ (names_decided K x)
    part at this_part = unprinted_decided K ends all
    part at (hole e) = printed_decided K ends (Typed K e) (checked all K e) (expression e)

    entries : (es : EntryTrees) → DecidesEntries (TypedEntries K es) (checked_entries all K es)
    entries entries_end = no_entries_decided
    entries (entry_then (entry cs x) es) =
        entry_then_decided K (TypedConditions K cs) (TypedBody K x) (TypedEntries K es)
        (checked_conditions all K cs) (checked_body all K x) (checked_entries all K es) (conditions cs) (branch x)
        (entries es)

    conditions : (cs : ConditionTrees) → DecidesAsks (TypedConditions K cs) (checked_conditions all K cs)
    conditions conditions_end = no_asks_decided
    conditions (condition_then c cs) =
        ask_then_decided K (TypedCondition K c) (TypedConditions K cs) (checked_condition all K c)
        (checked_conditions all K cs) (condition c) (conditions cs)

    condition : (c : ConditionTree) → DecidesAsk (TypedCondition K c) (checked_condition all K c)
    condition (equals e) = asks_decided K ends (Typed K e) (checked all K e) (expression e)
    condition (of_type is_negated t) = type_asks_decided K ends is_negated (meaning K t)

    branch : (x : BodyTree) → Decides (TypedBody K x) (checked_body all K x)
    branch (braces x) = in_block x
    branch (single x) = blocks_decided (TypedSingle K x) (checked_single all K x) (alone x)

    in_block : (x : BlockTree) → Decides (TypedBlock K x) (checked_block all K x)
    in_block (block ss at) = blocks_decided (TypedLines K ss) (checked_lines all K ss) (lines ss)

    otherwise : (y : MaybeBody) → DecidesElse (TypedElse K y) (checked_else all K y)
    otherwise no_body = no_else_decided
    otherwise (some_body x) = else_decided K (TypedBody K x) (checked_body all K x) (branch x)

    alone : (x : StatementTree) → DecidesLines (TypedSingle K x) (checked_single all K x)
    alone (evaluate at e) = last_line_decided K ends at (Typed K e) (checked all K e) (expression e)
    alone (local at var x t e) =
        line_then_decided (TypedLocal K at var x t e) (NoLines K) (checked_local all K at var x t e) (no_lines K)
        (declaration at var x t e) (no_lines_decided K ends)
    alone (assign at e o a) =
        line_then_decided (TypedAssignment K at o e (Typed K a)) (NoLines K)
        (checked_assignment all K at o e (checked all K a)) (no_lines K) (assignment at o e a (expression a))
        (no_lines_decided K ends)
    alone (step at e o) =
        line_then_decided (TypedStep K at o e) (NoLines K) (checked_step all K at o e) (no_lines K)
        (stepping at o e) (no_lines_decided K ends)
    alone (while at e x) =
        line_then_decided _ (NoLines K) _ (no_lines K)
        (whiles_decided K ends at (Typed K e) (TypedBody K x) (checked all K e) (checked_body all K x)
        (expression e) (branch x))
        (no_lines_decided K ends)
    alone (do_while at x e) =
        line_then_decided _ (NoLines K) _ (no_lines K)
        (later_at_decided all _ _
        (do_whiles_decided K ends at (TypedBlockLines K x) (Typed K e) (checked_block_lines all K x)
        (checked all K e) (block_lines x) (expression e)))
        (no_lines_decided K ends)
    alone (for at x a o c b) =
        line_then_decided _ (NoLines K) _ (no_lines K)
        (later_at_decided all _ _
        (fors_decided at x o (Typed K a) (Typed K c) (TypedBody K b) (checked all K a) (checked all K c)
        (checked_body all K b) (expression a) (expression c) (branch b)))
        (no_lines_decided K ends)

    lines : (ss : StatementTrees) → DecidesLines (TypedLines K ss) (checked_lines all K ss)
    lines statements_end = no_lines_decided K ends
    lines (statement_then (evaluate at e) statements_end) =
        last_line_decided K ends at (Typed K e) (checked all K e) (expression e)
    lines (statement_then x ss) =
        line_then_decided (TypedStatement K x) (TypedLines K ss) (checked_statement all K x)
        (checked_lines all K ss) (statement x) (lines ss)

    block_lines : (x : BlockTree) → DecidesLines (TypedBlockLines K x) (checked_block_lines all K x)
    block_lines (block ss at) = lines ss

    pub statement : (x : StatementTree) → DecidesAt (TypedStatement K x) (checked_statement all K x)
    statement (local at var x t e) = declaration at var x t e
    statement (assign at e o a) = assignment at o e a (expression a)
    statement (step at e o) = stepping at o e
    statement (while at e x) =
        whiles_decided K ends at (Typed K e) (TypedBody K x) (checked all K e) (checked_body all K x)
        (expression e) (branch x)
    statement (do_while at x e) =
        later_at_decided all _ _
        (do_whiles_decided K ends at (TypedBlockLines K x) (Typed K e) (checked_block_lines all K x)
        (checked all K e) (block_lines x) (expression e))
    statement (for at x a o c b) =
        later_at_decided all _ _
        (fors_decided at x o (Typed K a) (Typed K c) (TypedBody K b) (checked all K a) (checked all K c)
        (checked_body all K b) (expression a) (expression c) (branch b))
    statement (evaluate at e) = evaluations_decided K ends at (Typed K e) (checked all K e) (expression e)

    declaration : (at : Pos) (var : Bool) (x : List ℕ) (t : Option TypeTree) (e : MaybeExpression) →
        DecidesAt (TypedLocal K at var x t e) (checked_local all K at var x t e)
    declaration at var x t no_expression = bares_decided K ends at var x t
    declaration at var x t (some_expression e) =
        initialized_decided K ends at var x t (Typed K e) (checked all K e) (expression e)

    assignment : (at : Pos) (o : AssignmentOperator) (target a : ExpressionTree) →
        Decides (Typed K a) (checked all K a) →
        DecidesAt (TypedAssignment K at o target (Typed K a)) (checked_assignment all K at o target (checked all K a))
    assignment at o (name place x) a i =
        assignments_decided all K ends at x (applied_by o) (Typed K a) (checked all K a) i
    assignment at o (index place b j) a i =
        later_at_decided all _ _
        (element_assignments_decided K ends at (Typed K b) (Typed K j) (Typed K a) (checked all K b)
        (checked all K j) (checked all K a) (applied_by o) (expression b) (expression j) i)
    assignment at o _ a i = unruled_statement_decided all

    stepping : (at : Pos) (o : StepOperator) (target : ExpressionTree) →
        DecidesAt (TypedStep K at o target) (checked_step all K at o target)
    stepping at o (name place x) = local_steps_decided at x o
    stepping at o (index place b j) =
        later_at_decided all _ _
        (element_steps_decided at (Typed K b) (Typed K j) (checked all K b) (checked all K j) o (expression b)
        (expression j))
    stepping at o _ = unruled_statement_decided all
