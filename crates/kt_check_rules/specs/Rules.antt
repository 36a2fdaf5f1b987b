-- The rules of typing: one for each form, in the order of the Kotlin specification's chapters.
use Rattle.std.specs.Prelude.{ℕ, Bool, List, Option}
use Rattle.kt_base.specs.declared.refusals.Pos.{Pos}
use Rattle.kt_tree.specs.declared.bodies.AssignmentOperator.{AssignmentOperator}
use Rattle.kt_tree.specs.declared.bodies.StepOperator.{StepOperator}
use Rattle.kt_tree.specs.declared.bodies.PrefixOperator.{PrefixOperator}
use Rattle.kt_tree.specs.declared.bodies.PrefixOperator.TheVariants as before
use Rattle.kt_tree.specs.Types.{TypeTree}
use Rattle.kt_tree.specs.Bodies.{ExpressionTree, literal, template, name, this, parenthesized, lambda, prefix, binary, type_check, cast, not_null, member, index, call, if_else, when, try_catch, throw, return, break, continue}
use Rattle.kt_tree.specs.Bodies.{ExpressionTrees, expressions_end, expression_then, MaybeExpression, no_expression, some_expression, PartTree, text, name_part, this_part, hole, PartTrees, parts_end, part_then}
use Rattle.kt_tree.specs.Bodies.{entry, EntryTrees, entries_end, entry_then, ConditionTree, equals, of_type, ConditionTrees, conditions_end, condition_then}
use Rattle.kt_tree.specs.Bodies.{BodyTree, braces, single, MaybeBody, no_body, some_body, BlockTree, block, StatementTree, local, assign, step, while, do_while, for, evaluate, StatementTrees, statements_end, statement_then}
use Rattle.kt_typed.specs.Bodies.{PartForm}
use Rattle.kt_check_rules.specs.States.{Context, State, meaning}
use Rattle.kt_check_rules.specs.Typings.{Rule, StatementRule, BlockRule, Use, IsNone, IsThen}
use Rattle.kt_check_rules.specs.Literals.{Literals, Templates, TextParts, PrintedParts, behind_minus}
use Rattle.kt_check_rules.specs.Names.{Names}
use Rattle.kt_check_rules.specs.Operators.{Binaries, Negations, Nots}
use Rattle.kt_check_rules.specs.Access.{TypeTests, Casts, NotNulls, Elements, Members}
use Rattle.kt_check_rules.specs.Calls.{Calls, MethodCalls, ArgumentsRule, NoArguments, MoreArguments, callable, count}
use Rattle.kt_check_rules.specs.Conditionals.{LinesRule, NoLines, LineThen, LastLine, Evaluations, Blocks, ElseRule, NoElse, Else, Ifs, ConditionRule, Conditions, TypeConditions, ConditionsRule, NoConditions, ConditionThen, EntriesRule, NoEntries, EntryThen, Whens, WhensWithout}
use Rattle.kt_check_rules.specs.Loops.{Whiles, DoWhiles, Fors, Breaks, Continues, Returns, BareReturns}
use Rattle.kt_check_rules.specs.Assignments.{LocalAssignments, LocalSteps, ElementAssignments, ElementSteps, applied_by}
use Rattle.kt_check_rules.specs.Statements.{Bare, Initialized}

-- a form that has no rule yet
abbrev pub NoRule : Rule
NoRule s w us behind = ⊥

abbrev pub NoStatementRule : StatementRule
NoStatementRule s x behind = ⊥

abbrev pub Prefixes : Context → PrefixOperator → Rule → (Use → Use) → Rule
Prefixes K before.Negate e inner s w us behind = Negations e (inner w) s w us behind
Prefixes K before.Not e inner s w us behind = Nots K e s w us behind

abbrev mutual
  pub Typed : Context → ExpressionTree → Rule
  Typed K (literal at l) = Literals l
  Typed K (template at ps) = Templates (TypedParts K at ps)
  Typed K (name at x) = Names K x
  Typed K (this at) = NoRule
  Typed K (parenthesized at e) = Typed K e
  Typed K (lambda at l) = NoRule
  Typed K (prefix at o e) = Prefixes K o (Typed K e) (behind_minus e)
  Typed K (binary at o a b) = Binaries K o (Typed K a) (Typed K b)
  Typed K (type_check at e is_negated t) = TypeTests K (Typed K e) is_negated (meaning K t)
  Typed K (cast at e gives_null t) = Casts K (Typed K e) gives_null (meaning K t)
  Typed K (not_null at e) = NotNulls K (Typed K e)
  Typed K (member at e is_safe x) = Members K (Typed K e) is_safe x
  Typed K (index at a i) = Elements (Typed K a) (Typed K i)
  Typed K (call at (name place x) start ts es) = Calls (callable K x ts (count es)) (TypedAll K es) start
  Typed K (call at (member place e is_safe x) start ts es) =
      MethodCalls K (Typed K e) is_safe x ts (count es) (TypedAll K es) start
  Typed K (call at f start ts es) = NoRule
  Typed K (if_else at e x y) = Ifs K (Typed K e) (TypedBody K x) (TypedElse K y)
  Typed K (when at no_expression es) = WhensWithout K (TypedEntries K es)
  Typed K (when at (some_expression e) es) = Whens K (Typed K e) (TypedEntries K es)
  Typed K (try_catch at x cs f) = NoRule
  Typed K (throw at e) = NoRule
  Typed K (return at no_expression) = BareReturns K
  Typed K (return at (some_expression e)) = Returns K (Typed K e)
  Typed K (break at) = Breaks
  Typed K (continue at) = Continues

  -- arguments
  pub TypedAll : Context → ExpressionTrees → ArgumentsRule
  TypedAll K expressions_end = NoArguments
  TypedAll K (expression_then e es) = MoreArguments K (Typed K e) (TypedAll K es)

  -- parts of a string
  pub TypedParts : Context → Pos → PartTrees → State → List PartForm → State → Type 0
  TypedParts K at parts_end = IsNone
  TypedParts K at (part_then p ps) = IsThen (TypedPart K at p) (TypedParts K at ps)

  pub TypedPart : Context → Pos → PartTree → State → PartForm → State → Type 0
  TypedPart K at (text t) = TextParts t
  TypedPart K at (name_part x) = PrintedParts K (Names K x)
  TypedPart K at this_part = PrintedParts K NoRule
  TypedPart K at (hole e) = PrintedParts K (Typed K e)

  pub TypedEntries : Context → EntryTrees → EntriesRule
  TypedEntries K entries_end = NoEntries
  TypedEntries K (entry_then (entry cs x) es) =
      EntryThen K (TypedConditions K cs) (TypedBody K x) (TypedEntries K es)

  pub TypedConditions : Context → ConditionTrees → ConditionsRule
  TypedConditions K conditions_end = NoConditions
  TypedConditions K (condition_then c cs) = ConditionThen K (TypedCondition K c) (TypedConditions K cs)

  pub TypedCondition : Context → ConditionTree → ConditionRule
  TypedCondition K (equals e) = Conditions K (Typed K e)
  TypedCondition K (of_type is_negated t) = TypeConditions K is_negated (meaning K t)

  -- a branch, or the body of a loop: a block, or one statement as if it stood in one
  pub TypedBody : Context → BodyTree → BlockRule
  TypedBody K (braces x) = TypedBlock K x
  TypedBody K (single x) = Blocks (TypedSingle K x)

  pub TypedBlock : Context → BlockTree → BlockRule
  TypedBlock K (block ss at) = Blocks (TypedLines K ss)

  pub TypedElse : Context → MaybeBody → ElseRule
  TypedElse K no_body = NoElse
  TypedElse K (some_body x) = Else K (TypedBody K x)

  pub TypedSingle : Context → StatementTree → LinesRule
  TypedSingle K (evaluate at e) = LastLine K at (Typed K e)
  TypedSingle K (local at var x t e) = LineThen (TypedLocal K at var x t e) (NoLines K)
  TypedSingle K (assign at e o a) = LineThen (TypedAssignment K at o e (Typed K a)) (NoLines K)
  TypedSingle K (step at e o) = LineThen (TypedStep K at o e) (NoLines K)
  TypedSingle K (while at e x) = LineThen (Whiles K at (Typed K e) (TypedBody K x)) (NoLines K)
  TypedSingle K (do_while at x e) = LineThen (DoWhiles K at (TypedBlockLines K x) (Typed K e)) (NoLines K)
  TypedSingle K (for at x a o c b) = LineThen (Fors at x o (Typed K a) (Typed K c) (TypedBody K b)) (NoLines K)

  pub TypedLines : Context → StatementTrees → LinesRule
  TypedLines K statements_end = NoLines K
  TypedLines K (statement_then (evaluate at e) statements_end) = LastLine K at (Typed K e)
  TypedLines K (statement_then x ss) = LineThen (TypedStatement K x) (TypedLines K ss)

  -- the statements of a block in whose scope something follows
  pub TypedBlockLines : Context → BlockTree → LinesRule
  TypedBlockLines K (block ss at) = TypedLines K ss

  pub TypedStatement : Context → StatementTree → StatementRule
  TypedStatement K (local at var x t e) = TypedLocal K at var x t e
  TypedStatement K (assign at e o a) = TypedAssignment K at o e (Typed K a)
  TypedStatement K (step at e o) = TypedStep K at o e
  TypedStatement K (while at e x) = Whiles K at (Typed K e) (TypedBody K x)
  TypedStatement K (do_while at x e) = DoWhiles K at (TypedBlockLines K x) (Typed K e)
  TypedStatement K (for at x a o c b) = Fors at x o (Typed K a) (Typed K c) (TypedBody K b)
  TypedStatement K (evaluate at e) = Evaluations K at (Typed K e)

  pub TypedLocal : Context → Pos → Bool → List ℕ → Option TypeTree → MaybeExpression → StatementRule
  TypedLocal K at var x t no_expression = Bare K at var x t
  TypedLocal K at var x t (some_expression e) = Initialized K at var x t (Typed K e)

  -- the target of an assignment, and the rule of what is assigned
  pub TypedAssignment : Context → Pos → AssignmentOperator → ExpressionTree → Rule → StatementRule
  TypedAssignment K at o (name place x) e = LocalAssignments K at x (applied_by o) e
  TypedAssignment K at o (index place a i) e = ElementAssignments K at (Typed K a) (Typed K i) (applied_by o) e
  TypedAssignment K at o _ e = NoStatementRule

  pub TypedStep : Context → Pos → StepOperator → ExpressionTree → StatementRule
  TypedStep K at o (name place x) = LocalSteps at x o
  TypedStep K at o (index place a i) = ElementSteps at (Typed K a) (Typed K i) o
  TypedStep K at o _ = NoStatementRule
