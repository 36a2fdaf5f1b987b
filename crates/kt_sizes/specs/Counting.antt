-- What a body counts for: the sum of what its nodes count for. An operand is counted with the operands that wait while
-- it is evaluated.
use Rattle.std.specs.Prelude.{ℕ, zero, suc, ◌+◌, max, Bool, true, false, length, Option, Some, None}
use Rattle.kt_typed.specs.declared.operators.TypedOperator.{TypedOperator}
use Rattle.kt_typed.specs.declared.operators.TypedOperator.TheVariants as operator
use Rattle.kt_typed.specs.Bodies.{ExpressionForm, literal, template, local, captured, this, constant, enum_entry, property, prefix, binary, type_test, cast, not_null, index, call, if_else, when, try_catch, throw, return, break, continue, lambda}
use Rattle.kt_typed.specs.Bodies.{ExpressionForms, expressions_end, expression_then, MaybeExpression, no_expression, some_expression, PartForm, text, printed, PartForms, parts_end, part_then}
use Rattle.kt_typed.specs.Bodies.{ReceiverForm, implicit, plain, safe, CallForm, call_of, CalleeForm, function, constructor_of, method, value, built_in, built_in_method}
use Rattle.kt_typed.specs.Bodies.{EntryForm, entry, EntryForms, entries_end, entry_then, ConditionForm, equals, holds, of_type, ConditionForms, conditions_end, condition_then}
use Rattle.kt_typed.specs.Bodies.{CatchForm, catch, CatchForms, catches_end, catch_then, BlockForm, block, MaybeBlock, no_block, some_block, StatementForm, declare, assign, step, while, do_while, for, evaluate, superclass, initialize, result, end}
use Rattle.kt_typed.specs.Bodies.{StatementForms, statements_end, statement_then, TargetForm, local_target, captured_target, property_target, element_target, FunForm, fun}
use Rattle.kt_sizes.specs.declared.sizes.Sizes.{Sizes}

abbrev pub nothing : Sizes
nothing = record { nodes = 0; heavy = 0; captured = 0; points = 0; kept = 0; depth = 0 }

-- two parts of a body
unfoldable pub both : Sizes → Sizes → Sizes
both a b =
    record {
      nodes = a.nodes + b.nodes;
      heavy = a.heavy + b.heavy;
      captured = a.captured + b.captured;
      points = a.points + b.points;
      kept = a.kept + b.kept;
      depth = max a.depth b.depth;
    }

infixl 20 ◌&◌
abbrev pub ◌&◌ : Sizes → Sizes → Sizes
◌&◌ = both

-- What one node counts for.

abbrev pub node : Sizes
node = record nothing { nodes = 1 }

-- a `while`, a `do`, a `catch`
abbrev pub heavy_node : Sizes
heavy_node = record nothing { nodes = 1; heavy = 1 }

-- a `for`, which keeps its bound
abbrev pub for_node : Sizes
for_node = record nothing { nodes = 1; heavy = 1; kept = 1 }

-- a `when`, which keeps its subject
abbrev pub when_node : Sizes
when_node = record nothing { nodes = 1; kept = 1 }

-- a `try`, which keeps what its `finally` goes on with
abbrev pub try_node : Sizes
try_node = record nothing { nodes = 1; heavy = 1; kept = 4 }

-- a lambda literal with so many captures
abbrev pub lambda_node : ℕ → Sizes
lambda_node n = record nothing { nodes = 1; captured = n }

-- a suspension point, at which nothing waits but what waits round it
abbrev pub point_if : Bool → Sizes
point_if true = record nothing { points = 1; depth = 1 }
point_if false = nothing

-- Operands that wait.

abbrev pub deeper : ℕ → ℕ → ℕ
deeper waiting zero = zero
deeper waiting (suc n) = suc n + waiting

-- a part that is evaluated while so many operands wait
unfoldable pub behind : ℕ → Sizes → Sizes
behind waiting s = record s { depth = deeper waiting s.depth }

-- `||`, `&&` and `?:` are done with the left side before the right one is evaluated
abbrev pub left_waits : TypedOperator → ℕ
left_waits operator.Disjunction = 0
left_waits operator.Conjunction = 0
left_waits operator.Elvis = 0
left_waits _ = 1

-- the old value waits, where there is an operation
abbrev pub old_waits : Option TypedOperator → ℕ
old_waits None = 0
old_waits (Some o) = 1

-- a receiver that is evaluated waits
abbrev pub receiver_waits : ReceiverForm → ℕ
receiver_waits implicit = 0
receiver_waits (plain e) = 1
receiver_waits (safe e) = 1

abbrev pub callee_waits : CalleeForm → ℕ
callee_waits (function f) = 0
callee_waits (constructor_of c) = 0
callee_waits (method r c f) = receiver_waits r
callee_waits (value e named) = 1
callee_waits (built_in b) = 0
callee_waits (built_in_method r b) = receiver_waits r

-- what is assigned to waits: an object, or an array and an index
abbrev pub target_waits : TargetForm → ℕ
target_waits (local_target n) = 0
target_waits (captured_target n) = 0
target_waits (property_target r p) = receiver_waits r
target_waits (element_target a i) = 2

-- a call counts once, with its name: where it names a value, that name is its node
abbrev pub call_node : CalleeForm → Sizes
call_node (function f) = node
call_node (constructor_of c) = node
call_node (method r c f) = node
call_node (value e true) = nothing
call_node (value e false) = node
call_node (built_in b) = node
call_node (built_in_method r b) = node

-- one part of a string is the string itself; of several, each is a node
abbrev pub part_node : Bool → Sizes
part_node true = node
part_node false = nothing

abbrev pub has_several : PartForms → Bool
has_several parts_end = false
has_several (part_then p parts_end) = false
has_several (part_then p (part_then q ps)) = true

abbrev mutual
  pub sizes : ExpressionForm → Sizes
  sizes (literal t l) = node
  sizes (template t ps) = node & sizes_of_parts (has_several ps) 0 ps
  sizes (local t n) = node
  sizes (captured t n) = node
  sizes (this t) = node
  sizes (constant t n) = node
  -- a name and a member access
  sizes (enum_entry t c n) = node & node
  sizes (property t r p) = node & sizes_of_receiver r
  sizes (prefix t o e) = node & sizes e
  sizes (binary t o a b) = node & sizes a & behind (left_waits o) (sizes b)
  sizes (type_test t e not u) = node & sizes e
  sizes (cast t e or_null u) = node & sizes e
  sizes (not_null t e) = node & sizes e
  sizes (index t a i) = node & sizes a & behind 1 (sizes i)
  sizes (call t c) = sizes_of_call c
  sizes (if_else t e b c) = node & sizes e & sizes_of_block b & sizes_of_maybe_block c
  sizes (when t e es) = when_node & sizes_of_maybe e & sizes_of_entries es
  sizes (try_catch t b cs f) = try_node & sizes_of_block b & sizes_of_catches cs & sizes_of_maybe_block f
  sizes (throw t e) = node & sizes e
  sizes (return t e) = node & sizes_of_maybe e
  sizes (break t) = node
  sizes (continue t) = node
  sizes (lambda t n f) = sizes_of_lambda f

  -- what stands in a lambda counts there
  pub sizes_of_lambda : FunForm → Sizes
  sizes_of_lambda (fun at suspends captures parameters locals t ss) = lambda_node (length captures)

  pub sizes_of_maybe : MaybeExpression → Sizes
  sizes_of_maybe no_expression = nothing
  sizes_of_maybe (some_expression e) = sizes e

  -- arguments, the first of which is evaluated while so many operands wait
  pub sizes_of_all : ℕ → ExpressionForms → Sizes
  sizes_of_all waiting expressions_end = nothing
  sizes_of_all waiting (expression_then e es) = behind waiting (sizes e) & sizes_of_all (waiting + 1) es

  -- behind the first part the text so far waits
  pub sizes_of_parts : Bool → ℕ → PartForms → Sizes
  sizes_of_parts several waiting parts_end = nothing
  sizes_of_parts several waiting (part_then p ps) =
      part_node several & behind waiting (sizes_of_part p) & sizes_of_parts several 1 ps

  pub sizes_of_part : PartForm → Sizes
  sizes_of_part (text t) = nothing
  sizes_of_part (printed e) = sizes e

  pub sizes_of_receiver : ReceiverForm → Sizes
  sizes_of_receiver implicit = nothing
  sizes_of_receiver (plain e) = sizes e
  sizes_of_receiver (safe e) = sizes e

  -- what is called, the arguments, and the call itself
  pub sizes_of_call : CallForm → Sizes
  sizes_of_call (call_of c ts es suspends at) =
      call_node c & sizes_of_callee c & sizes_of_all (callee_waits c) es & point_if suspends

  pub sizes_of_callee : CalleeForm → Sizes
  sizes_of_callee (function f) = nothing
  sizes_of_callee (constructor_of c) = nothing
  sizes_of_callee (method r c f) = sizes_of_receiver r
  sizes_of_callee (value e named) = sizes e
  sizes_of_callee (built_in b) = nothing
  sizes_of_callee (built_in_method r b) = sizes_of_receiver r

  pub sizes_of_entries : EntryForms → Sizes
  sizes_of_entries entries_end = nothing
  sizes_of_entries (entry_then e es) = sizes_of_entry e & sizes_of_entries es

  pub sizes_of_entry : EntryForm → Sizes
  sizes_of_entry (entry cs b) = node & sizes_of_conditions cs & sizes_of_block b

  pub sizes_of_conditions : ConditionForms → Sizes
  sizes_of_conditions conditions_end = nothing
  sizes_of_conditions (condition_then c cs) = sizes_of_condition c & sizes_of_conditions cs

  pub sizes_of_condition : ConditionForm → Sizes
  sizes_of_condition (equals e) = node & sizes e
  sizes_of_condition (holds e) = node & sizes e
  sizes_of_condition (of_type not t) = node

  pub sizes_of_catches : CatchForms → Sizes
  sizes_of_catches catches_end = nothing
  sizes_of_catches (catch_then c cs) = sizes_of_catch c & sizes_of_catches cs

  pub sizes_of_catch : CatchForm → Sizes
  sizes_of_catch (catch n c b) = heavy_node & sizes_of_block b

  pub sizes_of_block : BlockForm → Sizes
  sizes_of_block (block ss e) = sizes_of_statements ss & sizes_of_maybe e

  pub sizes_of_maybe_block : MaybeBlock → Sizes
  sizes_of_maybe_block no_block = nothing
  sizes_of_maybe_block (some_block b) = sizes_of_block b

  pub sizes_of_statements : StatementForms → Sizes
  sizes_of_statements statements_end = nothing
  sizes_of_statements (statement_then s ss) = sizes_of_statement s & sizes_of_statements ss

  pub sizes_of_statement : StatementForm → Sizes
  sizes_of_statement (declare at n e) = node & sizes_of_maybe e
  sizes_of_statement (assign at x o e) =
      node & sizes_of_target x & behind (target_waits x + old_waits o) (sizes e)
  sizes_of_statement (step at x o w) = node & sizes_of_target x
  sizes_of_statement (while at e b) = heavy_node & sizes e & sizes_of_block b
  sizes_of_statement (do_while at b e) = heavy_node & sizes_of_block b & sizes e
  sizes_of_statement (for at n a o c b) = for_node & sizes a & behind 1 (sizes c) & sizes_of_block b
  sizes_of_statement (evaluate at e) = sizes e
  sizes_of_statement (superclass at es) = sizes_of_all 0 es
  sizes_of_statement (initialize at n e) = sizes e
  sizes_of_statement (result at e) = sizes e
  sizes_of_statement (end at) = nothing

  pub sizes_of_target : TargetForm → Sizes
  sizes_of_target (local_target n) = node
  sizes_of_target (captured_target n) = node
  sizes_of_target (property_target r p) = node & sizes_of_receiver r
  sizes_of_target (element_target a i) = node & sizes a & behind 1 (sizes i)
