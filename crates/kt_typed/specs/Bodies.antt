-- Typed expressions, statements and bodies as definitions match on them.
use Rattle.std.specs.Prelude.{ℕ, Bool, List, [], ◌∷◌, Option, Some, None, map}
use Rattle.kt_base.specs.declared.refusals.Pos.{Pos}
use Rattle.kt_tree.specs.declared.bodies.PrefixOperator.{PrefixOperator}
use Rattle.kt_tree.specs.declared.bodies.RangeOperator.{RangeOperator}
use Rattle.kt_tree.specs.declared.bodies.StepOperator.{StepOperator}
use Rattle.kt_tree.specs.declared.bodies.TextPart.{TextPart}
use Rattle.kt_types_tree.specs.Types.{TypeForm, type_form}
use Rattle.kt_typed.specs.Operators.{LocalForm, local_form, CaptureForm, capture_form}
use Rattle.kt_typed.specs.declared.operators.BuiltIn.{BuiltIn}
use Rattle.kt_typed.specs.declared.operators.BuiltInMethod.{BuiltInMethod}
use Rattle.kt_typed.specs.declared.operators.TypedLiteral.{TypedLiteral}
use Rattle.kt_typed.specs.declared.operators.TypedOperator.{TypedOperator}
use Rattle.kt_typed.specs.declared.operators.TypedProperty.{TypedProperty}
use Rattle.kt_typed.specs.declared.operators.Width.{Width}
use Rattle.kt_typed.specs.declared.bodies.Callee.{Callee}
use Rattle.kt_typed.specs.declared.bodies.Receiver.{Receiver}
use Rattle.kt_typed.specs.declared.bodies.Target.{Target}
use Rattle.kt_typed.specs.declared.bodies.TypedCondition.{TypedCondition}
use Rattle.kt_typed.specs.declared.bodies.TypedKind.{TypedKind}
use Rattle.kt_typed.specs.declared.bodies.TypedPart.{TypedPart}
use Rattle.kt_typed.specs.declared.bodies.TypedStatementKind.{TypedStatementKind}
use Rattle.kt_typed.specs.declared.bodies.TypedBlock.{TypedBlock}
use Rattle.kt_typed.specs.declared.bodies.TypedCall.{TypedCall}
use Rattle.kt_typed.specs.declared.bodies.TypedCatch.{TypedCatch}
use Rattle.kt_typed.specs.declared.bodies.TypedEntry.{TypedEntry}
use Rattle.kt_typed.specs.declared.bodies.TypedExpression.{TypedExpression}
use Rattle.kt_typed.specs.declared.bodies.TypedFun.{TypedFun}
use Rattle.kt_typed.specs.declared.bodies.TypedStatement.{TypedStatement}
use Rattle.kt_typed.specs.declared.bodies.Callee.TheOpen.{Callee-F, Receiver-F, Target-F, TypedCondition-F, TypedKind-F, TypedPart-F, TypedStatementKind-F, TypedBlock-F, TypedCall-F, TypedCatch-F, TypedEntry-F, TypedExpression-F, TypedFun-F, TypedStatement-F}
use Rattle.kt_typed.specs.declared.bodies.Callee.TheFolds.{fold-Callee, fold-Receiver, fold-Target, fold-TypedCondition, fold-TypedPart, fold-TypedBlock, fold-TypedCall, fold-TypedCatch, fold-TypedEntry, fold-TypedExpression, fold-TypedFun, fold-TypedStatement}

mutual
  -- the type stands first
  pub data ExpressionForm : Type 0 where
    literal : TypeForm → TypedLiteral → ExpressionForm
    template : TypeForm → PartForms → ExpressionForm
    local : TypeForm → ℕ → ExpressionForm
    captured : TypeForm → ℕ → ExpressionForm
    this : TypeForm → ExpressionForm
    constant : TypeForm → ℕ → ExpressionForm
    enum_entry : TypeForm → ℕ → ℕ → ExpressionForm
    property : TypeForm → ReceiverForm → TypedProperty → ExpressionForm
    prefix : TypeForm → PrefixOperator → ExpressionForm → ExpressionForm
    binary : TypeForm → TypedOperator → ExpressionForm → ExpressionForm → ExpressionForm
    type_test : TypeForm → ExpressionForm → Bool → TypeForm → ExpressionForm
    cast : TypeForm → ExpressionForm → Bool → TypeForm → ExpressionForm
    not_null : TypeForm → ExpressionForm → ExpressionForm
    index : TypeForm → ExpressionForm → ExpressionForm → ExpressionForm
    call : TypeForm → CallForm → ExpressionForm
    if_else : TypeForm → ExpressionForm → BlockForm → MaybeBlock → ExpressionForm
    when : TypeForm → MaybeExpression → EntryForms → ExpressionForm
    try_catch : TypeForm → BlockForm → CatchForms → MaybeBlock → ExpressionForm
    throw : TypeForm → ExpressionForm → ExpressionForm
    return : TypeForm → MaybeExpression → ExpressionForm
    break : TypeForm → ExpressionForm
    continue : TypeForm → ExpressionForm
    lambda : TypeForm → ℕ → FunForm → ExpressionForm

  pub data ExpressionForms : Type 0 where
    expressions_end : ExpressionForms
    expression_then : ExpressionForm → ExpressionForms → ExpressionForms

  pub data MaybeExpression : Type 0 where
    no_expression : MaybeExpression
    some_expression : ExpressionForm → MaybeExpression

  pub data PartForm : Type 0 where
    text : TextPart → PartForm
    printed : ExpressionForm → PartForm

  pub data PartForms : Type 0 where
    parts_end : PartForms
    part_then : PartForm → PartForms → PartForms

  pub data ReceiverForm : Type 0 where
    implicit : ReceiverForm
    plain : ExpressionForm → ReceiverForm
    safe : ExpressionForm → ReceiverForm

  -- what is called, type arguments, arguments, whether it is a suspension point, and the place of the call suffix
  pub data CallForm : Type 0 where
    call_of : CalleeForm → List TypeForm → ExpressionForms → Bool → Pos → CallForm

  pub data CalleeForm : Type 0 where
    function : ℕ → CalleeForm
    constructor_of : ℕ → CalleeForm
    method : ReceiverForm → ℕ → ℕ → CalleeForm
    value : ExpressionForm → Bool → CalleeForm
    built_in : BuiltIn → CalleeForm
    built_in_method : ReceiverForm → BuiltInMethod → CalleeForm

  pub data EntryForm : Type 0 where
    entry : ConditionForms → BlockForm → EntryForm

  pub data EntryForms : Type 0 where
    entries_end : EntryForms
    entry_then : EntryForm → EntryForms → EntryForms

  pub data ConditionForm : Type 0 where
    equals : ExpressionForm → ConditionForm
    holds : ExpressionForm → ConditionForm
    of_type : Bool → TypeForm → ConditionForm

  pub data ConditionForms : Type 0 where
    conditions_end : ConditionForms
    condition_then : ConditionForm → ConditionForms → ConditionForms

  pub data CatchForm : Type 0 where
    catch : ℕ → ℕ → BlockForm → CatchForm

  pub data CatchForms : Type 0 where
    catches_end : CatchForms
    catch_then : CatchForm → CatchForms → CatchForms

  -- the statements, and the expression whose value the block has
  pub data BlockForm : Type 0 where
    block : StatementForms → MaybeExpression → BlockForm

  pub data MaybeBlock : Type 0 where
    no_block : MaybeBlock
    some_block : BlockForm → MaybeBlock

  -- the place of the first token stands first
  pub data StatementForm : Type 0 where
    declare : Pos → ℕ → MaybeExpression → StatementForm
    assign : Pos → TargetForm → Option TypedOperator → ExpressionForm → StatementForm
    step : Pos → TargetForm → StepOperator → Width → StatementForm
    while : Pos → ExpressionForm → BlockForm → StatementForm
    do_while : Pos → BlockForm → ExpressionForm → StatementForm
    for : Pos → ℕ → ExpressionForm → RangeOperator → ExpressionForm → BlockForm → StatementForm
    evaluate : Pos → ExpressionForm → StatementForm
    superclass : Pos → ExpressionForms → StatementForm
    initialize : Pos → ℕ → ExpressionForm → StatementForm
    result : Pos → ExpressionForm → StatementForm
    end : Pos → StatementForm

  pub data StatementForms : Type 0 where
    statements_end : StatementForms
    statement_then : StatementForm → StatementForms → StatementForms

  pub data TargetForm : Type 0 where
    local_target : ℕ → TargetForm
    captured_target : ℕ → TargetForm
    property_target : ReceiverForm → TypedProperty → TargetForm
    element_target : ExpressionForm → ExpressionForm → TargetForm

  -- place, whether it suspends, captures, how many parameters, locals, result, statements
  pub data FunForm : Type 0 where
    fun : Pos → Bool → List CaptureForm → ℕ → List LocalForm → TypeForm → StatementForms → FunForm

abbrev pub expressions_of : List ExpressionForm → ExpressionForms
expressions_of [] = expressions_end
expressions_of (x ∷ xs) = expression_then x (expressions_of xs)

abbrev pub parts_of : List PartForm → PartForms
parts_of [] = parts_end
parts_of (x ∷ xs) = part_then x (parts_of xs)

abbrev pub entries_of : List EntryForm → EntryForms
entries_of [] = entries_end
entries_of (x ∷ xs) = entry_then x (entries_of xs)

abbrev pub conditions_of : List ConditionForm → ConditionForms
conditions_of [] = conditions_end
conditions_of (x ∷ xs) = condition_then x (conditions_of xs)

abbrev pub catches_of : List CatchForm → CatchForms
catches_of [] = catches_end
catches_of (x ∷ xs) = catch_then x (catches_of xs)

abbrev pub statements_of : List StatementForm → StatementForms
statements_of [] = statements_end
statements_of (x ∷ xs) = statement_then x (statements_of xs)

abbrev pub maybe_expression : Option ExpressionForm → MaybeExpression
maybe_expression None = no_expression
maybe_expression (Some x) = some_expression x

abbrev pub maybe_block : Option BlockForm → MaybeBlock
maybe_block None = no_block
maybe_block (Some x) = some_block x

-- a kind waits for its type
abbrev pub OfKind : Type 0
OfKind = TypeForm → ExpressionForm

-- a kind of statement waits for its place
abbrev pub OfStatementKind : Type 0
OfStatementKind = Pos → StatementForm

-- One node, with each child already seen as its form.

abbrev pub callee_seen :
    Callee-F CalleeForm ReceiverForm TargetForm ConditionForm OfKind PartForm OfStatementKind BlockForm CallForm
    CatchForm EntryForm ExpressionForm FunForm StatementForm → CalleeForm
callee_seen (Callee-F.Function f) = function f
callee_seen (Callee-F.Constructor c) = constructor_of c
callee_seen (Callee-F.Method r c f) = method r c f
callee_seen (Callee-F.Value e named) = value e named
callee_seen (Callee-F.BuiltIn b) = built_in b
callee_seen (Callee-F.BuiltInMethod r b) = built_in_method r b

abbrev pub receiver_seen :
    Receiver-F CalleeForm ReceiverForm TargetForm ConditionForm OfKind PartForm OfStatementKind BlockForm CallForm
    CatchForm EntryForm ExpressionForm FunForm StatementForm → ReceiverForm
receiver_seen Receiver-F.Implicit = implicit
receiver_seen (Receiver-F.Plain e) = plain e
receiver_seen (Receiver-F.Safe e) = safe e

abbrev pub target_seen :
    Target-F CalleeForm ReceiverForm TargetForm ConditionForm OfKind PartForm OfStatementKind BlockForm CallForm
    CatchForm EntryForm ExpressionForm FunForm StatementForm → TargetForm
target_seen (Target-F.ToLocal n) = local_target n
target_seen (Target-F.ToCaptured n) = captured_target n
target_seen (Target-F.ToProperty r p) = property_target r p
target_seen (Target-F.ToElement a i) = element_target a i

abbrev pub condition_seen :
    TypedCondition-F CalleeForm ReceiverForm TargetForm ConditionForm OfKind PartForm OfStatementKind BlockForm
    CallForm CatchForm EntryForm ExpressionForm FunForm StatementForm → ConditionForm
condition_seen (TypedCondition-F.Equals e) = equals e
condition_seen (TypedCondition-F.Holds e) = holds e
condition_seen (TypedCondition-F.OfType not t) = of_type not (type_form t)

abbrev pub kind_seen :
    TypedKind-F CalleeForm ReceiverForm TargetForm ConditionForm OfKind PartForm OfStatementKind BlockForm CallForm
    CatchForm EntryForm ExpressionForm FunForm StatementForm → OfKind
kind_seen (TypedKind-F.Literal l) t = literal t l
kind_seen (TypedKind-F.Template ps) t = template t (parts_of ps)
kind_seen (TypedKind-F.Local n) t = local t n
kind_seen (TypedKind-F.Captured n) t = captured t n
kind_seen TypedKind-F.This t = this t
kind_seen (TypedKind-F.Constant n) t = constant t n
kind_seen (TypedKind-F.EnumEntry c n) t = enum_entry t c n
kind_seen (TypedKind-F.Property r p) t = property t r p
kind_seen (TypedKind-F.Prefix o e) t = prefix t o e
kind_seen (TypedKind-F.Binary o a b) t = binary t o a b
kind_seen (TypedKind-F.TypeTest e not u) t = type_test t e not (type_form u)
kind_seen (TypedKind-F.Cast e or_null u) t = cast t e or_null (type_form u)
kind_seen (TypedKind-F.NotNull e) t = not_null t e
kind_seen (TypedKind-F.Index a i) t = index t a i
kind_seen (TypedKind-F.Call c) t = call t c
kind_seen (TypedKind-F.If e b c) t = if_else t e b (maybe_block c)
kind_seen (TypedKind-F.When e es) t = when t (maybe_expression e) (entries_of es)
kind_seen (TypedKind-F.Try b cs f) t = try_catch t b (catches_of cs) (maybe_block f)
kind_seen (TypedKind-F.Throw e) t = throw t e
kind_seen (TypedKind-F.Return e) t = return t (maybe_expression e)
kind_seen TypedKind-F.Break t = break t
kind_seen TypedKind-F.Continue t = continue t
kind_seen (TypedKind-F.Lambda n f) t = lambda t n f

abbrev pub part_seen :
    TypedPart-F CalleeForm ReceiverForm TargetForm ConditionForm OfKind PartForm OfStatementKind BlockForm CallForm
    CatchForm EntryForm ExpressionForm FunForm StatementForm → PartForm
part_seen (TypedPart-F.Text t) = text t
part_seen (TypedPart-F.Printed e) = printed e

abbrev pub statement_kind_seen :
    TypedStatementKind-F CalleeForm ReceiverForm TargetForm ConditionForm OfKind PartForm OfStatementKind BlockForm
    CallForm CatchForm EntryForm ExpressionForm FunForm StatementForm → OfStatementKind
statement_kind_seen (TypedStatementKind-F.Declare n e) at = declare at n (maybe_expression e)
statement_kind_seen (TypedStatementKind-F.Assign x o e) at = assign at x o e
statement_kind_seen (TypedStatementKind-F.Step x o w) at = step at x o w
statement_kind_seen (TypedStatementKind-F.While e b) at = while at e b
statement_kind_seen (TypedStatementKind-F.DoWhile b e) at = do_while at b e
statement_kind_seen (TypedStatementKind-F.For n a o c b) at = for at n a o c b
statement_kind_seen (TypedStatementKind-F.Evaluate e) at = evaluate at e
statement_kind_seen (TypedStatementKind-F.Superclass es) at = superclass at (expressions_of es)
statement_kind_seen (TypedStatementKind-F.Initialize n e) at = initialize at n e
statement_kind_seen (TypedStatementKind-F.Result e) at = result at e
statement_kind_seen TypedStatementKind-F.End at = end at

abbrev pub block_seen :
    TypedBlock-F CalleeForm ReceiverForm TargetForm ConditionForm OfKind PartForm OfStatementKind BlockForm CallForm
    CatchForm EntryForm ExpressionForm FunForm StatementForm → BlockForm
block_seen b = block (statements_of b.statements) (maybe_expression b.value)

abbrev pub call_seen :
    TypedCall-F CalleeForm ReceiverForm TargetForm ConditionForm OfKind PartForm OfStatementKind BlockForm CallForm
    CatchForm EntryForm ExpressionForm FunForm StatementForm → CallForm
call_seen c = call_of c.callee (map type_form c.type_arguments) (expressions_of c.arguments) c.suspends c.suffix

abbrev pub catch_seen :
    TypedCatch-F CalleeForm ReceiverForm TargetForm ConditionForm OfKind PartForm OfStatementKind BlockForm CallForm
    CatchForm EntryForm ExpressionForm FunForm StatementForm → CatchForm
catch_seen c = catch c.local c.class c.body

abbrev pub entry_seen :
    TypedEntry-F CalleeForm ReceiverForm TargetForm ConditionForm OfKind PartForm OfStatementKind BlockForm CallForm
    CatchForm EntryForm ExpressionForm FunForm StatementForm → EntryForm
entry_seen e = entry (conditions_of e.conditions) e.body

abbrev pub expression_seen :
    TypedExpression-F CalleeForm ReceiverForm TargetForm ConditionForm OfKind PartForm OfStatementKind BlockForm
    CallForm CatchForm EntryForm ExpressionForm FunForm StatementForm → ExpressionForm
expression_seen e = e.kind (type_form e.of_type)

abbrev pub fun_seen :
    TypedFun-F CalleeForm ReceiverForm TargetForm ConditionForm OfKind PartForm OfStatementKind BlockForm CallForm
    CatchForm EntryForm ExpressionForm FunForm StatementForm → FunForm
fun_seen f =
    fun f.at f.is_suspend (map capture_form f.captures) f.parameters (map local_form f.locals) (type_form f.result)
    (statements_of f.statements)

abbrev pub statement_seen :
    TypedStatement-F CalleeForm ReceiverForm TargetForm ConditionForm OfKind PartForm OfStatementKind BlockForm
    CallForm CatchForm EntryForm ExpressionForm FunForm StatementForm → StatementForm
statement_seen s = s.kind s.at

-- The views.

abbrev pub callee_form : Callee → CalleeForm
callee_form =
    fold-Callee CalleeForm ReceiverForm TargetForm ConditionForm OfKind PartForm OfStatementKind BlockForm CallForm
    CatchForm EntryForm ExpressionForm FunForm StatementForm callee_seen receiver_seen target_seen condition_seen
    kind_seen part_seen statement_kind_seen block_seen call_seen catch_seen entry_seen expression_seen fun_seen
    statement_seen

abbrev pub receiver_form : Receiver → ReceiverForm
receiver_form =
    fold-Receiver CalleeForm ReceiverForm TargetForm ConditionForm OfKind PartForm OfStatementKind BlockForm
    CallForm CatchForm EntryForm ExpressionForm FunForm StatementForm callee_seen receiver_seen target_seen
    condition_seen kind_seen part_seen statement_kind_seen block_seen call_seen catch_seen entry_seen
    expression_seen fun_seen statement_seen

abbrev pub target_form : Target → TargetForm
target_form =
    fold-Target CalleeForm ReceiverForm TargetForm ConditionForm OfKind PartForm OfStatementKind BlockForm CallForm
    CatchForm EntryForm ExpressionForm FunForm StatementForm callee_seen receiver_seen target_seen condition_seen
    kind_seen part_seen statement_kind_seen block_seen call_seen catch_seen entry_seen expression_seen fun_seen
    statement_seen

abbrev pub condition_form : TypedCondition → ConditionForm
condition_form =
    fold-TypedCondition CalleeForm ReceiverForm TargetForm ConditionForm OfKind PartForm OfStatementKind BlockForm
    CallForm CatchForm EntryForm ExpressionForm FunForm StatementForm callee_seen receiver_seen target_seen
    condition_seen kind_seen part_seen statement_kind_seen block_seen call_seen catch_seen entry_seen
    expression_seen fun_seen statement_seen

abbrev pub part_form : TypedPart → PartForm
part_form =
    fold-TypedPart CalleeForm ReceiverForm TargetForm ConditionForm OfKind PartForm OfStatementKind BlockForm
    CallForm CatchForm EntryForm ExpressionForm FunForm StatementForm callee_seen receiver_seen target_seen
    condition_seen kind_seen part_seen statement_kind_seen block_seen call_seen catch_seen entry_seen
    expression_seen fun_seen statement_seen

abbrev pub block_form : TypedBlock → BlockForm
block_form =
    fold-TypedBlock CalleeForm ReceiverForm TargetForm ConditionForm OfKind PartForm OfStatementKind BlockForm
    CallForm CatchForm EntryForm ExpressionForm FunForm StatementForm callee_seen receiver_seen target_seen
    condition_seen kind_seen part_seen statement_kind_seen block_seen call_seen catch_seen entry_seen
    expression_seen fun_seen statement_seen

abbrev pub call_form : TypedCall → CallForm
call_form =
    fold-TypedCall CalleeForm ReceiverForm TargetForm ConditionForm OfKind PartForm OfStatementKind BlockForm
    CallForm CatchForm EntryForm ExpressionForm FunForm StatementForm callee_seen receiver_seen target_seen
    condition_seen kind_seen part_seen statement_kind_seen block_seen call_seen catch_seen entry_seen
    expression_seen fun_seen statement_seen

abbrev pub catch_form : TypedCatch → CatchForm
catch_form =
    fold-TypedCatch CalleeForm ReceiverForm TargetForm ConditionForm OfKind PartForm OfStatementKind BlockForm
    CallForm CatchForm EntryForm ExpressionForm FunForm StatementForm callee_seen receiver_seen target_seen
    condition_seen kind_seen part_seen statement_kind_seen block_seen call_seen catch_seen entry_seen
    expression_seen fun_seen statement_seen

abbrev pub entry_form : TypedEntry → EntryForm
entry_form =
    fold-TypedEntry CalleeForm ReceiverForm TargetForm ConditionForm OfKind PartForm OfStatementKind BlockForm
    CallForm CatchForm EntryForm ExpressionForm FunForm StatementForm callee_seen receiver_seen target_seen
    condition_seen kind_seen part_seen statement_kind_seen block_seen call_seen catch_seen entry_seen
    expression_seen fun_seen statement_seen

abbrev pub expression_form : TypedExpression → ExpressionForm
expression_form =
    fold-TypedExpression CalleeForm ReceiverForm TargetForm ConditionForm OfKind PartForm OfStatementKind BlockForm
    CallForm CatchForm EntryForm ExpressionForm FunForm StatementForm callee_seen receiver_seen target_seen
    condition_seen kind_seen part_seen statement_kind_seen block_seen call_seen catch_seen entry_seen
    expression_seen fun_seen statement_seen

abbrev pub fun_form : TypedFun → FunForm
fun_form =
    fold-TypedFun CalleeForm ReceiverForm TargetForm ConditionForm OfKind PartForm OfStatementKind BlockForm
    CallForm CatchForm EntryForm ExpressionForm FunForm StatementForm callee_seen receiver_seen target_seen
    condition_seen kind_seen part_seen statement_kind_seen block_seen call_seen catch_seen entry_seen
    expression_seen fun_seen statement_seen

abbrev pub statement_form : TypedStatement → StatementForm
statement_form =
    fold-TypedStatement CalleeForm ReceiverForm TargetForm ConditionForm OfKind PartForm OfStatementKind BlockForm
    CallForm CatchForm EntryForm ExpressionForm FunForm StatementForm callee_seen receiver_seen target_seen
    condition_seen kind_seen part_seen statement_kind_seen block_seen call_seen catch_seen entry_seen
    expression_seen fun_seen statement_seen
