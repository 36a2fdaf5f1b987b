-- The stage of a tree: the first that holds of
--   9  a `suspend` modifier, a `suspend` type, or a name of coroutines stands in it,
--   8  a lambda, a function type, `throw`, `try`, or the name of a throwable stands in it,
--   4  a class, an interface, an enum, `this`, type parameters, or type arguments stand in it, other than those behind
--      `Array` and `arrayOfNulls`,
--   3  otherwise.
-- Each node has one of these by itself, or 0 where it asks for none, and the stage of a tree is the greatest of its
-- nodes', and at least 3. So it is the first of the four that holds.
use Rattle.std.specs.Prelude.{
  ℕ,
  max,
  Bool,
  true,
  false,
  ◌==◌,
  ◌||◌,
  if◌then◌else◌,
  List,
  Option,
  Some,
  None,
  map,
  codes,
}
use Rattle.std.specs.Cmp.Lexicographic.{pointwise}
use Rattle.kt_tree.specs.declared.declarations.EnumEntry.{EnumEntry}
use Rattle.kt_tree.specs.declared.declarations.EnumDeclaration.{EnumDeclaration}
use Rattle.kt_tree.specs.Types as t
use Rattle.kt_tree.specs.Types.{TypeTree, TypeTrees, types_of}
use Rattle.kt_tree.specs.Bodies as e
use Rattle.kt_tree.specs.Bodies.{
  ExpressionTree,
  ExpressionTrees,
  MaybeExpression,
  PartTree,
  PartTrees,
  LambdaTree,
  EntryTree,
  EntryTrees,
  ConditionTree,
  ConditionTrees,
  CatchTree,
  CatchTrees,
  BodyTree,
  MaybeBody,
  BlockTree,
  MaybeBlock,
  StatementTree,
  StatementTrees,
  ParameterTree,
  expressions_of,
}
use Rattle.kt_tree.specs.Declarations as d
use Rattle.kt_tree.specs.Declarations.{
  TypeParameterTree,
  TypedParameterTree,
  FunctionBodyTree,
  FunctionTree,
  ConstructorParameterTree,
  SuperArgumentsTree,
  SupertypeTree,
  PropertyTree,
  MemberTree,
  ClassTree,
  InterfaceTree,
  ConstantTree,
  DeclarationTree,
}
use Rattle.kt_tree.specs.Levels.{most}

-- ---- names

-- whether a name is spelled so
abbrev pub is_word : List ℕ → List ℕ → Bool
is_word x w = pointwise ◌==◌ x w

-- the names of coroutines
unfoldable pub is_of_coroutines : List ℕ → Bool
is_of_coroutines x = is_word x (codes "launch") || is_word x (codes "suspendCoroutine")
    || is_word x (codes "Continuation")

-- the names of throwables
unfoldable pub is_throwable : List ℕ → Bool
is_throwable x = is_word x (codes "Throwable") || is_word x (codes "Exception") || is_word x (codes "RuntimeException")
    || is_word x (codes "IllegalStateException") || is_word x (codes "IllegalArgumentException")
    || is_word x (codes "ArithmeticException")
    || is_word x (codes "NullPointerException") || is_word x (codes "ClassCastException")
    || is_word x (codes "NegativeArraySizeException")
    || is_word x (codes "IndexOutOfBoundsException") || is_word x (codes "ArrayIndexOutOfBoundsException")
    || is_word x (codes "StringIndexOutOfBoundsException")

-- of a name by itself, wherever it stands
abbrev pub name_stage : List ℕ → ℕ
name_stage x = if is_of_coroutines x then 9 else if is_throwable x then 8 else 0

-- of a `suspend`, where it is written
abbrev pub suspend_stage : Bool → ℕ
suspend_stage true = 9
suspend_stage false = 0

-- of a type argument behind this name, by itself
unfoldable pub argument_stage : List ℕ → ℕ
argument_stage x = if is_word x (codes "Array") || is_word x (codes "arrayOfNulls") then 0 else 4

-- ---- types

abbrev mutual
  pub type_stage : TypeTree → ℕ
  type_stage (t.named x ts) = max (name_stage x) (types_stage (argument_stage x) ts)
  type_stage (t.function suspends ts r) = max (max 8 (suspend_stage suspends)) (max (types_stage 0 ts) (type_stage r))
  type_stage (t.nullable r) = type_stage r
  type_stage (t.parenthesized r) = type_stage r

  -- of types each of which has this stage by where it stands
  pub types_stage : ℕ → TypeTrees → ℕ
  types_stage here t.types_end = 0
  types_stage here (t.type_then r rest) = max (max here (type_stage r)) (types_stage here rest)

abbrev pub maybe_type_stage : Option TypeTree → ℕ
maybe_type_stage None = 0
maybe_type_stage (Some r) = type_stage r

-- ---- expressions and statements

abbrev pub parameter_stage : ParameterTree → ℕ
parameter_stage p = max (name_stage p.name) (maybe_type_stage p.annotation)

-- of a type argument of a call of this, by itself
abbrev pub called_argument_stage : ExpressionTree → ℕ
called_argument_stage (e.name at x) = argument_stage x
called_argument_stage (e.member at a safe x) = argument_stage x
called_argument_stage _ = 4

abbrev mutual
  pub stage : ExpressionTree → ℕ
  stage (e.literal at l) = 0
  stage (e.template at ps) = parts_stage ps
  stage (e.name at x) = name_stage x
  stage (e.this at) = 4
  stage (e.parenthesized at a) = stage a
  stage (e.lambda at l) = max 8 (lambda_stage l)
  stage (e.prefix at o a) = stage a
  stage (e.binary at o a b) = max (stage a) (stage b)
  stage (e.type_check at a not r) = max (stage a) (type_stage r)
  stage (e.cast at a safe r) = max (stage a) (type_stage r)
  stage (e.not_null at a) = stage a
  stage (e.member at a safe x) = max (stage a) (name_stage x)
  stage (e.index at a b) = max (stage a) (stage b)
  stage (e.call at f start rs es) =
      max (stage f) (max (types_stage (called_argument_stage f) (types_of rs)) (expressions_stage es))
  stage (e.if_else at a b c) = max (stage a) (max (body_stage b) (maybe_body_stage c))
  stage (e.when at a es) = max (maybe_stage a) (entries_stage es)
  stage (e.try_catch at b cs f) = max 8 (max (block_stage b) (max (catches_stage cs) (maybe_block_stage f)))
  stage (e.throw at a) = max 8 (stage a)
  stage (e.return at a) = maybe_stage a
  stage (e.break at) = 0
  stage (e.continue at) = 0

  pub expressions_stage : ExpressionTrees → ℕ
  expressions_stage e.expressions_end = 0
  expressions_stage (e.expression_then a rest) = max (stage a) (expressions_stage rest)

  pub maybe_stage : MaybeExpression → ℕ
  maybe_stage e.no_expression = 0
  maybe_stage (e.some_expression a) = stage a

  pub part_stage : PartTree → ℕ
  part_stage (e.text u) = 0
  part_stage (e.name_part x) = name_stage x
  part_stage e.this_part = 4
  part_stage (e.hole a) = stage a

  pub parts_stage : PartTrees → ℕ
  parts_stage e.parts_end = 0
  parts_stage (e.part_then p rest) = max (part_stage p) (parts_stage rest)

  pub lambda_stage : LambdaTree → ℕ
  lambda_stage (e.lambda_of ps b) = max (most (map parameter_stage ps)) (block_stage b)

  pub entry_stage : EntryTree → ℕ
  entry_stage (e.entry cs b) = max (conditions_stage cs) (body_stage b)

  pub entries_stage : EntryTrees → ℕ
  entries_stage e.entries_end = 0
  entries_stage (e.entry_then x rest) = max (entry_stage x) (entries_stage rest)

  pub condition_stage : ConditionTree → ℕ
  condition_stage (e.equals a) = stage a
  condition_stage (e.of_type not r) = type_stage r

  pub conditions_stage : ConditionTrees → ℕ
  conditions_stage e.conditions_end = 0
  conditions_stage (e.condition_then c rest) = max (condition_stage c) (conditions_stage rest)

  pub catch_stage : CatchTree → ℕ
  catch_stage (e.catch x r b) = max (name_stage x) (max (type_stage r) (block_stage b))

  pub catches_stage : CatchTrees → ℕ
  catches_stage e.catches_end = 0
  catches_stage (e.catch_then c rest) = max (catch_stage c) (catches_stage rest)

  pub body_stage : BodyTree → ℕ
  body_stage (e.braces b) = block_stage b
  body_stage (e.single s) = statement_stage s

  pub maybe_body_stage : MaybeBody → ℕ
  maybe_body_stage e.no_body = 0
  maybe_body_stage (e.some_body b) = body_stage b

  pub block_stage : BlockTree → ℕ
  block_stage (e.block ss end) = statements_stage ss

  pub maybe_block_stage : MaybeBlock → ℕ
  maybe_block_stage e.no_block = 0
  maybe_block_stage (e.some_block b) = block_stage b

  pub statement_stage : StatementTree → ℕ
  statement_stage (e.local at var x r a) = max (name_stage x) (max (maybe_type_stage r) (maybe_stage a))
  statement_stage (e.assign at a o b) = max (stage a) (stage b)
  statement_stage (e.step at a o) = stage a
  statement_stage (e.while at a b) = max (stage a) (body_stage b)
  statement_stage (e.do_while at b a) = max (block_stage b) (stage a)
  statement_stage (e.for at x a o c b) = max (name_stage x) (max (stage a) (max (stage c) (body_stage b)))
  statement_stage (e.evaluate at a) = stage a

  pub statements_stage : StatementTrees → ℕ
  statements_stage e.statements_end = 0
  statements_stage (e.statement_then s rest) = max (statement_stage s) (statements_stage rest)

-- ---- declarations and files

abbrev pub type_parameter_stage : TypeParameterTree → ℕ
type_parameter_stage p = max 4 (max (name_stage p.name) (maybe_type_stage p.bound))

abbrev pub typed_parameter_stage : TypedParameterTree → ℕ
typed_parameter_stage p = max (name_stage p.name) (type_stage p.annotation)

abbrev pub function_body_stage : Option FunctionBodyTree → ℕ
function_body_stage None = 0
function_body_stage (Some (d.braces b)) = block_stage b
function_body_stage (Some (d.result a)) = stage a

abbrev pub function_stage : FunctionTree → ℕ
function_stage f =
    max (max (suspend_stage f.modifiers.is_suspend) (name_stage f.name))
    (max (max (most (map type_parameter_stage f.type_parameters)) (most (map typed_parameter_stage f.parameters)))
    (max (maybe_type_stage f.result) (function_body_stage f.body)))

abbrev pub constructor_parameter_stage : ConstructorParameterTree → ℕ
constructor_parameter_stage p = max (name_stage p.name) (type_stage p.annotation)

abbrev pub super_arguments_stage : Option SuperArgumentsTree → ℕ
super_arguments_stage None = 0
super_arguments_stage (Some a) = expressions_stage (expressions_of a.values)

abbrev pub supertype_stage : SupertypeTree → ℕ
supertype_stage s = max (type_stage s.parent) (super_arguments_stage s.arguments)

abbrev pub member_stage : MemberTree → ℕ
member_stage (d.method f) = function_stage f
member_stage (d.property p) = max (name_stage p.name) (max (type_stage p.annotation) (stage p.initializer))

abbrev pub class_stage : ClassTree → ℕ
class_stage c =
    max (max 4 (name_stage c.name)) (max
    (max (most (map type_parameter_stage c.type_parameters)) (most (map constructor_parameter_stage c.parameters)))
    (max (most (map supertype_stage c.supertypes)) (most (map member_stage c.members))))

abbrev pub interface_stage : InterfaceTree → ℕ
interface_stage i =
    max (max 4 (name_stage i.name)) (max (most (map type_parameter_stage i.type_parameters))
    (max (types_stage 0 (types_of i.supertypes)) (most (map function_stage i.functions))))

abbrev pub enum_entry_stage : EnumEntry → ℕ
enum_entry_stage x = name_stage x.name

abbrev pub enum_stage : EnumDeclaration → ℕ
enum_stage x = max (max 4 (name_stage x.name)) (most (map enum_entry_stage x.entries))

-- the value of a constant asks for none
abbrev pub constant_stage : ConstantTree → ℕ
constant_stage c = max (name_stage c.name) (maybe_type_stage c.annotation)

abbrev pub declaration_stage : DeclarationTree → ℕ
declaration_stage (d.function f) = function_stage f
declaration_stage (d.class c) = class_stage c
declaration_stage (d.interface i) = interface_stage i
declaration_stage (d.enum x) = enum_stage x
declaration_stage (d.constant c) = constant_stage c

-- the stage of a file
abbrev pub file_stage : List DeclarationTree → ℕ
file_stage ds = max 3 (most (map declaration_stage ds))
