-- How many levels a tree has. A node that no other node holds is at level 1, each other one is one below the node that
-- holds it. Declarations, blocks and lists of statements are no level of their own, parentheses are one. A type is at
-- the level of what it belongs to, and each type in it is one below.
use Rattle.std.specs.Prelude.{ℕ, ◌+◌, ◌-◌, max, min, Bool, true, false, List, [], ◌∷◌, Option, Some, None, map}
use Rattle.kt_tree.specs.declared.declarations.ConstantValue.{ConstantValue}
use Rattle.kt_tree.specs.declared.declarations.ConstantValue.TheVariants as value
use Rattle.kt_tree.specs.declared.bodies.TextPart.{TextPart}
use Rattle.kt_tree.specs.Types as t
use Rattle.kt_tree.specs.Types.{TypeTree, TypeTrees}
use Rattle.kt_tree.specs.Bodies as e
use Rattle.kt_tree.specs.Bodies.{
  ExpressionTree,
  ExpressionTrees,
  MaybeExpression,
  PartTree,
  PartTrees,
  LambdaTree,
  EntryTree,
  EntryTrees,
  ConditionTree,
  ConditionTrees,
  CatchTree,
  CatchTrees,
  BodyTree,
  MaybeBody,
  BlockTree,
  MaybeBlock,
  StatementTree,
  StatementTrees,
  ParameterTree,
}
use Rattle.kt_tree.specs.Declarations as d
use Rattle.kt_tree.specs.Declarations.{
  TypeParameterTree,
  TypedParameterTree,
  FunctionBodyTree,
  FunctionTree,
  ConstructorParameterTree,
  SuperArgumentsTree,
  SupertypeTree,
  PropertyTree,
  MemberTree,
  ClassTree,
  InterfaceTree,
  ConstantTree,
  DeclarationTree,
}

-- the greatest number, and 0 of none
abbrev pub most : List ℕ → ℕ
most [] = 0
most (n ∷ ns) = max n (most ns)

-- as far as a number of 32 bits counts
abbrev pub counted : ℕ → ℕ
counted n = min n 4294967295

abbrev mutual
  pub type_levels : TypeTree → ℕ
  type_levels (t.named x ts) = types_levels ts + 1
  type_levels (t.function suspends ts r) = max (types_levels ts) (type_levels r) + 1
  type_levels (t.nullable r) = type_levels r
  type_levels (t.parenthesized r) = type_levels r + 1

  pub types_levels : TypeTrees → ℕ
  types_levels t.types_end = 0
  types_levels (t.type_then r rest) = max (type_levels r) (types_levels rest)

abbrev pub maybe_type_levels : Option TypeTree → ℕ
maybe_type_levels None = 0
maybe_type_levels (Some r) = type_levels r

abbrev pub parameter_levels : ParameterTree → ℕ
parameter_levels p = max 1 (maybe_type_levels p.annotation)

-- of the levels of what is called, those below the call: a call and its name are one node
abbrev pub below_call : ExpressionTree → ℕ → ℕ
below_call (e.name at x) n = 0
below_call (e.member at a safe x) n = n - 1
below_call _ n = n

-- the level that the parts of a string make, where it has several
abbrev pub part_level : PartTrees → ℕ
part_level (e.part_then p (e.part_then q rest)) = 1
part_level _ = 0

abbrev mutual
  pub levels : ExpressionTree → ℕ
  levels (e.literal at l) = 1
  levels (e.template at ps) = parts_levels ps + part_level ps + 1
  levels (e.name at x) = 1
  levels (e.this at) = 1
  levels (e.parenthesized at a) = levels a + 1
  levels (e.lambda at l) = lambda_levels l + 1
  levels (e.prefix at o a) = levels a + 1
  levels (e.binary at o a b) = max (levels a) (levels b) + 1
  levels (e.type_check at a not r) = max (levels a + 1) (type_levels r)
  levels (e.cast at a safe r) = max (levels a + 1) (type_levels r)
  levels (e.not_null at a) = levels a + 1
  levels (e.member at a safe x) = levels a + 1
  levels (e.index at a b) = max (levels a) (levels b) + 1
  levels (e.call at f start rs es) =
      max (max (below_call f (levels f)) (expressions_levels es) + 1) (most (map type_levels rs))
  levels (e.if_else at a b c) = max (levels a) (max (body_levels b) (maybe_body_levels c)) + 1
  levels (e.when at a es) = max (maybe_levels a) (entries_levels es) + 1
  levels (e.try_catch at b cs f) = max (block_levels b) (max (catches_levels cs) (maybe_block_levels f)) + 1
  levels (e.throw at a) = levels a + 1
  levels (e.return at a) = maybe_levels a + 1
  levels (e.break at) = 1
  levels (e.continue at) = 1

  pub expressions_levels : ExpressionTrees → ℕ
  expressions_levels e.expressions_end = 0
  expressions_levels (e.expression_then a rest) = max (levels a) (expressions_levels rest)

  pub maybe_levels : MaybeExpression → ℕ
  maybe_levels e.no_expression = 0
  maybe_levels (e.some_expression a) = levels a

  -- what a part of a string holds; `$x` is short for `${x}`
  pub part_levels : PartTree → ℕ
  part_levels (e.text u) = 0
  part_levels (e.name_part x) = 1
  part_levels e.this_part = 1
  part_levels (e.hole a) = levels a

  pub parts_levels : PartTrees → ℕ
  parts_levels e.parts_end = 0
  parts_levels (e.part_then p rest) = max (part_levels p) (parts_levels rest)

  pub lambda_levels : LambdaTree → ℕ
  lambda_levels (e.lambda_of ps b) = max (most (map parameter_levels ps)) (block_levels b)

  pub entry_levels : EntryTree → ℕ
  entry_levels (e.entry cs b) = max (conditions_levels cs) (body_levels b) + 1

  pub entries_levels : EntryTrees → ℕ
  entries_levels e.entries_end = 0
  entries_levels (e.entry_then x rest) = max (entry_levels x) (entries_levels rest)

  pub condition_levels : ConditionTree → ℕ
  condition_levels (e.equals a) = levels a + 1
  condition_levels (e.of_type not r) = type_levels r

  pub conditions_levels : ConditionTrees → ℕ
  conditions_levels e.conditions_end = 0
  conditions_levels (e.condition_then c rest) = max (condition_levels c) (conditions_levels rest)

  pub catch_levels : CatchTree → ℕ
  catch_levels (e.catch x r b) = max (type_levels r) (block_levels b + 1)

  pub catches_levels : CatchTrees → ℕ
  catches_levels e.catches_end = 0
  catches_levels (e.catch_then c rest) = max (catch_levels c) (catches_levels rest)

  pub body_levels : BodyTree → ℕ
  body_levels (e.braces b) = block_levels b
  body_levels (e.single s) = statement_levels s

  pub maybe_body_levels : MaybeBody → ℕ
  maybe_body_levels e.no_body = 0
  maybe_body_levels (e.some_body b) = body_levels b

  pub block_levels : BlockTree → ℕ
  block_levels (e.block ss end) = statements_levels ss

  pub maybe_block_levels : MaybeBlock → ℕ
  maybe_block_levels e.no_block = 0
  maybe_block_levels (e.some_block b) = block_levels b

  pub statement_levels : StatementTree → ℕ
  statement_levels (e.local at var x r a) = max (maybe_type_levels r) (maybe_levels a + 1)
  statement_levels (e.assign at a o b) = max (levels a) (levels b) + 1
  statement_levels (e.step at a o) = levels a + 1
  statement_levels (e.while at a b) = max (levels a) (body_levels b) + 1
  statement_levels (e.do_while at b a) = max (block_levels b) (levels a) + 1
  statement_levels (e.for at x a o c b) = max (levels a) (max (levels c) (body_levels b)) + 1
  statement_levels (e.evaluate at a) = levels a

  pub statements_levels : StatementTrees → ℕ
  statements_levels e.statements_end = 0
  statements_levels (e.statement_then s rest) = max (statement_levels s) (statements_levels rest)

abbrev pub type_parameter_levels : TypeParameterTree → ℕ
type_parameter_levels p = maybe_type_levels p.bound

abbrev pub typed_parameter_levels : TypedParameterTree → ℕ
typed_parameter_levels p = type_levels p.annotation

abbrev pub function_body_levels : Option FunctionBodyTree → ℕ
function_body_levels None = 0
function_body_levels (Some (d.braces b)) = block_levels b
function_body_levels (Some (d.result a)) = levels a

abbrev pub function_levels : FunctionTree → ℕ
function_levels f =
    max (max (most (map type_parameter_levels f.type_parameters)) (most (map typed_parameter_levels f.parameters)))
    (max (maybe_type_levels f.result) (function_body_levels f.body))

abbrev pub constructor_parameter_levels : ConstructorParameterTree → ℕ
constructor_parameter_levels p = type_levels p.annotation

abbrev pub super_arguments_levels : Option SuperArgumentsTree → ℕ
super_arguments_levels None = 0
super_arguments_levels (Some a) = most (map levels a.values)

abbrev pub supertype_levels : SupertypeTree → ℕ
supertype_levels s = max (type_levels s.parent) (super_arguments_levels s.arguments)

abbrev pub member_levels : MemberTree → ℕ
member_levels (d.method f) = function_levels f
member_levels (d.property p) = max (type_levels p.annotation) (levels p.initializer)

abbrev pub class_levels : ClassTree → ℕ
class_levels c =
    max (max (most (map type_parameter_levels c.type_parameters))
    (most (map constructor_parameter_levels c.parameters)))
    (max (most (map supertype_levels c.supertypes)) (most (map member_levels c.members)))

abbrev pub interface_levels : InterfaceTree → ℕ
interface_levels i =
    max (most (map type_parameter_levels i.type_parameters))
    (max (most (map type_levels i.supertypes)) (most (map function_levels i.functions)))

abbrev pub several : List TextPart → ℕ
several (p ∷ q ∷ rest) = 1
several _ = 0

abbrev pub constant_value_levels : ConstantValue → ℕ
constant_value_levels (value.Literal negative l) = if_negative negative + 1
  where
    if_negative : Bool → ℕ
    if_negative true = 1
    if_negative false = 0
constant_value_levels (value.Text ps) = several ps + 1

abbrev pub constant_levels : ConstantTree → ℕ
constant_levels c = max (maybe_type_levels c.annotation) (constant_value_levels c.value)

abbrev pub declaration_levels : DeclarationTree → ℕ
declaration_levels (d.function f) = function_levels f
declaration_levels (d.class c) = class_levels c
declaration_levels (d.interface i) = interface_levels i
declaration_levels (d.enum x) = 0
declaration_levels (d.constant c) = constant_levels c

-- the levels of a file
abbrev pub file_levels : List DeclarationTree → ℕ
file_levels ds = most (map declaration_levels ds)
