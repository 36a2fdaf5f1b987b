-- Bodies: what stands directly in them, and its typing.
use Rattle.std.specs.Prelude.{Bool, true, false, not, List, [], ◌∷◌, length, ◌≡◌, ◌&&◌, ◌||◌, IsTrue}
use Rattle.kt_base.specs.declared.refusals.Pos.{Pos}
use Rattle.kt_tree.specs.Bodies.{ExpressionTree, literal, template, name, this, parenthesized, lambda, prefix, binary, type_check, cast, not_null, member, index, call, if_else, when, try_catch, throw, return, break, continue}
use Rattle.kt_tree.specs.Bodies.{StatementTree, local, assign, step, while, do_while, for, evaluate, StatementTrees, statements_end, statement_then, block}
use Rattle.kt_tree.specs.Declarations as declared
use Rattle.kt_tree.specs.Declarations.{FunctionBodyTree}
use Rattle.kt_typed.specs.declared.operators.LocalKind.TheVariants as kind
use Rattle.kt_typed.specs.Headers.{ParameterForm}
use Rattle.kt_typed.specs.Bodies as form
use Rattle.kt_typed.specs.Bodies.{ExpressionForm, StatementForm, FunForm, fun, statements_of}
use Rattle.kt_flow.specs.Facts.{no_facts}
use Rattle.kt_check_rules.specs.Kinds.{is_unit}
use Rattle.kt_check_rules.specs.States.{Context, State, next_local, declaring, assigned, entering}
use Rattle.kt_check_rules.specs.Completion.{statement_completes}
use Rattle.kt_check_rules.specs.Typings.{meeting, IsTyped}
use Rattle.kt_check_rules.specs.Rules.{Typed, TypedStatement}

-- What a body holds directly: statements and the closing brace, or the expression behind `=`. Arguments of a superclass
-- and initialisers are further kinds.
pub data Direct : Type 0 where
  statement : StatementTree → Direct
  value : Pos → ExpressionTree → Direct
  closing : Pos → Direct

abbrev pub statement_place : StatementTree → Pos
statement_place (local at var x t e) = at
statement_place (assign at e o a) = at
statement_place (step at e o) = at
statement_place (while at e b) = at
statement_place (do_while at b e) = at
statement_place (for at x a o c b) = at
statement_place (evaluate at e) = at

abbrev pub expression_place : ExpressionTree → Pos
expression_place (literal at l) = at
expression_place (template at ps) = at
expression_place (name at x) = at
expression_place (this at) = at
expression_place (parenthesized at e) = at
expression_place (lambda at l) = at
expression_place (prefix at o e) = at
expression_place (binary at o a b) = at
expression_place (type_check at e is_negated t) = at
expression_place (cast at e gives_null t) = at
expression_place (not_null at e) = at
expression_place (member at e is_safe x) = at
expression_place (index at a i) = at
expression_place (call at f start ts es) = at
expression_place (if_else at e b c) = at
expression_place (when at e es) = at
expression_place (try_catch at b cs f) = at
expression_place (throw at e) = at
expression_place (return at e) = at
expression_place (break at) = at
expression_place (continue at) = at

-- the place of a direct statement
abbrev pub place_of : Direct → Pos
place_of (statement x) = statement_place x
place_of (value at e) = at
place_of (closing at) = at

abbrev pub directs_then : StatementTrees → List Direct → List Direct
directs_then statements_end rest = rest
directs_then (statement_then x xs) rest = statement x ∷ directs_then xs rest

abbrev pub directs_of : FunctionBodyTree → List Direct
directs_of (declared.braces (block xs at)) = directs_then xs (closing at ∷ [])
directs_of (declared.result e) = value (expression_place e) e ∷ []

-- A body, with what its header says.
pub record Body : Type 0 where
  pub context : Context
  pub at : Pos
  pub parameters : List ParameterForm
  pub directs : List Direct

-- Direct statements: the place before is reached or not, and so is that behind.
abbrev pub DirectRule : Type 1
DirectRule = State → Bool → StatementForm → State → Bool → Type 0

pub record DirectStatements (K : Context) (x : StatementTree) (s : State) (reached : Bool) (y : StatementForm)
    (behind : State) (goes_on : Bool) : Type 0 where
  pub typed : TypedStatement K x s y behind
  pub ends : goes_on ≡ (reached && statement_completes K.headers y)

-- the expression behind `=` meets the result
pub record DirectValues (K : Context) (at : Pos) (e : ExpressionTree) (s : State) (y : StatementForm)
    (behind : State) (goes_on : Bool) : Type 0 where
  pub u : ExpressionForm
  pub typed : IsTyped K (Typed K e) s (meeting K.result) u behind
  pub whole : y ≡ form.result at u
  pub ends : goes_on ≡ false

-- a body ends without a result only where that is `Unit`
pub record ClosingBraces (K : Context) (at : Pos) (s : State) (reached : Bool) (y : StatementForm) (behind : State)
    (goes_on : Bool) : Type 0 where
  pub allowed : IsTrue (not reached || is_unit K.result)
  pub whole : y ≡ form.end at
  pub same : behind ≡ s
  pub ends : goes_on ≡ false

abbrev pub IsDirect : Context → Direct → DirectRule
IsDirect K (statement x) s reached y behind goes_on = DirectStatements K x s reached y behind goes_on
IsDirect K (value at e) s reached y behind goes_on = DirectValues K at e s y behind goes_on
IsDirect K (closing at) s reached y behind goes_on = ClosingBraces K at s reached y behind goes_on

abbrev pub DirectsRule : Type 1
DirectsRule = State → Bool → List StatementForm → State → Type 0

pub record DirectThen (one : DirectRule) (others : DirectsRule) (s : State) (reached : Bool)
    (ys : List StatementForm) (behind : State) : Type 0 where
  pub y : StatementForm
  pub more : List StatementForm
  pub between : State
  pub goes_on : Bool
  pub first : one s reached y between goes_on
  pub rest : others between goes_on more behind
  pub whole : ys ≡ y ∷ more

abbrev pub AreDirects : Context → List Direct → DirectsRule
AreDirects K [] s reached ys behind = (ys ≡ []) × (behind ≡ s)
AreDirects K (d ∷ ds) s reached ys behind = DirectThen (IsDirect K d) (AreDirects K ds) s reached ys behind

abbrev pub empty_state : State
empty_state =
    record {
      scope = [];
      declared = [];
      outside = 0;
      facts = no_facts;
      book = record { locals = []; breaks = []; continues = [] };
    }

abbrev pub with_parameters : List ParameterForm → State → State
with_parameters [] s = s
with_parameters (p ∷ ps) s = with_parameters ps (assigned (next_local s)
    (declaring p.name kind.Parameter p.annotation s))

-- the block of a body is a scope inside that of the parameters
abbrev pub begun : Body → State
begun b = entering (with_parameters b.parameters empty_state)

pub record IsBody (b : Body) (f : FunForm) : Type 0 where
  pub statements : List StatementForm
  pub end : State
  pub are : AreDirects b.context b.directs (begun b) true statements end
  pub whole :
      f
      ≡ fun b.at b.context.is_suspend [] (length b.parameters)
      end.book.locals b.context.result (statements_of statements)

-- the bodies of a file, in text order
abbrev pub AreBodies : List Body → List FunForm → Type 0
AreBodies [] fs = fs ≡ []
AreBodies (b ∷ bs) fs = (f : FunForm) × (rest : List FunForm) × (IsBody b f × (AreBodies bs rest × (fs ≡ f ∷ rest)))
