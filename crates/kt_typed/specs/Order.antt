-- The lambdas, the suspension points and the direct statements of bodies, in text order.
use Rattle.std.specs.Prelude.{ℕ, Bool, true, false, List, [], ◌∷◌, ◌++◌, ◌+◌, Option, Some, None, option_map, slice_get}
use Rattle.std.specs.List.{flat_map}
use Rattle.kt_base.specs.declared.refusals.Pos.{Pos}
use Rattle.kt_typed.specs.declared.headers.MemberNumber.{MemberNumber}
use Rattle.kt_typed.specs.declared.headers.MemberNumber.TheVariants as member
use Rattle.kt_typed.specs.declared.headers.DeclarationNumber.{DeclarationNumber}
use Rattle.kt_typed.specs.declared.headers.DeclarationNumber.TheVariants as number
use Rattle.kt_typed.specs.Bodies.{ExpressionForm, literal, template, local, captured, this, constant, enum_entry, property, prefix, binary, type_test, cast, not_null, index, call, if_else, when, try_catch, throw, return, break, continue, lambda}
use Rattle.kt_typed.specs.Bodies.{ExpressionForms, expressions_end, expression_then, MaybeExpression, no_expression, some_expression, PartForm, text, printed, PartForms, parts_end, part_then}
use Rattle.kt_typed.specs.Bodies.{ReceiverForm, implicit, plain, safe, CallForm, call_of, CalleeForm, function, constructor_of, method, value, built_in, built_in_method}
use Rattle.kt_typed.specs.Bodies.{EntryForm, entry, EntryForms, entries_end, entry_then, ConditionForm, equals, holds, of_type, ConditionForms, conditions_end, condition_then}
use Rattle.kt_typed.specs.Bodies.{CatchForm, catch, CatchForms, catches_end, catch_then, BlockForm, block, MaybeBlock, no_block, some_block, StatementForm, declare, assign, step, while, do_while, for, evaluate, superclass, initialize, result, end}
use Rattle.kt_typed.specs.Bodies.{StatementForms, statements_end, statement_then, TargetForm, local_target, captured_target, property_target, element_target, FunForm, fun}
use Rattle.kt_typed.specs.Headers.{HeadersForm, ClassForm}
use Rattle.kt_typed.specs.Units.{UnitForm, ClassBodies}

-- what is found in a body: a lambda literal with its number and body, or a suspension point by its place
pub data Found : Type 0 where
  a_lambda : ℕ → FunForm → Found
  a_point : Pos → Found

abbrev pub point_if : Bool → Pos → List Found
point_if true at = a_point at ∷ []
point_if false at = []

abbrev pub found_if : Bool → List Found → List Found
found_if true all = all
found_if false all = []

-- What stands in an expression, a statement or a body, in text order. What a lambda literal holds follows it where the
-- first is true, and else isn't in the list.
abbrev mutual
  pub found : Bool → ExpressionForm → List Found
  found d (literal t l) = []
  found d (template t ps) = found_in_parts d ps
  found d (local t n) = []
  found d (captured t n) = []
  found d (this t) = []
  found d (constant t n) = []
  found d (enum_entry t c n) = []
  found d (property t r p) = found_in_receiver d r
  found d (prefix t o e) = found d e
  found d (binary t o a b) = found d a ++ found d b
  found d (type_test t e not u) = found d e
  found d (cast t e or_null u) = found d e
  found d (not_null t e) = found d e
  found d (index t a i) = found d a ++ found d i
  found d (call t c) = found_in_call d c
  found d (if_else t e b c) = found d e ++ (found_in_block d b ++ found_in_maybe_block d c)
  found d (when t e es) = found_in_maybe d e ++ found_in_entries d es
  found d (try_catch t b cs f) = found_in_block d b ++ (found_in_catches d cs ++ found_in_maybe_block d f)
  found d (throw t e) = found d e
  found d (return t e) = found_in_maybe d e
  found d (break t) = []
  found d (continue t) = []
  found d (lambda t n f) = a_lambda n f ∷ found_in_fun d f

  pub found_in_all : Bool → ExpressionForms → List Found
  found_in_all d expressions_end = []
  found_in_all d (expression_then e es) = found d e ++ found_in_all d es

  pub found_in_maybe : Bool → MaybeExpression → List Found
  found_in_maybe d no_expression = []
  found_in_maybe d (some_expression e) = found d e

  pub found_in_parts : Bool → PartForms → List Found
  found_in_parts d parts_end = []
  found_in_parts d (part_then p ps) = found_in_part d p ++ found_in_parts d ps

  pub found_in_part : Bool → PartForm → List Found
  found_in_part d (text t) = []
  found_in_part d (printed e) = found d e

  pub found_in_receiver : Bool → ReceiverForm → List Found
  found_in_receiver d implicit = []
  found_in_receiver d (plain e) = found d e
  found_in_receiver d (safe e) = found d e

  -- what is called, then the call itself, then its arguments
  pub found_in_call : Bool → CallForm → List Found
  found_in_call d (call_of c ts es suspends at) = found_in_callee d c ++ (point_if suspends at ++ found_in_all d es)

  pub found_in_callee : Bool → CalleeForm → List Found
  found_in_callee d (function f) = []
  found_in_callee d (constructor_of c) = []
  found_in_callee d (method r c f) = found_in_receiver d r
  found_in_callee d (value e named) = found d e
  found_in_callee d (built_in b) = []
  found_in_callee d (built_in_method r b) = found_in_receiver d r

  pub found_in_entries : Bool → EntryForms → List Found
  found_in_entries d entries_end = []
  found_in_entries d (entry_then e es) = found_in_entry d e ++ found_in_entries d es

  pub found_in_entry : Bool → EntryForm → List Found
  found_in_entry d (entry cs b) = found_in_conditions d cs ++ found_in_block d b

  pub found_in_conditions : Bool → ConditionForms → List Found
  found_in_conditions d conditions_end = []
  found_in_conditions d (condition_then c cs) = found_in_condition d c ++ found_in_conditions d cs

  pub found_in_condition : Bool → ConditionForm → List Found
  found_in_condition d (equals e) = found d e
  found_in_condition d (holds e) = found d e
  found_in_condition d (of_type not t) = []

  pub found_in_catches : Bool → CatchForms → List Found
  found_in_catches d catches_end = []
  found_in_catches d (catch_then c cs) = found_in_catch d c ++ found_in_catches d cs

  pub found_in_catch : Bool → CatchForm → List Found
  found_in_catch d (catch n c b) = found_in_block d b

  pub found_in_block : Bool → BlockForm → List Found
  found_in_block d (block ss e) = found_in_statements d ss ++ found_in_maybe d e

  pub found_in_maybe_block : Bool → MaybeBlock → List Found
  found_in_maybe_block d no_block = []
  found_in_maybe_block d (some_block b) = found_in_block d b

  pub found_in_statements : Bool → StatementForms → List Found
  found_in_statements d statements_end = []
  found_in_statements d (statement_then s ss) = found_in_statement d s ++ found_in_statements d ss

  pub found_in_statement : Bool → StatementForm → List Found
  found_in_statement d (declare at n e) = found_in_maybe d e
  found_in_statement d (assign at x o e) = found_in_target d x ++ found d e
  found_in_statement d (step at x o w) = found_in_target d x
  found_in_statement d (while at e b) = found d e ++ found_in_block d b
  found_in_statement d (do_while at b e) = found_in_block d b ++ found d e
  found_in_statement d (for at n a o c b) = found d a ++ (found d c ++ found_in_block d b)
  found_in_statement d (evaluate at e) = found d e
  found_in_statement d (superclass at es) = found_in_all d es
  found_in_statement d (initialize at n e) = found d e
  found_in_statement d (result at e) = found d e
  found_in_statement d (end at) = []

  pub found_in_target : Bool → TargetForm → List Found
  found_in_target d (local_target n) = []
  found_in_target d (captured_target n) = []
  found_in_target d (property_target r p) = found_in_receiver d r
  found_in_target d (element_target a i) = found d a ++ found d i

  pub found_in_fun : Bool → FunForm → List Found
  found_in_fun d (fun at suspends captures parameters locals t ss) = found_if d (found_in_statements d ss)

-- what stands directly in a body
abbrev pub found_in_body : FunForm → List Found
found_in_body (fun at suspends captures parameters locals t ss) = found_in_statements false ss

-- the places of the suspension points among what is found
abbrev pub points_among : List Found → List Pos
points_among [] = []
points_among (a_lambda n f ∷ rest) = points_among rest
points_among (a_point at ∷ rest) = at ∷ points_among rest

-- the suspension points of a body by their numbers, the first of which is 1
abbrev pub points : FunForm → List Pos
points f = points_among (found_in_body f)

-- the lambda bodies among what is found
abbrev pub lambdas_among : List Found → List FunForm
lambdas_among [] = []
lambdas_among (a_lambda n f ∷ rest) = f ∷ lambdas_among rest
lambdas_among (a_point at ∷ rest) = lambdas_among rest

-- A direct statement: of which body, which one of it, and its place.
pub data BodyName : Type 0 where
  of_function : ℕ → BodyName
  of_constructor : ℕ → BodyName
  of_method : ℕ → ℕ → BodyName

pub record DirectForm : Type 0 where
  pub body : BodyName
  pub index : ℕ
  pub statement : StatementForm

abbrev pub directs_from : BodyName → ℕ → StatementForms → List DirectForm
directs_from b i statements_end = []
directs_from b i (statement_then s ss) = record { body = b; index = i; statement = s } ∷ directs_from b (i + 1) ss

abbrev pub directs_of_body : BodyName → FunForm → List DirectForm
directs_of_body b (fun at suspends captures parameters locals t ss) = directs_from b 0 ss

abbrev pub directs_of_maybe : BodyName → Option (Option FunForm) → List DirectForm
directs_of_maybe b None = []
directs_of_maybe b (Some None) = []
directs_of_maybe b (Some (Some f)) = directs_of_body b f

abbrev pub in_option : {A : Type 0} → Option A → Option (Option A)
in_option o = Some o

-- the members of a class body in text order; an initialiser is the next of the constructor's statements
abbrev pub directs_of_members : ℕ → List (Option FunForm) → List MemberNumber → List DirectForm → List DirectForm
directs_of_members c fs [] rest = []
directs_of_members c fs (member.Function n ∷ ms) rest =
    directs_of_maybe (of_method c n) (slice_get fs n) ++ directs_of_members c fs ms rest
directs_of_members c fs (member.Property n ∷ ms) [] = directs_of_members c fs ms []
directs_of_members c fs (member.Property n ∷ ms) (d ∷ rest) = d ∷ directs_of_members c fs ms rest

-- first the arguments of the superclass, where there is one
abbrev pub directs_of_parts :
    ℕ → List (Option FunForm) → List MemberNumber → Option ℕ → List DirectForm → List DirectForm
directs_of_parts c fs ms None rest = directs_of_members c fs ms rest
directs_of_parts c fs ms (Some parent) [] = directs_of_members c fs ms []
directs_of_parts c fs ms (Some parent) (d ∷ rest) = d ∷ directs_of_members c fs ms rest

abbrev pub directs_of_class : ℕ → Option ClassForm → Option ClassBodies → List DirectForm
directs_of_class c (Some header) (Some bodies) =
    directs_of_parts c bodies.functions header.members header.superclass
    (directs_of_maybe (of_constructor c) (in_option bodies.constructor))
directs_of_class c _ _ = []

abbrev pub directs_of_declaration : UnitForm → DeclarationNumber → List DirectForm
directs_of_declaration u (number.Function n) =
    directs_of_maybe (of_function n) (option_map Some (slice_get u.functions n))
directs_of_declaration u (number.Class c) = directs_of_class c (slice_get u.headers.classes c) (slice_get u.classes c)
directs_of_declaration u (number.Constant n) = []

-- the direct statements of a unit in text order
abbrev pub directs : UnitForm → List DirectForm
directs u = flat_map (directs_of_declaration u) u.headers.order

abbrev pub lambdas_of_direct : DirectForm → List FunForm
lambdas_of_direct d = lambdas_among (found_in_statement true d.statement)

-- all lambda bodies of a unit by their numbers
abbrev pub lambdas : UnitForm → List FunForm
lambdas u = flat_map lambdas_of_direct (directs u)
