-- What limits speak of in a body, in text order: the locals that it declares, its text parts and its lambda literals.
use Rattle.std.specs.Prelude.{ℕ, suc, List, [], ◌∷◌, ◌++◌, codes}
use Rattle.kt_tree.specs.declared.bodies.TextPart.{TextPart}
use Rattle.kt_tree.specs.declared.bodies.TextPart.TheVariants as part
use Rattle.kt_typed.specs.Bodies.{ExpressionForm, literal, template, local, captured, this, constant, enum_entry, property, prefix, binary, type_test, cast, not_null, index, call, if_else, when, try_catch, throw, return, break, continue, lambda}
use Rattle.kt_typed.specs.Bodies.{ExpressionForms, expressions_end, expression_then, MaybeExpression, no_expression, some_expression, PartForm, text, printed, PartForms, parts_end, part_then}
use Rattle.kt_typed.specs.Bodies.{ReceiverForm, implicit, plain, safe, CallForm, call_of, CalleeForm, function, constructor_of, method, value, built_in, built_in_method}
use Rattle.kt_typed.specs.Bodies.{EntryForm, entry, EntryForms, entries_end, entry_then, ConditionForm, equals, holds, of_type, ConditionForms, conditions_end, condition_then}
use Rattle.kt_typed.specs.Bodies.{CatchForm, catch, CatchForms, catches_end, catch_then, BlockForm, block, MaybeBlock, no_block, some_block, StatementForm, declare, assign, step, while, do_while, for, evaluate, superclass, initialize, result, end}
use Rattle.kt_typed.specs.Bodies.{StatementForms, statements_end, statement_then, TargetForm, local_target, captured_target, property_target, element_target, FunForm, fun}

pub data Noted : Type 0 where
  -- the scope of a local begins
  a_local : Noted
  -- a part of a string that is text, by its UTF-16 code units
  a_text : List ℕ → Noted
  -- a lambda literal, by its body
  a_lambda : FunForm → Noted

-- the code units of a part
abbrev pub units_of : TextPart → List ℕ
units_of (part.Run units) = units
units_of (part.Escape unit) = unit ∷ []
units_of part.Dollar = codes "$"

-- without the locals
abbrev pub but_locals : List Noted → List Noted
but_locals [] = []
but_locals (a_local ∷ rest) = but_locals rest
but_locals (a_text t ∷ rest) = a_text t ∷ but_locals rest
but_locals (a_lambda f ∷ rest) = a_lambda f ∷ but_locals rest

abbrev mutual
  pub noted : ExpressionForm → List Noted
  noted (literal t l) = []
  noted (template t ps) = noted_in_parts ps
  noted (local t n) = []
  noted (captured t n) = []
  noted (this t) = []
  noted (constant t n) = []
  noted (enum_entry t c n) = []
  noted (property t r p) = noted_in_receiver r
  noted (prefix t o e) = noted e
  noted (binary t o a b) = noted a ++ noted b
  noted (type_test t e not u) = noted e
  noted (cast t e or_null u) = noted e
  noted (not_null t e) = noted e
  noted (index t a i) = noted a ++ noted i
  noted (call t c) = noted_in_call c
  noted (if_else t e b c) = noted e ++ noted_in_block b ++ noted_in_maybe_block c
  noted (when t e es) = noted_in_maybe e ++ noted_in_entries es
  noted (try_catch t b cs f) = noted_in_block b ++ noted_in_catches cs ++ noted_in_maybe_block f
  noted (throw t e) = noted e
  noted (return t e) = noted_in_maybe e
  noted (break t) = []
  noted (continue t) = []
  noted (lambda t n f) = noted_in_lambda f

  -- the literal, and what stands in it but for its locals
  pub noted_in_lambda : FunForm → List Noted
  noted_in_lambda (fun at suspends captures parameters locals t ss) =
      a_lambda (fun at suspends captures parameters locals t ss) ∷ but_locals (noted_in_statements ss)

  pub noted_in_all : ExpressionForms → List Noted
  noted_in_all expressions_end = []
  noted_in_all (expression_then e es) = noted e ++ noted_in_all es

  pub noted_in_maybe : MaybeExpression → List Noted
  noted_in_maybe no_expression = []
  noted_in_maybe (some_expression e) = noted e

  pub noted_in_parts : PartForms → List Noted
  noted_in_parts parts_end = []
  noted_in_parts (part_then p ps) = noted_in_part p ++ noted_in_parts ps

  pub noted_in_part : PartForm → List Noted
  noted_in_part (text t) = a_text (units_of t) ∷ []
  noted_in_part (printed e) = noted e

  pub noted_in_receiver : ReceiverForm → List Noted
  noted_in_receiver implicit = []
  noted_in_receiver (plain e) = noted e
  noted_in_receiver (safe e) = noted e

  pub noted_in_call : CallForm → List Noted
  noted_in_call (call_of c ts es suspends at) = noted_in_callee c ++ noted_in_all es

  pub noted_in_callee : CalleeForm → List Noted
  noted_in_callee (function f) = []
  noted_in_callee (constructor_of c) = []
  noted_in_callee (method r c f) = noted_in_receiver r
  noted_in_callee (value e named) = noted e
  noted_in_callee (built_in b) = []
  noted_in_callee (built_in_method r b) = noted_in_receiver r

  pub noted_in_entries : EntryForms → List Noted
  noted_in_entries entries_end = []
  noted_in_entries (entry_then e es) = noted_in_entry e ++ noted_in_entries es

  pub noted_in_entry : EntryForm → List Noted
  noted_in_entry (entry cs b) = noted_in_conditions cs ++ noted_in_block b

  pub noted_in_conditions : ConditionForms → List Noted
  noted_in_conditions conditions_end = []
  noted_in_conditions (condition_then c cs) = noted_in_condition c ++ noted_in_conditions cs

  pub noted_in_condition : ConditionForm → List Noted
  noted_in_condition (equals e) = noted e
  noted_in_condition (holds e) = noted e
  noted_in_condition (of_type not t) = []

  pub noted_in_catches : CatchForms → List Noted
  noted_in_catches catches_end = []
  noted_in_catches (catch_then c cs) = noted_in_catch c ++ noted_in_catches cs

  -- the caught exception is a local of the body
  pub noted_in_catch : CatchForm → List Noted
  noted_in_catch (catch n c b) = a_local ∷ [] ++ noted_in_block b

  pub noted_in_block : BlockForm → List Noted
  noted_in_block (block ss e) = noted_in_statements ss ++ noted_in_maybe e

  pub noted_in_maybe_block : MaybeBlock → List Noted
  noted_in_maybe_block no_block = []
  noted_in_maybe_block (some_block b) = noted_in_block b

  pub noted_in_statements : StatementForms → List Noted
  noted_in_statements statements_end = []
  noted_in_statements (statement_then s ss) = noted_in_statement s ++ noted_in_statements ss

  -- a local begins behind its initialiser, a loop variable behind the bounds
  pub noted_in_statement : StatementForm → List Noted
  noted_in_statement (declare at n e) = noted_in_maybe e ++ a_local ∷ []
  noted_in_statement (assign at x o e) = noted_in_target x ++ noted e
  noted_in_statement (step at x o w) = noted_in_target x
  noted_in_statement (while at e b) = noted e ++ noted_in_block b
  noted_in_statement (do_while at b e) = noted_in_block b ++ noted e
  noted_in_statement (for at n a o c b) = noted a ++ noted c ++ a_local ∷ [] ++ noted_in_block b
  noted_in_statement (evaluate at e) = noted e
  noted_in_statement (superclass at es) = noted_in_all es
  noted_in_statement (initialize at n e) = noted e
  noted_in_statement (result at e) = noted e
  noted_in_statement (end at) = []

  pub noted_in_target : TargetForm → List Noted
  noted_in_target (local_target n) = []
  noted_in_target (captured_target n) = []
  noted_in_target (property_target r p) = noted_in_receiver r
  noted_in_target (element_target a i) = noted a ++ noted i

-- How many locals are among what is noted, the texts, and the lambda bodies.

abbrev pub locals_among : List Noted → ℕ
locals_among [] = 0
locals_among (a_local ∷ rest) = suc (locals_among rest)
locals_among (a_text t ∷ rest) = locals_among rest
locals_among (a_lambda f ∷ rest) = locals_among rest

abbrev pub texts_among : List Noted → List (List ℕ)
texts_among [] = []
texts_among (a_local ∷ rest) = texts_among rest
texts_among (a_text t ∷ rest) = t ∷ texts_among rest
texts_among (a_lambda f ∷ rest) = texts_among rest

abbrev pub lambdas_among : List Noted → List FunForm
lambdas_among [] = []
lambdas_among (a_local ∷ rest) = lambdas_among rest
lambdas_among (a_text t ∷ rest) = lambdas_among rest
lambdas_among (a_lambda f ∷ rest) = f ∷ lambdas_among rest
