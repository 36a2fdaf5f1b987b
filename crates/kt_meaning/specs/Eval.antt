-- What each expression and each statement does: one clause a form, in which what its parts do is put together by the
-- rule of its chapter.
use Rattle.std.specs.Prelude.{ℕ, Bool, true, false, List, [], ◌∷◌, ◌++◌, Some, None, slice_get}
use Rattle.kt_typed.specs.declared.operators.TypedLiteral.TheVariants as the_literal
use Rattle.kt_typed.specs.Bodies.{ExpressionForm, literal, template, local, captured, this, constant, enum_entry, property, prefix, binary, type_test, cast, not_null, index, call, if_else, when, try_catch, throw, return, break, continue, lambda}
use Rattle.kt_typed.specs.Bodies.{ExpressionForms, expressions_end, expression_then, MaybeExpression, no_expression, some_expression, PartForm, text, printed, PartForms, parts_end, part_then}
use Rattle.kt_typed.specs.Bodies.{ReceiverForm, implicit, plain, safe, CallForm, call_of, CalleeForm, function, constructor_of, method, value, built_in, built_in_method}
use Rattle.kt_typed.specs.Bodies.{EntryForm, entry, EntryForms, entries_end, entry_then, ConditionForm, equals, holds, of_type, ConditionForms, conditions_end, condition_then}
use Rattle.kt_typed.specs.Bodies.{CatchForm, catch, CatchForms, catches_end, catch_then, BlockForm, block, MaybeBlock, no_block, some_block, StatementForm, declare, assign, step, while, do_while, for, evaluate, superclass, initialize, result, end}
use Rattle.kt_typed.specs.Bodies.{StatementForms, statements_end, statement_then, TargetForm, local_target, captured_target, property_target, element_target}
use Rattle.kt_values.specs.Values as v
use Rattle.kt_values.specs.Values.{Value}
use Rattle.kt_values.specs.Runs.{Run, ◌>>=◌, ◌>>◌, give, throws, returns, or_unfit, charge}
use Rattle.kt_meaning.specs.Activations.{Activation, of_function}
use Rattle.kt_meaning.specs.Types.{cast_to, asserted}
use Rattle.kt_meaning.specs.Variables.{read_local, read_captured, set_local_slot, declared, lambda_value}
use Rattle.kt_meaning.specs.Literals.{literal_value, constant_value}
use Rattle.kt_meaning.specs.Equality.{compared}
use Rattle.kt_meaning.specs.Printing.{text_of, joined, units_of}
use Rattle.kt_meaning.specs.Operators.{prefixed, stepped, applied, operation}
use Rattle.kt_meaning.specs.Access.{read_property, element}
use Rattle.kt_meaning.specs.Assignments.{Place, in_local, in_captured, in_property, in_element, read_place, write_place}
use Rattle.kt_meaning.specs.Conditionals.{branch, tested, unless_null}
use Rattle.kt_meaning.specs.Loops.{while_loop, do_loop, over_range}
use Rattle.kt_meaning.specs.Exceptions.{fits_catch, caught_by, with_last, breaks, continues}
use Rattle.kt_meaning.specs.Calls.{constructed, built_above, initialized, called_on, called_value}
use Rattle.kt_meaning.specs.BuiltIns.{call_built_in, call_built_in_on}

-- the literal `null`
abbrev pub is_null_literal : ExpressionForm → Bool
is_null_literal (literal t the_literal.Null) = true
is_null_literal _ = false

-- an operand of a comparison
abbrev pub compares_null : ExpressionForm → ExpressionForm → Bool
compares_null a b = either (is_null_literal a) (is_null_literal b)
  where
    either : Bool → Bool → Bool
    either true other = true
    either false other = other

module _ (here : Activation) where
  abbrev mutual
    -- Expressions.

    pub value_of : ExpressionForm → Run Value
    value_of (literal t l) = give (literal_value l)
    value_of (template t ps) = text_of_parts [] ps
    value_of (local t n) = read_local n
    value_of (captured t n) = read_captured here n
    value_of (this t) = give here.receiver
    value_of (constant t n) = constant_value here.unit n
    value_of (enum_entry t c n) = charge >> give (v.entry c n)
    value_of (property t r p) = on_receiver r (read_property here.unit p)
    value_of (prefix t o e) = value_of e >>= prefixed o
    value_of (binary t o a b) = operation here o (compares_null a b) (value_of a) (value_of b)
    value_of (type_test t e not u) = value_of e >>= λ x. give (v.truth (tested here.unit not u x))
    value_of (cast t e or_null u) = value_of e >>= cast_to here.unit or_null u
    value_of (not_null t e) = value_of e >>= asserted
    value_of (index t a i) = value_of a >>= λ x. value_of i >>= element x
    value_of (call t c) = value_of_call c
    value_of (if_else t e b c) = value_of e >>= branch (value_of_block b) (value_of_maybe_block c)
    value_of (when t e es) = value_of_maybe e >>= value_of_entries es
    value_of (try_catch t b cs no_block) = caught_by (value_of_block b) (value_of_catches cs)
    value_of (try_catch t b cs (some_block f)) =
        with_last (caught_by (value_of_block b) (value_of_catches cs)) (value_of_block f)
    value_of (throw t e) = value_of e >>= throws
    value_of (return t e) = value_of_maybe e >>= returns
    value_of (break t) = breaks
    value_of (continue t) = continues
    value_of (lambda t n f) = lambda_value here n f

    -- of an expression that isn't there, `Unit`
    pub value_of_maybe : MaybeExpression → Run Value
    value_of_maybe no_expression = give v.unit
    value_of_maybe (some_expression e) = value_of e

    -- from left to right, behind those that are evaluated
    pub values_of : List Value → ExpressionForms → Run (List Value)
    values_of done expressions_end = give done
    values_of done (expression_then e es) = value_of e >>= λ x. values_of (done ++ x ∷ []) es

    -- the parts of a string, behind the text of those before. Each becomes a text before the next one is evaluated
    pub text_of_parts : List ℕ → PartForms → Run Value
    text_of_parts done parts_end = give (v.text done)
    text_of_parts done (part_then p ps) =
        text_of_part p >>= λ t. joined done t >>= λ more. text_of_parts more ps

    pub text_of_part : PartForm → Run (List ℕ)
    text_of_part (text t) = give (units_of t)
    text_of_part (printed e) = value_of e >>= text_of here

    -- what is done with a receiver; behind `?.` nothing is done with null
    pub on_receiver : ReceiverForm → (Value → Run Value) → Run Value
    on_receiver implicit go = go here.receiver
    on_receiver (plain e) go = value_of e >>= go
    on_receiver (safe e) go = value_of e >>= unless_null go

    pub value_of_call : CallForm → Run Value
    value_of_call (call_of c ts es suspends at) = value_of_callee c (values_of [] es)

    -- what is called, then the arguments, then the call
    pub value_of_callee : CalleeForm → Run (List Value) → Run Value
    value_of_callee (function f) arguments = arguments >>= here.call (of_function f)
    value_of_callee (constructor_of c) arguments = arguments >>= constructed here c
    value_of_callee (method r c f) arguments = on_receiver r (λ x. arguments >>= called_on here c f x)
    value_of_callee (value e named) arguments = value_of e >>= λ x. arguments >>= called_value here x
    value_of_callee (built_in b) arguments = arguments >>= call_built_in here b
    value_of_callee (built_in_method r b) arguments = on_receiver r (λ x. arguments >>= call_built_in_on here b x)

    -- Branches of `when`, in order; `else` is the entry without conditions.

    pub value_of_entries : EntryForms → Value → Run Value
    value_of_entries entries_end subject = give v.unit
    value_of_entries (entry_then e es) subject = value_of_entry e subject (value_of_entries es subject)

    pub value_of_entry : EntryForm → Value → Run Value → Run Value
    value_of_entry (entry conditions_end b) subject otherwise = value_of_block b
    value_of_entry (entry (condition_then c cs) b) subject otherwise =
        is_met c subject >>= branch (value_of_block b)
        (is_any_met cs subject >>= branch (value_of_block b) otherwise)

    pub is_any_met : ConditionForms → Value → Run Value
    is_any_met conditions_end subject = give (v.truth false)
    is_any_met (condition_then c cs) subject =
        is_met c subject >>= branch (give (v.truth true)) (is_any_met cs subject)

    pub is_met : ConditionForm → Value → Run Value
    is_met (equals e) subject =
        value_of e >>= λ x. compared here (is_null_literal e) subject x >>= λ same. give (v.truth same)
    is_met (holds e) subject = value_of e
    is_met (of_type not t) subject = give (v.truth (tested here.unit not t subject))

    -- Catches, in order; an exception that none fits goes on.

    pub value_of_catches : CatchForms → Value → Run Value
    value_of_catches catches_end x = throws x
    value_of_catches (catch_then c cs) x = value_of_catch c x (value_of_catches cs x)

    pub value_of_catch : CatchForm → Value → Run Value → Run Value
    value_of_catch (catch n c b) x otherwise =
        branch (set_local_slot n x >> value_of_block b) otherwise (v.truth (fits_catch here.unit c x))

    -- Blocks.

    pub value_of_block : BlockForm → Run Value
    value_of_block (block ss e) = act_all ss >> value_of_maybe e

    pub value_of_maybe_block : MaybeBlock → Run Value
    value_of_maybe_block no_block = give v.unit
    value_of_maybe_block (some_block b) = value_of_block b

    -- Statements.

    pub act_all : StatementForms → Run (Unit {0})
    act_all statements_end = give tt
    act_all (statement_then s ss) = act s >> act_all ss

    pub act : StatementForm → Run (Unit {0})
    act (declare at n no_expression) = or_unfit (slice_get here.blanks n) >>= declared here n
    act (declare at n (some_expression e)) = value_of e >>= declared here n
    act (assign at x None e) = place_of x >>= λ p. value_of e >>= write_place here p
    act (assign at x (Some o) e) =
        place_of x >>= λ p. read_place here p >>= λ old.
        value_of e >>= λ y. applied here o false old y >>= write_place here p
    act (step at x o w) = place_of x >>= λ p. read_place here p >>= λ old. stepped o w old >>= write_place here p
    act (while at e b) = while_loop here.bound (value_of e) (value_of_block b)
    act (do_while at b e) = do_loop here.bound (value_of_block b) (value_of e)
    act (for at n a o c b) =
        value_of a >>= λ first. value_of c >>= over_range here.bound n o (value_of_block b) first
    act (evaluate at e) = value_of e >> give tt
    act (superclass at es) = values_of [] es >>= built_above here
    act (initialize at n e) = value_of e >>= initialized here n
    act (result at e) = value_of e >>= returns
    act (end at) = give tt

    -- what is assigned to
    pub place_of : TargetForm → Run Place
    place_of (local_target n) = give (in_local n)
    place_of (captured_target n) = give (in_captured n)
    place_of (property_target r p) = object_of_target r >>= λ x. give (in_property p x)
    place_of (element_target a i) = value_of a >>= λ x. value_of i >>= λ y. give (in_element x y)

    pub object_of_target : ReceiverForm → Run Value
    object_of_target implicit = give here.receiver
    object_of_target (plain e) = value_of e
    object_of_target (safe e) = value_of e
