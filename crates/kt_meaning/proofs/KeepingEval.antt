-- Each expression and each statement keeps what code keeps.
use Rattle.std.proofs.Common.{ℕ, List, [], ◌∷◌, ◌++◌, Some, None, false, true}
use Rattle.std.specs.Prelude.{slice_get}
use Rattle.kt_typed.specs.Bodies.{ExpressionForm, literal, template, local, captured, this, constant, enum_entry, property, prefix, binary, type_test, cast, not_null, index, call, if_else, when, try_catch, throw, return, break, continue, lambda}
use Rattle.kt_typed.specs.Bodies.{ExpressionForms, expressions_end, expression_then, MaybeExpression, no_expression, some_expression, PartForm, text, printed, PartForms, parts_end, part_then}
use Rattle.kt_typed.specs.Bodies.{ReceiverForm, implicit, plain, safe, CallForm, call_of, CalleeForm, function, constructor_of, method, value, built_in, built_in_method}
use Rattle.kt_typed.specs.Bodies.{EntryForm, entry, EntryForms, entries_end, entry_then, ConditionForm, equals, holds, of_type, ConditionForms, conditions_end, condition_then}
use Rattle.kt_typed.specs.Bodies.{CatchForm, catch, CatchForms, catches_end, catch_then, BlockForm, block, MaybeBlock, no_block, some_block, StatementForm, declare, assign, step, while, do_while, for, evaluate, superclass, initialize, result, end}
use Rattle.kt_typed.specs.Bodies.{StatementForms, statements_end, statement_then, TargetForm, local_target, captured_target, property_target, element_target}
use Rattle.kt_values.specs.Values as v
use Rattle.kt_values.specs.Values.{Value}
use Rattle.kt_values.specs.Runs.{Run}
use Rattle.kt_values.proofs.Keeping.{Keeps, binds, follows, gives, throws_keeps, returns_keeps, or_unfit_keeps, charge_keeps}
use Rattle.kt_meaning.specs.Activations.{Activation, Called, of_function}
use Rattle.kt_meaning.specs.Printing.{units_of}
use Rattle.kt_meaning.specs.Literals.{literal_value}
use Rattle.kt_meaning.specs.Assignments.{in_local, in_captured, in_property, in_element}
use Rattle.kt_meaning.specs.Conditionals.{tested}
use Rattle.kt_meaning.specs.Exceptions.{fits_catch}
use Rattle.kt_meaning.specs.Eval.{is_null_literal, compares_null, value_of, value_of_maybe, values_of, text_of_parts, text_of_part, on_receiver, value_of_call, value_of_callee, value_of_entries, value_of_entry, is_any_met, is_met, value_of_catches, value_of_catch, value_of_block, value_of_maybe_block, act_all, act, place_of, object_of_target}
use Rattle.kt_meaning.proofs.KeepingParts as parts
use Rattle.kt_meaning.proofs.KeepingParts.{cast_keeps, asserted_keeps, read_local_keeps, read_captured_keeps, set_local_keeps, declared_keeps, lambda_keeps, read_property_keeps, element_keeps, read_place_keeps, write_place_keeps, branch_keeps, unless_null_keeps, while_loop_keeps, do_loop_keeps, over_range_keeps, caught_keeps, with_last_keeps, breaks_keeps, continues_keeps, joined_keeps, reflexive}

module _ (n : ℕ) (here : Activation) (calls_keep : (c : Called) (xs : List Value) → Keeps n here.bound
    (here.call c xs)) where
  mutual
    pub value_keeps : (e : ExpressionForm) → Keeps n here.bound (value_of here e)
    value_keeps (literal t l) = gives (literal_value l)
    value_keeps (template t ps) = parts_keep [] ps
    value_keeps (local t i) = read_local_keeps i
    value_keeps (captured t i) = read_captured_keeps here i
    value_keeps (this t) = gives here.receiver
    value_keeps (constant t i) = or_unfit_keeps _
    value_keeps (enum_entry t c i) = follows charge_keeps (gives (v.entry c i))
    value_keeps (property t r p) = receiver_keeps r (λ x. read_property_keeps here.unit p x)
    value_keeps (prefix t o e) = binds (value_keeps e) (parts.prefixed_keeps n here.bound here calls_keep o)
    value_keeps (binary t o a b) =
        parts.operation_keeps n here.bound here calls_keep o (compares_null a b) (value_keeps a) (value_keeps b)
    value_keeps (type_test t e not u) = binds (value_keeps e) (λ x. gives (v.truth (tested here.unit not u x)))
    value_keeps (cast t e or_null u) = binds (value_keeps e) (cast_keeps here.unit or_null u)
    value_keeps (not_null t e) = binds (value_keeps e) asserted_keeps
    value_keeps (index t a i) = binds (value_keeps a) (λ x. binds (value_keeps i) (element_keeps x))
    value_keeps (call t c) = call_keeps c
    value_keeps (if_else t e b c) = binds (value_keeps e) (λ x. branch_keeps x (block_keeps b) (maybe_block_keeps c))
    value_keeps (when t e es) = binds (maybe_keeps e) (entries_keep es)
    value_keeps (try_catch t b cs no_block) = caught_keeps (block_keeps b) (catches_keep cs)
    value_keeps (try_catch t b cs (some_block f)) =
        with_last_keeps (caught_keeps (block_keeps b) (catches_keep cs)) (block_keeps f)
    value_keeps (throw t e) = binds (value_keeps e) throws_keeps
    value_keeps (return t e) = binds (maybe_keeps e) returns_keeps
    value_keeps (break t) = breaks_keeps
    value_keeps (continue t) = continues_keeps
    value_keeps (lambda t i f) = lambda_keeps here i f

    maybe_keeps : (e : MaybeExpression) → Keeps n here.bound (value_of_maybe here e)
    maybe_keeps no_expression = gives v.unit
    maybe_keeps (some_expression e) = value_keeps e

    values_keep : (done : List Value) (es : ExpressionForms) → Keeps n here.bound (values_of here done es)
    values_keep done expressions_end = gives done
    values_keep done (expression_then e es) = binds (value_keeps e) (λ x. values_keep (done ++ x ∷ []) es)

    parts_keep : (done : List ℕ) (ps : PartForms) → Keeps n here.bound (text_of_parts here done ps)
    parts_keep done parts_end = gives (v.text done)
    parts_keep done (part_then p ps) =
        binds (part_keeps p) (λ t. binds (joined_keeps done t) (λ more. parts_keep more ps))

    part_keeps : (p : PartForm) → Keeps n here.bound (text_of_part here p)
    part_keeps (text t) = gives (units_of t)
    part_keeps (printed e) = binds (value_keeps e) (parts.text_of_keeps n here.bound here calls_keep)

    receiver_keeps : (r : ReceiverForm) {go : Value → Run Value} → ((x : Value) → Keeps n here.bound (go x))
        → Keeps n here.bound (on_receiver here r go)
    receiver_keeps implicit h = h here.receiver
    receiver_keeps (plain e) h = binds (value_keeps e) h
    receiver_keeps (safe e) h = binds (value_keeps e) (λ x. unless_null_keeps x h)

    call_keeps : (c : CallForm) → Keeps n here.bound (value_of_call here c)
    call_keeps (call_of c ts es suspends at) = callee_keeps c (values_keep [] es)

    callee_keeps : (c : CalleeForm) {arguments : Run (List Value)} → Keeps n here.bound arguments
        → Keeps n here.bound (value_of_callee here c arguments)
    callee_keeps (function f) h = binds h (calls_keep (of_function f))
    callee_keeps (constructor_of c) h = binds h (parts.constructed_keeps n here.bound here calls_keep c)
    callee_keeps (method r c f) h =
        receiver_keeps r (λ x. binds h (parts.called_on_keeps n here.bound here calls_keep c f x))
    callee_keeps (value e named) h =
        binds (value_keeps e) (λ x. binds h (parts.called_value_keeps n here.bound here calls_keep x))
    callee_keeps (built_in b) h = binds h (parts.call_built_in_keeps n here.bound here calls_keep b)
    callee_keeps (built_in_method r b) h =
        receiver_keeps r (λ x. binds h (parts.call_built_in_on_keeps n here.bound here calls_keep b x))

    entries_keep : (es : EntryForms) (x : Value) → Keeps n here.bound (value_of_entries here es x)
    entries_keep entries_end x = gives v.unit
    entries_keep (entry_then e es) x = entry_keeps e x (entries_keep es x)

    entry_keeps : (e : EntryForm) (x : Value) {otherwise : Run Value} → Keeps n here.bound otherwise
        → Keeps n here.bound (value_of_entry here e x otherwise)
    entry_keeps (entry conditions_end b) x h = block_keeps b
    entry_keeps (entry (condition_then c cs) b) x h =
        binds (met_keeps c x) (λ y. branch_keeps y (block_keeps b)
        (binds (any_met_keeps cs x) (λ z. branch_keeps z (block_keeps b) h)))

    any_met_keeps : (cs : ConditionForms) (x : Value) → Keeps n here.bound (is_any_met here cs x)
    any_met_keeps conditions_end x = gives (v.truth false)
    any_met_keeps (condition_then c cs) x =
        binds (met_keeps c x) (λ y. branch_keeps y (gives (v.truth true)) (any_met_keeps cs x))

    met_keeps : (c : ConditionForm) (x : Value) → Keeps n here.bound (is_met here c x)
    met_keeps (equals e) x =
        binds (value_keeps e) (λ y. binds (parts.compared_keeps n here.bound here calls_keep (is_null_literal e) x y)
        (λ same. gives (v.truth same)))
    met_keeps (holds e) x = value_keeps e
    met_keeps (of_type not t) x = gives (v.truth (tested here.unit not t x))

    catches_keep : (cs : CatchForms) (x : Value) → Keeps n here.bound (value_of_catches here cs x)
    catches_keep catches_end x = throws_keeps x
    catches_keep (catch_then c cs) x = catch_keeps c x (catches_keep cs x)

    catch_keeps : (c : CatchForm) (x : Value) {otherwise : Run Value} → Keeps n here.bound otherwise
        → Keeps n here.bound (value_of_catch here c x otherwise)
    catch_keeps (catch i c b) x h =
        branch_keeps (v.truth (fits_catch here.unit c x)) (follows (set_local_keeps i x) (block_keeps b)) h

    block_keeps : (b : BlockForm) → Keeps n here.bound (value_of_block here b)
    block_keeps (block ss e) = follows (acts_keep ss) (maybe_keeps e)

    maybe_block_keeps : (b : MaybeBlock) → Keeps n here.bound (value_of_maybe_block here b)
    maybe_block_keeps no_block = gives v.unit
    maybe_block_keeps (some_block b) = block_keeps b

    pub acts_keep : (ss : StatementForms) → Keeps n here.bound (act_all here ss)
    acts_keep statements_end = gives tt
    acts_keep (statement_then s ss) = follows (act_keeps s) (acts_keep ss)

    pub act_keeps : (s : StatementForm) → Keeps n here.bound (act here s)
    act_keeps (declare at i no_expression) = binds (or_unfit_keeps (slice_get here.blanks i)) (declared_keeps here i)
    act_keeps (declare at i (some_expression e)) = binds (value_keeps e) (declared_keeps here i)
    act_keeps (assign at x None e) =
        binds (place_keeps x) (λ p. binds (value_keeps e) (write_place_keeps here p))
    act_keeps (assign at x (Some o) e) =
        binds (place_keeps x) (λ p. binds (read_place_keeps here p) (λ old. binds (value_keeps e) (λ y.
        binds (parts.applied_keeps n here.bound here calls_keep o false old y) (write_place_keeps here p))))
    act_keeps (step at x o w) =
        binds (place_keeps x) (λ p. binds (read_place_keeps here p) (λ old.
        binds (parts.stepped_keeps n here.bound here calls_keep o w old) (write_place_keeps here p)))
    act_keeps (while at e b) = while_loop_keeps here.bound (reflexive here.bound) (value_keeps e) (block_keeps b)
    act_keeps (do_while at b e) = do_loop_keeps here.bound (reflexive here.bound) (block_keeps b) (value_keeps e)
    act_keeps (for at i a o c b) =
        binds (value_keeps a) (λ x. binds (value_keeps c) (λ y. over_range_keeps i o x y (block_keeps b)))
    act_keeps (evaluate at e) = follows (value_keeps e) (gives tt)
    act_keeps (superclass at es) = binds (values_keep [] es) (parts.built_above_keeps n here.bound here calls_keep)
    act_keeps (initialize at i e) = binds (value_keeps e) (parts.initialized_keeps n here.bound here calls_keep i)
    act_keeps (result at e) = binds (value_keeps e) returns_keeps
    act_keeps (end at) = gives tt

    place_keeps : (x : TargetForm) → Keeps n here.bound (place_of here x)
    place_keeps (local_target i) = gives (in_local i)
    place_keeps (captured_target i) = gives (in_captured i)
    place_keeps (property_target r p) = binds (target_keeps r) (λ x. gives (in_property p x))
    place_keeps (element_target a i) =
        binds (value_keeps a) (λ x. binds (value_keeps i) (λ y. gives (in_element x y)))

    target_keeps : (r : ReceiverForm) → Keeps n here.bound (object_of_target here r)
    target_keeps implicit = gives here.receiver
    target_keeps (plain e) = value_keeps e
    target_keeps (safe e) = value_keeps e
