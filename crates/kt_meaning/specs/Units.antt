-- What a unit means: how bodies are entered, and what a coroutine of the unit does.
use Rattle.std.specs.Prelude.{ℕ, zero, suc, Bool, false, ◌&&◌, ◌==◌, List, [], ◌∷◌, ◌++◌, length, map, drop, Option, Some, None, option_map, option_and_then, unwrap_or, slice_get, codes}
use Rattle.std.specs.List.{position_from}
use Rattle.kt_base.specs.declared.lumps.Lump.{Lump}
use Rattle.kt_base.specs.declared.events.Event.{Event}
use Rattle.kt_base.specs.declared.events.Answer.{Answer}
use Rattle.kt_base.specs.declared.events.End.{End}
use Rattle.kt_base.specs.declared.events.End.TheVariants as the_end
use Rattle.kt_base.specs.declared.events.Start.{Start}
use Rattle.kt_base.specs.declared.events.Start.TheVariants as start
use Rattle.kt_base.specs.Meaning.{Course, Program}
use Rattle.kt_typed.specs.Bodies.{FunForm, fun, superclass, StatementForms, statement_then}
use Rattle.kt_typed.specs.Headers.{FunctionForm, ClassParameterForm}
use Rattle.kt_typed.specs.Order.{lambdas}
use Rattle.kt_typed.specs.Units.{UnitForm}
use Rattle.kt_values.specs.Values as v
use Rattle.kt_values.specs.Values.{Value, Object, instance, listed}
use Rattle.kt_values.specs.Runs.{Store, Stop, turns_spent, numbers_spent, asks, unfit, bound_met, Run, Gives, gave, thrown, returned, broken, continued, stopped, ◌>>=◌, ◌>>◌, give, stop, or_unfit, charge}
use Rattle.kt_values.specs.Heap.{object_of}
use Rattle.kt_meaning.specs.Classes.{same_text, class_at, class_name, blank}
use Rattle.kt_meaning.specs.Activations.{Called, of_function, of_member, of_constructor, of_lambda, generated_equals, generated_to_string, Callee, Activation}
use Rattle.kt_meaning.specs.Variables.{is_shared_in, receiver_in}
use Rattle.kt_meaning.specs.Equality.{data_equal}
use Rattle.kt_meaning.specs.Printing.{data_text}
use Rattle.kt_meaning.specs.Lumps.{imported}
use Rattle.kt_meaning.specs.Calls.{initialized}
use Rattle.kt_meaning.specs.Eval.{act, act_all}

-- a body that is entered: what it sees, and itself
pub record Entered : Type 0 where
  pub here : Activation
  pub body : FunForm

-- what stands in the locals of a body until they are assigned
abbrev pub blanks_of : FunForm → List Value
blanks_of (fun at suspends captures parameters locals result statements) = map (λ l. blank l.declared) locals

-- what a body sees
abbrev pub within : UnitForm → Callee → ℕ → Value → ℕ → List Value → FunForm → Entered
within u call bound receiver class captures f =
    record {
      here = record {
        unit = u;
        call = call;
        bound = bound;
        receiver = receiver;
        class = class;
        captures = captures;
        blanks = blanks_of f;
        is_shared = is_shared_in f;
      };
      body = f;
    }

-- a body's value: that of `return`, and `Unit` at its end. The caller's variables are as they were
abbrev pub finished : List Value → Gives (Unit {0}) → Gives Value
finished caller (gave done s) = gave v.unit (record s { variables = caller })
finished caller (returned x s) = gave x (record s { variables = caller })
finished caller (thrown x s) = thrown x (record s { variables = caller })
finished caller (broken s) = stopped unfit s.world
finished caller (continued s) = stopped unfit s.world
finished caller (stopped why w) = stopped why w

-- a body runs on variables of its own: the arguments, and its other locals
abbrev pub on_own_variables : List Value → Run (Unit {0}) → Run Value
on_own_variables variables code s = finished s.variables (code (record s { variables = variables }))

abbrev pub variables_of : FunForm → List Value → List Value
variables_of f arguments = arguments ++ drop (length arguments) (blanks_of f)

abbrev pub statements_of : FunForm → StatementForms
statements_of (fun at suspends captures parameters locals result statements) = statements

abbrev pub runs : Entered → List Value → Run Value
runs e arguments = on_own_variables (variables_of e.body arguments) (act_all e.here (statements_of e.body))

-- Constructors (Kotlin specification, "Classifier initialization"): the superclass, then the properties that parameters
-- declare, then the initialisers in order.

abbrev pub stored : Activation → Option ℕ → Value → Run (Unit {0})
stored here None x = give tt
stored here (Some place) x = initialized here place x

abbrev pub all_stored : Activation → List ClassParameterForm → List Value → Run (Unit {0})
all_stored here [] arguments = give tt
all_stored here (p ∷ ps) [] = stop unfit
all_stored here (p ∷ ps) (x ∷ xs) = stored here p.property x >> all_stored here ps xs

abbrev pub built_by : Activation → Run (Unit {0}) → StatementForms → Run (Unit {0})
built_by here store (statement_then (superclass at es) rest) =
    act here (superclass at es) >> store >> act_all here rest
built_by here store statements = store >> act_all here statements

abbrev pub builds : Entered → List ClassParameterForm → List Value → Run Value
builds e parameters arguments =
    on_own_variables (variables_of e.body arguments)
    (built_by e.here (all_stored e.here parameters arguments) (statements_of e.body))

-- The bodies of a unit.

abbrev pub flat : {A : Type 0} → Option (Option A) → Option A
flat (Some found) = found
flat None = None

abbrev pub function_body : UnitForm → ℕ → Option FunForm
function_body u n = slice_get u.functions n

abbrev pub member_body : UnitForm → ℕ → ℕ → Option FunForm
member_body u c place = flat (option_and_then (λ k. slice_get k.functions place) (slice_get u.classes c))

abbrev pub constructor_body : UnitForm → ℕ → Option FunForm
constructor_body u c = option_and_then (λ k. k.constructor) (slice_get u.classes c)

abbrev pub class_parameters : UnitForm → ℕ → List ClassParameterForm
class_parameters u c = unwrap_or (option_map (λ k. k.parameters) (class_at u c)) []

abbrev pub lambda_receiver : FunForm → List Value → Value
lambda_receiver (fun at suspends captures parameters locals result statements) taken = receiver_in captures taken

-- a generated function has no body of its own, and the one argument of `equals`
abbrev pub generated : UnitForm → Callee → ℕ → Activation
generated u call bound =
    record {
      unit = u;
      call = call;
      bound = bound;
      receiver = v.null;
      class = 0;
      captures = [];
      blanks = [];
      is_shared = λ n. false;
    }

abbrev pub generated_equal : Activation → ℕ → Value → List Value → Run Value
generated_equal here c x (y ∷ []) = data_equal here c x y >>= λ same. give (v.truth same)
generated_equal here c x _ = stop unfit

-- what is called, with its arguments
abbrev pub called : UnitForm → Callee → ℕ → Called → List Value → Run Value
called u call bound (of_function n) arguments =
    or_unfit (function_body u n) >>= λ f. runs (within u call bound v.null 0 [] f) arguments
called u call bound (of_member c place x) arguments =
    or_unfit (member_body u c place) >>= λ f. runs (within u call bound x c [] f) arguments
called u call bound (of_constructor c x) arguments =
    or_unfit (constructor_body u c) >>= λ f.
    builds (within u call bound x c [] f) (class_parameters u c) arguments
called u call bound (of_lambda n taken) arguments =
    or_unfit (slice_get (lambdas u) n) >>= λ f.
    runs (within u call bound (lambda_receiver f taken) 0 taken f) arguments
called u call bound (generated_equals c x) arguments = generated_equal (generated u call bound) c x arguments
called u call bound (generated_to_string c x) arguments =
    data_text (generated u call bound) c x >>= λ t. give (v.text t)

-- a call takes a turn at its entry. Calls go at most so deep, and loops make at most so many turns; since each of them
-- takes a turn, a bound that is not below the turns that are left is never met
unfoldable pub calls : UnitForm → ℕ → Callee
calls u zero c arguments = charge >> stop bound_met
calls u (suc n) c arguments = charge >> called u (calls u n) n c arguments

-- Coroutines.

abbrev pub is_main : FunctionForm → Bool
is_main f = same_text f.name (codes "main") && (length f.parameters == 0)

abbrev pub main_of : UnitForm → Option ℕ
main_of u = position_from is_main 0 u.headers.functions

-- the lambda that was launched
abbrev pub launched : UnitForm → ℕ → Value → Run Value
launched u turns (v.closure n taken) = calls u turns (of_lambda n (listed taken)) []
launched u turns _ = stop unfit

abbrev pub run_from : UnitForm → ℕ → Start → Run Value
run_from u turns start.Main = or_unfit (main_of u) >>= λ n. calls u turns (of_function n) []
run_from u turns (start.Launched lump) = imported u lump >>= launched u turns

-- at the start there are no variables, no objects and no events
abbrev pub fresh : List (Answer Lump) → ℕ → Store
fresh answers turns =
    record { variables = []; heap = []; world = record { answers = answers; events = []; turns = turns } }

-- an exception that no class has stands for code that met what no typed program meets
abbrev pub not_typed : End
not_typed = the_end.Uncaught [] None

abbrev pub message_in : Option Object → Option (List ℕ)
message_in None = None
message_in (Some o) = text_in (slice_get o.slots 0)
  where
    text_in : Option Value → Option (List ℕ)
    text_in (Some (v.text t)) = Some t
    text_in _ = None

-- an exception that left the coroutine: the name of its class, and its message
abbrev pub uncaught : UnitForm → List Object → Value → End
uncaught u heap (v.reference (instance c) place) =
    the_end.Uncaught (class_name u c) (message_in (object_of heap (v.reference (instance c) place)))
uncaught u heap _ = not_typed

abbrev pub ended : List (Event Lump) → End → Course
ended events why = record { events = events; end = Some why }

abbrev pub stopped_course : Stop → List (Event Lump) → Course
stopped_course turns_spent events = ended events the_end.TurnsSpent
stopped_course numbers_spent events = ended events the_end.NumbersSpent
stopped_course (asks event) events = record { events = events ++ event ∷ []; end = None }
stopped_course unfit events = ended events not_typed
stopped_course bound_met events = ended events not_typed

-- the events of a run, and its end, where no event waits
abbrev pub course_of : UnitForm → Gives Value → Course
course_of u (gave x s) = ended s.world.events the_end.Returned
course_of u (thrown x s) = ended s.world.events (uncaught u s.heap x)
course_of u (returned x s) = ended s.world.events not_typed
course_of u (broken s) = ended s.world.events not_typed
course_of u (continued s) = ended s.world.events not_typed
course_of u (stopped why w) = stopped_course why w.events

-- what a coroutine of the unit does, with so many turns
abbrev pub direct : UnitForm → ℕ → Program
direct u turns start answers = course_of u (run_from u turns start (fresh answers turns))
