-- What is known at a place, as the rules speak of it.
use Rattle.std.specs.Prelude.{ℕ, List, [], ◌∷◌, map}
use Rattle.kt_types_tree.specs.Types.{TypeForm, type_form}
use Rattle.kt_typed.specs.declared.bodies.TypedKind.{TypedKind}
use Rattle.kt_typed.specs.declared.bodies.Callee.TheFolds.{fold-TypedKind}
use Rattle.kt_typed.specs.Bodies.{ExpressionForm, CalleeForm, ReceiverForm, TargetForm, ConditionForm, OfKind, PartForm, OfStatementKind, BlockForm, CallForm, CatchForm, EntryForm, FunForm, StatementForm}
use Rattle.kt_typed.specs.Bodies.{callee_seen, receiver_seen, target_seen, condition_seen, kind_seen, part_seen, statement_kind_seen, block_seen, call_seen, catch_seen, entry_seen, expression_seen, fun_seen, statement_seen}
use Rattle.kt_typed.specs.Headers.{headers_form}
use Rattle.kt_typed.specs.Operators.{local_form}
use Rattle.kt_decls_types.specs.Scopes.{class_named}
use Rattle.kt_flow.specs.Rows.{facts_form}
use Rattle.kt_check_rules.specs.States.{Context, State, Book, Named}
use Rattle.kt_check_rules.specs.Typings as rules
use Rattle.kt_check_names.specs.declared.context.BodyContext.{BodyContext}
use Rattle.kt_check_names.specs.declared.known.Known.{Known}
use Rattle.kt_check_names.specs.declared.purposes.Purpose.{Purpose}
use Rattle.kt_check_names.specs.declared.purposes.Purpose.TheVariants as purpose
use Rattle.kt_check_names.specs.declared.purposes.Candidates.{Candidates}
use Rattle.kt_check_names.specs.declared.scopes.NamedLocal.{NamedLocal}
use Rattle.kt_check_names.specs.declared.scopes.Frames.{Frames, Top, Inside'}

abbrev pub context_form : BodyContext → Context
context_form c =
    record {
      headers = headers_form c.headers.now;
      classes = class_named c.classes.now;
      type_parameters = c.type_parameters.now;
      result = type_form c.gives.now;
      is_suspend = c.is_suspend;
    }

abbrev pub named_form : NamedLocal → Named
named_form l = record { name = l.name; number = l.number }

-- the names of a scope, which stand in the order of the text, before those of the scopes round it
abbrev pub scope_in : List NamedLocal → List Named → List Named
scope_in [] outer = outer
scope_in (l ∷ ls) outer = scope_in ls (named_form l ∷ outer)

abbrev pub declared_in : List NamedLocal → List (List ℕ) → List (List ℕ)
declared_in [] outer = outer
declared_in (l ∷ ls) outer = declared_in ls (l.name ∷ outer)

-- all names that may mean a local, the innermost first
abbrev pub scope_of : Frames → List Named
scope_of Top = []
scope_of (Inside' names p outer) = scope_in names.now (scope_of outer)

-- those that the innermost scope declares
abbrev pub declared_of : Frames → List (List ℕ)
declared_of Top = []
declared_of (Inside' names p outer) = declared_in names.now []

abbrev pub book_form : Known → Book
book_form k =
    record {
      locals = map local_form k.locals;
      breaks = map facts_form k.breaks;
      continues = map facts_form k.continues;
    }

abbrev pub state_of : List Named → List (List ℕ) → ℕ → Known → State
state_of scope declared outside k =
    record {
      scope = scope;
      declared = declared;
      outside = outside;
      facts = facts_form k.facts;
      book = book_form k;
    }

-- what is known at a place in these scopes
abbrev pub state_form : Frames → ℕ → Known → State
state_form f outside k = state_of (scope_of f) (declared_of f) outside k

abbrev pub use_form : Purpose → rules.Use
use_form purpose.Unused = rules.unused
use_form purpose.AsValue = rules.as_value
use_form (purpose.Meeting t) = rules.meeting (type_form t.now)

-- a kind of expression waits for its type
abbrev pub kind_form : TypedKind → OfKind
kind_form =
    fold-TypedKind CalleeForm ReceiverForm TargetForm ConditionForm OfKind PartForm OfStatementKind BlockForm
    CallForm CatchForm EntryForm ExpressionForm FunForm StatementForm callee_seen receiver_seen target_seen
    condition_seen kind_seen part_seen statement_kind_seen block_seen call_seen catch_seen entry_seen
    expression_seen fun_seen statement_seen

abbrev pub candidates_form : Candidates → List ExpressionForm
candidates_form c = map (kind_form c.kind) (map type_form c.types)
