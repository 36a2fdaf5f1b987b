-- `when`, over what comes of its parts.
use Rattle.std.specs.Prelude.{Bool, true, false, List, [], ◌∷◌, ◌++◌, Option, Some, None, find, option_map}
use Rattle.kt_types_tree.specs.Types.{TypeForm}
use Rattle.kt_typed.specs.declared.operators.TypedOperator.TheVariants as op
use Rattle.kt_typed.specs.Bodies as t
use Rattle.kt_typed.specs.Bodies.{ExpressionForm, binary, type_test, MaybeExpression, EntryForm, entry, EntryForms, entries_of, ConditionForm, equals, holds, of_type, conditions_of, BlockForm}
use Rattle.kt_flow.specs.Facts.{FactsForm}
use Rattle.kt_check_rules.specs.Choices.{pairs}
use Rattle.kt_check_rules.specs.Kinds.{boolean_type}
use Rattle.kt_check_rules.specs.States.{Context, State, hierarchy, with_facts, Path, joined, met}
use Rattle.kt_check_rules.specs.Completion.{is_exhaustive}
use Rattle.kt_check_rules.specs.Typings.{Use, unused, as_value, meeting}
use Rattle.kt_check_rules.specs.Operators.{after_test}
use Rattle.kt_check_rules.specs.Conditionals.{block_type, path_of, no_entry, shown_subject, no_subject}
use Rattle.kt_check_deciding.specs.Outcomes.{Outcome, found, none, Reading, reading, Decision, then_go, only_if, gives_if}
use Rattle.kt_check_deciding.specs.Choosing.{typed_by, are_comparable, branch_type}
use Rattle.kt_check_deciding.specs.Expressions.{Typings}
use Rattle.kt_check_deciding.specs.Access.{testable}

-- a condition, and what it asks as an expression
pub record AskForm : Type 0 where
  pub condition : ConditionForm
  pub question : ExpressionForm

abbrev pub ask : ConditionForm → ExpressionForm → AskForm
ask x u = record { condition = x; question = u }

-- over the typings of the subject
abbrev pub Ask : Type 0
Ask = List ExpressionForm → State → Outcome (Reading AskForm)

abbrev pub asked_equal : Option (ExpressionForm × ExpressionForm) → State → Outcome (Reading AskForm)
asked_equal None s = none
asked_equal (Some p) s = found (reading (ask (equals p.1) (binary boolean_type op.Equal p.0 p.1)) s)

abbrev pub equal_asks : Context → Typings → Ask
equal_asks K e us s =
    then_go (e s as_value)
    (λ r. asked_equal (find (are_comparable (hierarchy K)) (pairs us r.value)) r.behind)

abbrev pub hold_asks : Context → Typings → State → Outcome (Reading AskForm)
hold_asks K e s =
    then_go (typed_by K e s (meeting boolean_type)) (λ r. found (reading (ask (holds r.value) r.value) r.behind))

abbrev pub asks : Context → Typings → Ask
asks K e [] s = hold_asks K e s
asks K e (u ∷ us) s = equal_asks K e (u ∷ us) s

abbrev pub type_asks : Context → Bool → Option TypeForm → Ask
type_asks K is_negated meant [] s = none
type_asks K is_negated meant (u ∷ us) s =
    then_go (testable K meant)
    (λ t. found (reading (ask (of_type is_negated t) (type_test boolean_type u is_negated t)) s))

-- conditions, and what is known where one of them holds
pub record AskForms : Type 0 where
  pub conditions : List ConditionForm
  pub holding : List FactsForm

abbrev pub ask_forms : List ConditionForm → List FactsForm → AskForms
ask_forms xs fs = record { conditions = xs; holding = fs }

abbrev pub Asks : Type 0
Asks = List ExpressionForm → State → Outcome (Reading AskForms)

abbrev pub no_asks : Asks
no_asks us s = found (reading (ask_forms [] []) s)

abbrev pub ask_more : Context → Reading AskForm → AskForms → AskForms
ask_more K x ys =
    ask_forms (x.value.condition ∷ ys.conditions) (after_test K true x.value.question x.behind ∷ ys.holding)

abbrev pub ask_then : Context → Ask → Asks → Asks
ask_then K one others us s =
    then_go (one us s)
    (λ x. then_go (others us (with_facts (after_test K false x.value.question x.behind) x.behind))
    (λ y. found (reading (ask_more K x y.value) y.behind)))

-- entries, the types of their values, and the paths on which one is taken
pub record EntriesForm : Type 0 where
  pub entries : List EntryForm
  pub types : List TypeForm
  pub ways : List Path

abbrev pub entries_form : List EntryForm → List TypeForm → List Path → EntriesForm
entries_form es ts ps = record { entries = es; types = ts; ways = ps }

abbrev pub Entries : Type 0
Entries = List ExpressionForm → Decision EntriesForm

abbrev pub no_entries : Entries
no_entries us s w = found (reading (entries_form [] [] []) s)

abbrev pub entry_more : Context → AskForms → Reading BlockForm → EntriesForm → EntriesForm
entry_more K xs b ys =
    entries_form (entry (conditions_of xs.conditions) b.value ∷ ys.entries) (block_type b.value ∷ ys.types)
    (path_of K b.value b.behind ∷ ys.ways)

abbrev pub entry_then : Context → Asks → Decision BlockForm → Entries → Entries
entry_then K conditions body others us s w =
    then_go (conditions us s)
    (λ x. then_go (body (with_facts (met x.behind.facts x.value.holding) x.behind) w)
    (λ b. then_go (others us (with_facts x.behind.facts b.behind) w)
    (λ y. found (reading (entry_more K x.value b y.value) y.behind))))

abbrev pub names_enough : Use → Bool → Bool
names_enough unused b = true
names_enough as_value b = b
names_enough (meeting t) b = b

abbrev pub when_of : MaybeExpression → EntryForms → TypeForm → ExpressionForm
when_of u es whole = t.when whole u es

abbrev pub when_joined : Context → (EntryForms → MaybeExpression) → State → Use → Reading EntriesForm →
    Outcome (Reading (List ExpressionForm))
when_joined K shown s w r =
    only_if (names_enough w (is_exhaustive K.headers (shown (entries_of r.value.entries)) (entries_of r.value.entries)))
    (gives_if
    (option_map (when_of (shown (entries_of r.value.entries)) (entries_of r.value.entries))
    (branch_type K w r.value.types))
    (with_facts
    (joined s.facts
    (r.value.ways
    ++ no_entry (is_exhaustive K.headers (shown (entries_of r.value.entries)) (entries_of r.value.entries))
    r.behind.facts))
    r.behind))

abbrev pub when_rest : Context → Entries → List ExpressionForm → (EntryForms → MaybeExpression) → Typings
when_rest K entries us shown s w = then_go (entries us s w) (when_joined K shown s w)

abbrev pub whens_without : Context → Entries → Typings
whens_without K entries s w = when_rest K entries [] no_subject s w

abbrev pub whens : Context → Typings → Entries → Typings
whens K e entries s w =
    then_go (e s as_value) (λ r. when_rest K entries r.value (shown_subject K r.value) r.behind w)
