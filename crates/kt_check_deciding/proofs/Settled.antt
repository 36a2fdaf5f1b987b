-- Where all rules count, each tree has an outcome.
use Rattle.std.proofs.Common.{ℕ, List, [], ◌∷◌, Option, Some, None, Bool, true, false}
use Rattle.std.specs.Prelude.{find}
use Rattle.kt_base.specs.declared.refusals.Pos.{Pos}
use Rattle.kt_tree.specs.declared.bodies.AssignmentOperator.{AssignmentOperator}
use Rattle.kt_tree.specs.declared.bodies.BinaryOperator.{BinaryOperator}
use Rattle.kt_tree.specs.declared.bodies.BinaryOperator.TheVariants as o
use Rattle.kt_tree.specs.declared.bodies.PrefixOperator.{PrefixOperator}
use Rattle.kt_tree.specs.declared.bodies.PrefixOperator.TheVariants as before
use Rattle.kt_tree.specs.declared.bodies.RangeOperator.{RangeOperator}
use Rattle.kt_tree.specs.declared.bodies.StepOperator.{StepOperator}
use Rattle.kt_tree.specs.Types.{TypeTree}
use Rattle.kt_tree.specs.Bodies.{ExpressionTree, literal, template, name, this, parenthesized, lambda, prefix, binary, type_check, cast, not_null, member, index, call, if_else, when, try_catch, throw, return, break, continue}
use Rattle.kt_tree.specs.Bodies.{ExpressionTrees, expressions_end, expression_then, MaybeExpression, no_expression, some_expression, PartTree, text, name_part, this_part, hole, PartTrees, parts_end, part_then}
use Rattle.kt_tree.specs.Bodies.{entry, EntryTrees, entries_end, entry_then as tree_then, ConditionTree, equals, of_type, ConditionTrees, conditions_end, condition_then}
use Rattle.kt_tree.specs.Bodies.{BodyTree, braces, single, MaybeBody, no_body, some_body, BlockTree, block, StatementTree, local, assign, step, while, do_while, for, evaluate, StatementTrees, statements_end, statement_then}
use Rattle.kt_types_tree.specs.Types.{TypeForm}
use Rattle.kt_typed.specs.Bodies.{ExpressionForm, BlockForm, StatementForm, PartForm}
use Rattle.kt_typed.specs.declared.operators.TypedOperator.{TypedOperator}
use Rattle.kt_typed.specs.declared.operators.Width.{Width}
use Rattle.kt_check_rules.specs.States.{Context, State, hierarchy, meaning, is_free}
use Rattle.kt_check_rules.specs.Typings.{Use, unused, as_value, meeting}
use Rattle.kt_check_rules.specs.Literals.{literal_of, can_print, behind_minus}
use Rattle.kt_check_rules.specs.Calls.{Wanted, of_type as type_wanted, printed as print_wanted, Callable, callable, callable_on, count}
use Rattle.kt_check_rules.specs.Assignments.{Combination, applied_by, has_old, may_assign}
use Rattle.kt_check_rules.specs.Kinds.{is_testable, is_unit, width_of}
use Rattle.kt_check_rules.specs.Conditionals.{no_subject, shown_subject}
use Rattle.kt_check_deciding.specs.Outcomes.{Outcome, found, none, Decision, DecisionAt, then_go, only_if, there, gives_some, gives_if, unruled, unruled_at, later, later_at}
use Rattle.kt_check_deciding.specs.Choosing.{taken, typed_by, chosen_by}
use Rattle.kt_check_deciding.specs.Expressions.{Typings, literals, names, prefixes, operations, equalities, connectives, elvises, binaries, Arguments, argument, no_arguments, more_arguments, calls}
use Rattle.kt_check_deciding.specs.Blocks.{LineForms, no_lines, line_then, evaluations, last_line, blocks, ElseForm, no_else, elses, ifs}
use Rattle.kt_check_deciding.specs.Statements.{whiles, returns, bare_returns, typed_locals, bare_locals, bares, initialized, combines, new_value, Found, local_of, local_assignments, assignments_to, stepped, local_steps}
use Rattle.kt_check_deciding.specs.Access.{parts_then, printed_parts, templates, testable, tests, casts, not_nulls, elements, members, method_calls, element_by, element_assignments, element_steps}
use Rattle.kt_check_deciding.specs.Loops.{do_whiles, fors}
use Rattle.kt_check_deciding.specs.Whens.{Ask, asked_equal, asks, type_asks, Asks, ask_then, Entries, entry_then, when_rest, whens_without, whens}
use Rattle.kt_check_deciding.specs.Checked.{checked, checked_all, checked_parts, checked_part, checked_entries, checked_conditions, checked_condition, checked_body, checked_block, checked_else, checked_single, checked_lines, checked_block_lines, checked_statement, checked_local, checked_assignment, checked_step}

-- a typing, or none
pub data Settled {A : Type 0} : Outcome A → Type 0 where
  is_typed : {a : A} → Settled (found a)
  is_none : Settled none

pub record Total {A : Type 0} (d : Decision A) : Type 0 where
  pub all : (s : State) (w : Use) → Settled (d s w)

pub record TotalAt {A : Type 0} (d : DecisionAt A) : Type 0 where
  pub all : (s : State) → Settled (d s)

pub record TotalEach (d : Arguments) : Type 0 where
  pub all : (ws : List Wanted) (s : State) → Settled (d ws s)

pub record TotalAsk (d : Ask) : Type 0 where
  pub all : (us : List ExpressionForm) (s : State) → Settled (d us s)

pub record TotalAsks (d : Asks) : Type 0 where
  pub all : (us : List ExpressionForm) (s : State) → Settled (d us s)

pub record TotalEntries (d : Entries) : Type 0 where
  pub all : (us : List ExpressionForm) (s : State) (w : Use) → Settled (d us s w)

-- steps

pub then_settled : {A B : Type 0} (o : Outcome A) (go : A → Outcome B) → Settled o → ((a : A) → Settled (go a)) →
    Settled (then_go o go)
then_settled _ go (is_typed {a = a}) p = p a
then_settled _ go is_none p = is_none

if_settled : (u : Option ExpressionForm) (s : State) → Settled (gives_if u s)
if_settled None s = is_none
if_settled (Some u) s = is_typed

some_settled : {A : Type 0} (a : Option A) (s : State) → Settled (gives_some a s)
some_settled None s = is_none
some_settled (Some a) s = is_typed

pub only_settled : {A : Type 0} (t : Bool) (o : Outcome A) → Settled o → Settled (only_if t o)
only_settled true o p = p
only_settled false o p = is_none

there_settled : {A : Type 0} (o : Option A) → Settled (there o)
there_settled None = is_none
there_settled (Some a) = is_typed

-- choices

pub typed_total : (K : Context) (d : Typings) → Total d → Total (typed_by K d)
typed_total K d i = record {
  all = λ s w. then_settled (d s w) _ (i.all s w) (λ r. some_settled (taken K w r.value) r.behind);
}

chosen_total : (test : ExpressionForm → Bool) (d : Typings) → Total d → TotalAt (chosen_by test d)
chosen_total test d i = record {
  all = λ s. then_settled (d s as_value) _ (i.all s as_value) (λ r. some_settled (find test r.value) r.behind);
}

-- expressions

literals_total : (l : _) → Total (literals l)
literals_total l = record { all = λ s w. if_settled (literal_of w l) s }

names_total : (K : Context) (x : List ℕ) → Total (names K x)
names_total K x = record { all = λ s w. some_settled _ s }

prefixes_total : (K : Context) (k : PrefixOperator) (d : Typings) (inner : Use → Use) → Total d →
    Total (prefixes K k d inner)
prefixes_total K before.Negate d inner i = record {
  all = λ s w. then_settled (d s (inner w)) _ (i.all s (inner w)) (λ r. if_settled _ r.behind);
}
prefixes_total K before.Not d inner i = record {
  all = λ s w. then_settled (typed_by K d s (meeting _)) _ ((typed_total K d i).all s (meeting _)) (λ r. is_typed);
}

operations_total : (K : Context) (k : BinaryOperator) (c d : Typings) → Total c → Total d →
    Total (operations K k c d)
operations_total K k c d i j = record {
  all = λ s w.
      then_settled (c s as_value) _ (i.all s as_value)
      (λ x. then_settled (d x.behind as_value) _ (j.all x.behind as_value) (λ y. if_settled _ y.behind));
}

equalities_total : (K : Context) (k : TypedOperator) (c d : Typings) → Total c → Total d →
    Total (equalities K k c d)
equalities_total K k c d i j = record {
  all = λ s w.
      then_settled (c s as_value) _ (i.all s as_value)
      (λ x. then_settled (d x.behind as_value) _ (j.all x.behind as_value) (λ y. if_settled _ y.behind));
}

connectives_total : (K : Context) (goes_on : Bool) (k : TypedOperator) (c d : Typings) → Total c → Total d →
    Total (connectives K goes_on k c d)
connectives_total K goes_on k c d i j = record {
  all = λ s w.
      then_settled (typed_by K c s (meeting _)) _ ((typed_total K c i).all s (meeting _))
      (λ x. then_settled (typed_by K d _ (meeting _)) _ ((typed_total K d j).all _ (meeting _)) (λ y. is_typed));
}

elvises_total : (K : Context) (c d : Typings) → Total c → Total d → Total (elvises K c d)
elvises_total K c d i j = record {
  all = λ s w.
      then_settled (typed_by K c s _) _ ((typed_total K c i).all s _)
      (λ x. then_settled (typed_by K d x.behind _) _ ((typed_total K d j).all x.behind _) (λ y. if_settled _ _));
}

binaries_total : (K : Context) (k : BinaryOperator) (c d : Typings) → Total c → Total d →
    Total (binaries true K k c d)
binaries_total K o.Disjunction c d i j = record {
  all = λ s w. (connectives_total K false _ c d i j).all s w;
}
binaries_total K o.Conjunction c d i j = record {
  all = λ s w. (connectives_total K true _ c d i j).all s w;
}
binaries_total K o.Equal c d i j = record { all = λ s w. (equalities_total K _ c d i j).all s w }
binaries_total K o.NotEqual c d i j = record { all = λ s w. (equalities_total K _ c d i j).all s w }
binaries_total K o.Elvis c d i j = record { all = λ s w. (elvises_total K c d i j).all s w }
binaries_total K k c d i j = record { all = λ s w. (operations_total K k c d i j).all s w }

-- calls

argument_total : (K : Context) (d : Typings) → Total d → (w : Wanted) → TotalAt (argument K d w)
argument_total K d i (type_wanted t) = record { all = λ s. (typed_total K d i).all s (meeting t) }
argument_total K d i print_wanted = chosen_total (can_print K) d i

no_arguments_total : TotalEach no_arguments
no_arguments_total = record { all = by_wanted }
  where
    by_wanted : (ws : List Wanted) (s : State) → Settled (no_arguments ws s)
    by_wanted [] s = is_typed
    by_wanted (w ∷ ws) s = is_none

more_arguments_total : (K : Context) (d : Typings) (ds : Arguments) → Total d → TotalEach ds →
    TotalEach (more_arguments K d ds)
more_arguments_total K d ds i j = record { all = by_wanted }
  where
    by_wanted : (ws : List Wanted) (s : State) → Settled (more_arguments K d ds ws s)
    by_wanted [] s = is_none
    by_wanted (w ∷ ws) s =
        then_settled (argument K d w s) _ ((argument_total K d i w).all s)
        (λ x. then_settled (ds ws x.behind) _ (j.all ws x.behind) (λ y. is_typed))

calls_total : (f : Option Callable) (ds : Arguments) (at : Pos) → TotalEach ds → Total (calls f ds at)
calls_total None ds at i = record { all = λ s w. is_none }
calls_total (Some f) ds at i = record {
  all = λ s w. then_settled (ds f.wanted s) _ (i.all f.wanted s) (λ r. is_typed);
}

method_calls_total : (K : Context) (d : Typings) (is_safe : Bool) (x : List ℕ) (ts : List TypeTree) (k : ℕ)
    (ds : Arguments) (at : Pos) → Total d → TotalEach ds → Total (method_calls K d is_safe x ts k ds at)
method_calls_total K d is_safe x ts k ds at i j = record {
  all = λ s w.
      then_settled (d s as_value) _ (i.all s as_value)
      (λ r. then_settled (there (callable_on K is_safe x ts k r.value)) _ (there_settled _)
      (λ f. then_settled (ds f.wanted r.behind) _ (j.all f.wanted r.behind) (λ y. is_typed)));
}

-- strings, tests, casts, elements, members

parts_then_total : (c : DecisionAt PartForm) (d : DecisionAt (List PartForm)) → TotalAt c → TotalAt d →
    TotalAt (parts_then c d)
parts_then_total c d i j = record {
  all = λ s.
      then_settled (c s) _ (i.all s) (λ x. then_settled (d x.behind) _ (j.all x.behind) (λ y. is_typed));
}

printed_total : (K : Context) (d : Typings) → Total d → TotalAt (printed_parts K d)
printed_total K d i = record {
  all = λ s.
      then_settled (chosen_by (can_print K) d s) _ ((chosen_total (can_print K) d i).all s) (λ r. is_typed);
}

templates_total : (d : DecisionAt (List PartForm)) → TotalAt d → Total (templates d)
templates_total d i = record { all = λ s w. then_settled (d s) _ (i.all s) (λ r. is_typed) }

testable_settled : (K : Context) (meant : Option TypeForm) → Settled (testable K meant)
testable_settled K None = is_none
testable_settled K (Some t) = only_settled (is_testable (hierarchy K) t) (found t) is_typed

tests_total : (K : Context) (d : Typings) (is_negated : Bool) (meant : Option TypeForm) → Total d →
    Total (tests K d is_negated meant)
tests_total K d is_negated meant i = record {
  all = λ s w.
      then_settled (typed_by K d s as_value) _ ((typed_total K d i).all s as_value)
      (λ r. then_settled (testable K meant) _ (testable_settled K meant) (λ t. is_typed));
}

casts_total : (K : Context) (d : Typings) (gives_null : Bool) (meant : Option TypeForm) → Total d →
    Total (casts K d gives_null meant)
casts_total K d gives_null meant i = record {
  all = λ s w.
      then_settled (typed_by K d s as_value) _ ((typed_total K d i).all s as_value)
      (λ r. then_settled (testable K meant) _ (testable_settled K meant) (λ t. is_typed));
}

not_nulls_total : (K : Context) (d : Typings) → Total d → Total (not_nulls K d)
not_nulls_total K d i = record {
  all = λ s w. then_settled (typed_by K d s as_value) _ ((typed_total K d i).all s as_value) (λ r. is_typed);
}

elements_total : (c d : Typings) → Total c → Total d → Total (elements c d)
elements_total c d i j = record {
  all = λ s w.
      then_settled (c s as_value) _ (i.all s as_value)
      (λ x. then_settled (d x.behind as_value) _ (j.all x.behind as_value) (λ y. if_settled _ y.behind));
}

members_total : (K : Context) (d : Typings) (is_safe : Bool) (x : List ℕ) → Total d → Total (members K d is_safe x)
members_total K d is_safe x i = record {
  all = λ s w. then_settled (d s as_value) _ (i.all s as_value) (λ r. if_settled _ r.behind);
}

element_total : (c d : Typings) → Total c → Total d → TotalAt (element_by c d)
element_total c d i j = record {
  all = λ s.
      then_settled (c s as_value) _ (i.all s as_value)
      (λ x. then_settled (d x.behind as_value) _ (j.all x.behind as_value)
      (λ y. then_settled (there _) _ (there_settled _) (λ p. is_typed)));
}

-- blocks and branches

no_lines_total : (K : Context) → Total (no_lines K)
no_lines_total K = record { all = λ s w. only_settled _ _ is_typed }

line_then_total : (c : DecisionAt StatementForm) (d : Decision LineForms) → TotalAt c → Total d →
    Total (line_then c d)
line_then_total c d i j = record {
  all = λ s w.
      then_settled (c s) _ (i.all s) (λ x. then_settled (d x.behind w) _ (j.all x.behind w) (λ y. is_typed));
}

evaluations_total : (K : Context) (at : Pos) (d : Typings) → Total d → TotalAt (evaluations K at d)
evaluations_total K at d i = record {
  all = λ s. then_settled (typed_by K d s unused) _ ((typed_total K d i).all s unused) (λ r. is_typed);
}

last_line_total : (K : Context) (at : Pos) (d : Typings) → Total d → Total (last_line K at d)
last_line_total K at d i = record { all = by_use }
  where
    by_use : (s : State) (w : Use) → Settled (last_line K at d s w)
    by_use s unused =
        (line_then_total (evaluations K at d) (no_lines K) (evaluations_total K at d i) (no_lines_total K)).all s
        unused
    by_use s as_value =
        then_settled (typed_by K d s as_value) _ ((typed_total K d i).all s as_value) (λ r. is_typed)
    by_use s (meeting t) =
        then_settled (typed_by K d s (meeting t)) _ ((typed_total K d i).all s (meeting t)) (λ r. is_typed)

blocks_total : (d : Decision LineForms) → Total d → Total (blocks d)
blocks_total d i = record { all = λ s w. then_settled (d _ w) _ (i.all _ w) (λ r. is_typed) }

no_else_total : Total no_else
no_else_total = record { all = by_use }
  where
    by_use : (s : State) (w : Use) → Settled (no_else s w)
    by_use s unused = is_typed
    by_use s as_value = is_none
    by_use s (meeting t) = is_none

elses_total : (K : Context) (d : Decision BlockForm) → Total d → Total (elses K d)
elses_total K d i = record { all = λ s w. then_settled (d s w) _ (i.all s w) (λ r. is_typed) }

ifs_total : (K : Context) (c : Typings) (d : Decision BlockForm) (f : Decision ElseForm) → Total c → Total d →
    Total f → Total (ifs K c d f)
ifs_total K c d f i j k = record {
  all = λ s w.
      then_settled (typed_by K c s (meeting _)) _ ((typed_total K c i).all s (meeting _))
      (λ u. then_settled (d _ w) _ (j.all _ w)
      (λ x. then_settled (f _ w) _ (k.all _ w) (λ y. if_settled _ _)));
}

-- `when`

equal_settled : (p : Option (ExpressionForm × ExpressionForm)) (s : State) → Settled (asked_equal p s)
equal_settled None s = is_none
equal_settled (Some p) s = is_typed

asks_total : (K : Context) (d : Typings) → Total d → TotalAsk (asks K d)
asks_total K d i = record { all = by_subject }
  where
    by_subject : (us : List ExpressionForm) (s : State) → Settled (asks K d us s)
    by_subject [] s =
        then_settled (typed_by K d s (meeting _)) _ ((typed_total K d i).all s (meeting _)) (λ r. is_typed)
    by_subject (u ∷ us) s = then_settled (d s as_value) _ (i.all s as_value) (λ r. equal_settled _ r.behind)

type_asks_total : (K : Context) (is_negated : Bool) (meant : Option TypeForm) →
    TotalAsk (type_asks K is_negated meant)
type_asks_total K is_negated meant = record { all = by_subject }
  where
    by_subject : (us : List ExpressionForm) (s : State) → Settled (type_asks K is_negated meant us s)
    by_subject [] s = is_none
    by_subject (u ∷ us) s = then_settled (testable K meant) _ (testable_settled K meant) (λ t. is_typed)

ask_then_total : (K : Context) (c : Ask) (d : Asks) → TotalAsk c → TotalAsks d → TotalAsks (ask_then K c d)
ask_then_total K c d i j = record {
  all = λ us s.
      then_settled (c us s) _ (i.all us s) (λ x. then_settled (d us _) _ (j.all us _) (λ y. is_typed));
}

entry_then_total : (K : Context) (c : Asks) (d : Decision BlockForm) (f : Entries) → TotalAsks c → Total d →
    TotalEntries f → TotalEntries (entry_then K c d f)
entry_then_total K c d f i j k = record {
  all = λ us s w.
      then_settled (c us s) _ (i.all us s)
      (λ x. then_settled (d _ w) _ (j.all _ w)
      (λ b. then_settled (f us _ w) _ (k.all us _ w) (λ y. is_typed)));
}

when_rest_settled : (K : Context) (d : Entries) (us : List ExpressionForm) (shown : _) → TotalEntries d →
    (s : State) (w : Use) → Settled (when_rest K d us shown s w)
when_rest_settled K d us shown i s w =
    then_settled (d us s w) _ (i.all us s w) (λ r. only_settled _ _ (if_settled _ _))

whens_without_total : (K : Context) (d : Entries) → TotalEntries d → Total (whens_without K d)
whens_without_total K d i = record { all = λ s w. when_rest_settled K d [] no_subject i s w }

whens_total : (K : Context) (c : Typings) (d : Entries) → Total c → TotalEntries d → Total (whens K c d)
whens_total K c d i j = record {
  all = λ s w.
      then_settled (c s as_value) _ (i.all s as_value) (λ r. when_rest_settled K d r.value (shown_subject K r.value) j r.behind w);
}

-- loops, jumps, declarations, assignments

whiles_total : (K : Context) (at : Pos) (c : Typings) (d : Decision BlockForm) → Total c → Total d →
    TotalAt (whiles K at c d)
whiles_total K at c d i j = record {
  all = λ s.
      then_settled (typed_by K c _ (meeting _)) _ ((typed_total K c i).all _ (meeting _))
      (λ u. then_settled (d _ unused) _ (j.all _ unused) (λ x. is_typed));
}

do_whiles_total : (K : Context) (at : Pos) (d : Decision LineForms) (c : Typings) → Total d → Total c →
    TotalAt (do_whiles K at d c)
do_whiles_total K at d c j i = record {
  all = λ s.
      then_settled (d _ unused) _ (j.all _ unused)
      (λ x. then_settled (typed_by K c _ (meeting _)) _ ((typed_total K c i).all _ (meeting _)) (λ u. is_typed));
}

fors_total : (at : Pos) (x : List ℕ) (k : RangeOperator) (c d : Typings) (f : Decision BlockForm) → Total c →
    Total d → Total f → TotalAt (fors at x k c d f)
fors_total at x k c d f i j l = record {
  all = λ s.
      then_settled (c s as_value) _ (i.all s as_value)
      (λ a. then_settled (d a.behind as_value) _ (j.all a.behind as_value)
      (λ b. then_settled (there _) _ (there_settled _)
      (λ p. then_settled (f _ unused) _ (l.all _ unused) (λ z. is_typed))));
}

returns_total : (K : Context) (d : Typings) → Total d → Total (returns K d)
returns_total K d i = record {
  all = λ s w.
      then_settled (typed_by K d s (meeting K.result)) _ ((typed_total K d i).all s (meeting K.result))
      (λ r. is_typed);
}

bare_returns_total : (K : Context) → Total (bare_returns K)
bare_returns_total K = record { all = λ s w. only_settled (is_unit K.result) _ is_typed }

bares_total : (K : Context) (at : Pos) (var : Bool) (x : List ℕ) (w : Option TypeTree) →
    TotalAt (bares K at var x w)
bares_total K at var x None = record { all = λ s. is_none }
bares_total K at var x (Some w) = record { all = λ s. only_settled (is_free x s) _ (by_type (meaning K w) s) }
  where
    by_type : (m : Option TypeForm) (s : State) → Settled (bare_locals at var x m s)
    by_type None s = is_none
    by_type (Some t) s = is_typed

initialized_total : (K : Context) (at : Pos) (var : Bool) (x : List ℕ) (w : Option TypeTree) (d : Typings) →
    Total d → TotalAt (initialized K at var x w d)
initialized_total K at var x None d i = record {
  all = λ s.
      only_settled (is_free x s) _
      (then_settled (typed_by K d s as_value) _ ((typed_total K d i).all s as_value) (λ r. is_typed));
}
initialized_total K at var x (Some w) d i = record {
  all = λ s. only_settled (is_free x s) _ (by_type (meaning K w) s);
}
  where
    by_type : (m : Option TypeForm) (s : State) → Settled (typed_locals K at var x m d s)
    by_type None s = is_none
    by_type (Some t) s =
        then_settled (typed_by K d s (meeting t)) _ ((typed_total K d i).all s (meeting t)) (λ r. is_typed)

new_value_total : (K : Context) (k : Option BinaryOperator) (d : Typings) (t : TypeForm) → Total d →
    TotalAt (new_value K k d t)
new_value_total K None d t i = record {
  all = λ s. then_settled (typed_by K d s (meeting t)) _ ((typed_total K d i).all s (meeting t)) (λ r. is_typed);
}
new_value_total K (Some k) d t i = record {
  all = λ s. then_settled (d s as_value) _ (i.all s as_value) (λ r. by_choice _ r.behind);
}
  where
    by_choice : (c : Option Combination) (s : State) → Settled (combines K t c s)
    by_choice None s = is_none
    by_choice (Some c) s = only_settled _ _ is_typed

assignments_total : (K : Context) (at : Pos) (x : List ℕ) (k : Option BinaryOperator) (d : Typings) → Total d →
    TotalAt (local_assignments K at x k d)
assignments_total K at x k d i = record {
  all = λ s.
      then_settled (there (local_of x s)) _ (there_settled (local_of x s))
      (λ l. only_settled (has_old k l.number s) _
      (then_settled (new_value K k d l.local.declared s) _ ((new_value_total K k d l.local.declared i).all s)
      (λ r. only_settled (may_assign l.local.kind l.number r.behind) _ is_typed)));
}

assignments_to_total : (K : Context) (at : Pos) (x : List ℕ) (k : Option BinaryOperator) (d : Typings) → Total d →
    TotalAt (assignments_to true K at x k d)
assignments_to_total K at x None d i = assignments_total K at x None d i
assignments_to_total K at x (Some k) d i = record { all = λ s. (assignments_total K at x (Some k) d i).all s }

local_steps_total : (at : Pos) (x : List ℕ) (k : StepOperator) → TotalAt (local_steps at x k)
local_steps_total at x k = record {
  all = λ s.
      then_settled (there (local_of x s)) _ (there_settled (local_of x s))
      (λ l. only_settled (s.facts.surely_assigned l.number) _ (by_width l (width_of l.local.declared) s));
}
  where
    by_width : (l : Found) (w : Option Width) (s : State) → Settled (stepped at k l w s)
    by_width l None s = is_none
    by_width l (Some w) s = only_settled (may_assign l.local.kind l.number s) _ is_typed

element_assignments_total : (K : Context) (at : Pos) (c d : Typings) (k : Option BinaryOperator) (f : Typings) →
    Total c → Total d → Total f → TotalAt (element_assignments K at c d k f)
element_assignments_total K at c d k f i j l = record {
  all = λ s.
      then_settled (element_by c d s) _ ((element_total c d i j).all s)
      (λ p. then_settled (new_value K k f p.value.2 p.behind) _
      ((new_value_total K k f p.value.2 l).all p.behind) (λ r. is_typed));
}

element_steps_total : (at : Pos) (c d : Typings) (k : StepOperator) → Total c → Total d →
    TotalAt (element_steps at c d k)
element_steps_total at c d k i j = record {
  all = λ s.
      then_settled (element_by c d s) _ ((element_total c d i j).all s)
      (λ p. then_settled (there (width_of p.value.2)) _ (there_settled _) (λ w. is_typed));
}

-- where all rules count, `later` and what has no rule change nothing

now : {A : Type 0} (d : Decision A) → Total d → Total (later true d)
now d i = record { all = λ s w. i.all s w }

now_at : {A : Type 0} (d : DecisionAt A) → TotalAt d → TotalAt (later_at true d)
now_at d i = record { all = λ s. i.all s }

unruled_total : {A : Type 0} → Total (unruled {A = A} true)
unruled_total = record { all = λ s w. is_none }

unruled_at_total : {A : Type 0} → TotalAt (unruled_at {A = A} true)
unruled_at_total = record { all = λ s. is_none }

module _ (K : Context) where
  mutual
    pub expression : (e : ExpressionTree) → Total (checked true K e)
    expression (literal at l) = literals_total l
    expression (template at ps) = now _ (templates_total (checked_parts true K at ps) (parts at ps))
    expression (name at x) = names_total K x
    expression (this at) = unruled_total
    expression (parenthesized at e) = expression e
    expression (lambda at l) = unruled_total
    expression (prefix at k e) = prefixes_total K k (checked true K e) (behind_minus e) (expression e)
    expression (binary at k a b) =
        binaries_total K k (checked true K a) (checked true K b) (expression a) (expression b)
    expression (type_check at e n t) = now _ (tests_total K (checked true K e) n (meaning K t) (expression e))
    expression (cast at e n t) = now _ (casts_total K (checked true K e) n (meaning K t) (expression e))
    expression (not_null at e) = now _ (not_nulls_total K (checked true K e) (expression e))
    expression (member at e n x) = now _ (members_total K (checked true K e) n x (expression e))
    expression (index at a i) =
        now _ (elements_total (checked true K a) (checked true K i) (expression a) (expression i))
    expression (call at (name place x) start ts es) = record {
      all = λ s w.
          (calls_total (callable K x ts (count es)) (checked_all true K es) start (arguments es)).all s w;
    }
    expression (call at (member place e n x) start ts es) =
        now _
        (method_calls_total K (checked true K e) n x ts (count es) (checked_all true K es) start
        (expression e) (arguments es))
    expression (call at f start ts es) = unruled_total
    expression (if_else at e x y) =
        ifs_total K (checked true K e) (checked_body true K x) (checked_else true K y) (expression e) (branch x)
        (otherwise y)
    expression (when at no_expression es) = now _ (whens_without_total K (checked_entries true K es) (entries es))
    expression (when at (some_expression e) es) =
        now _ (whens_total K (checked true K e) (checked_entries true K es) (expression e) (entries es))
    expression (try_catch at x cs f) = unruled_total
    expression (throw at e) = unruled_total
    expression (return at no_expression) = bare_returns_total K
    expression (return at (some_expression e)) = returns_total K (checked true K e) (expression e)
    expression (break at) = record { all = λ s w. is_typed }
    expression (continue at) = record { all = λ s w. is_typed }

    arguments : (es : ExpressionTrees) → TotalEach (checked_all true K es)
    arguments expressions_end = no_arguments_total
    arguments (expression_then e es) =
        more_arguments_total K (checked true K e) (checked_all true K es) (expression e) (arguments es)

    parts : (at : Pos) (ps : PartTrees) → TotalAt (checked_parts true K at ps)
    parts at parts_end = record { all = λ s. is_typed }
    parts at (part_then p ps) =
        parts_then_total (checked_part true K at p) (checked_parts true K at ps) (part at p) (parts at ps)

    part : (at : Pos) (p : PartTree) → TotalAt (checked_part true K at p)
    part at (text t) = record { all = λ s. is_typed }
    part at (name_part x) = printed_total K (names K x) (names_total K x)
    part at this_part = printed_total K (unruled true) unruled_total
    part at (hole e) = printed_total K (checked true K e) (expression e)

    entries : (es : EntryTrees) → TotalEntries (checked_entries true K es)
    entries entries_end = record { all = λ us s w. is_typed }
    entries (tree_then (entry cs x) es) =
        entry_then_total K (checked_conditions true K cs) (checked_body true K x) (checked_entries true K es)
        (conditions cs) (branch x) (entries es)

    conditions : (cs : ConditionTrees) → TotalAsks (checked_conditions true K cs)
    conditions conditions_end = record { all = λ us s. is_typed }
    conditions (condition_then c cs) =
        ask_then_total K (checked_condition true K c) (checked_conditions true K cs) (condition c) (conditions cs)

    condition : (c : ConditionTree) → TotalAsk (checked_condition true K c)
    condition (equals e) = asks_total K (checked true K e) (expression e)
    condition (of_type n t) = type_asks_total K n (meaning K t)

    branch : (x : BodyTree) → Total (checked_body true K x)
    branch (braces x) = in_block x
    branch (single x) = blocks_total (checked_single true K x) (alone x)

    in_block : (x : BlockTree) → Total (checked_block true K x)
    in_block (block ss at) = blocks_total (checked_lines true K ss) (lines ss)

    otherwise : (y : MaybeBody) → Total (checked_else true K y)
    otherwise no_body = no_else_total
    otherwise (some_body x) = elses_total K (checked_body true K x) (branch x)

    alone : (x : StatementTree) → Total (checked_single true K x)
    alone (evaluate at e) = last_line_total K at (checked true K e) (expression e)
    alone (local at var x t e) = line_then_total _ (no_lines K) (declaration at var x t e) (no_lines_total K)
    alone (assign at e k a) = line_then_total _ (no_lines K) (assignment at k e a (expression a)) (no_lines_total K)
    alone (step at e k) = line_then_total _ (no_lines K) (stepping at k e) (no_lines_total K)
    alone (while at e x) =
        line_then_total _ (no_lines K)
        (whiles_total K at (checked true K e) (checked_body true K x) (expression e) (branch x)) (no_lines_total K)
    alone (do_while at x e) =
        line_then_total _ (no_lines K)
        (now_at _ (do_whiles_total K at (checked_block_lines true K x) (checked true K e) (block_lines x)
        (expression e)))
        (no_lines_total K)
    alone (for at x a k c b) =
        line_then_total _ (no_lines K)
        (now_at _ (fors_total at x k (checked true K a) (checked true K c) (checked_body true K b) (expression a)
        (expression c) (branch b)))
        (no_lines_total K)

    lines : (ss : StatementTrees) → Total (checked_lines true K ss)
    lines statements_end = no_lines_total K
    lines (statement_then (evaluate at e) statements_end) = last_line_total K at (checked true K e) (expression e)
    lines (statement_then x ss) =
        line_then_total (checked_statement true K x) (checked_lines true K ss) (statement x) (lines ss)

    block_lines : (x : BlockTree) → Total (checked_block_lines true K x)
    block_lines (block ss at) = lines ss

    pub statement : (x : StatementTree) → TotalAt (checked_statement true K x)
    statement (local at var x t e) = declaration at var x t e
    statement (assign at e k a) = assignment at k e a (expression a)
    statement (step at e k) = stepping at k e
    statement (while at e x) =
        whiles_total K at (checked true K e) (checked_body true K x) (expression e) (branch x)
    statement (do_while at x e) =
        now_at _
        (do_whiles_total K at (checked_block_lines true K x) (checked true K e) (block_lines x) (expression e))
    statement (for at x a k c b) =
        now_at _
        (fors_total at x k (checked true K a) (checked true K c) (checked_body true K b) (expression a)
        (expression c) (branch b))
    statement (evaluate at e) = evaluations_total K at (checked true K e) (expression e)

    declaration : (at : Pos) (var : Bool) (x : List ℕ) (t : Option TypeTree) (e : MaybeExpression) →
        TotalAt (checked_local true K at var x t e)
    declaration at var x t no_expression = bares_total K at var x t
    declaration at var x t (some_expression e) = initialized_total K at var x t (checked true K e) (expression e)

    assignment : (at : Pos) (k : AssignmentOperator) (target a : ExpressionTree) → Total (checked true K a) →
        TotalAt (checked_assignment true K at k target (checked true K a))
    assignment at k (name place x) a i = assignments_to_total K at x (applied_by k) (checked true K a) i
    assignment at k (index place b j) a i =
        now_at _
        (element_assignments_total K at (checked true K b) (checked true K j) (applied_by k) (checked true K a)
        (expression b) (expression j) i)
    assignment at k _ a i = unruled_at_total

    stepping : (at : Pos) (k : StepOperator) (target : ExpressionTree) → TotalAt (checked_step true K at k target)
    stepping at k (name place x) = local_steps_total at x k
    stepping at k (index place b j) =
        now_at _ (element_steps_total at (checked true K b) (checked true K j) k (expression b) (expression j))
    stepping at k _ = unruled_at_total
