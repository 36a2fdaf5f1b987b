-- `do` and `for`, over what comes of their parts.
use Rattle.std.specs.Prelude.{ℕ, false, List, ◌∷◌, ◌++◌, find}
use Rattle.kt_base.specs.declared.refusals.Pos.{Pos}
use Rattle.kt_tree.specs.declared.bodies.RangeOperator.{RangeOperator}
use Rattle.kt_typed.specs.Bodies as t
use Rattle.kt_typed.specs.Bodies.{ExpressionForm, BlockForm, block, StatementForm, statements_of}
use Rattle.kt_check_rules.specs.Choices.{pairs}
use Rattle.kt_check_rules.specs.Kinds.{type_of, boolean_type}
use Rattle.kt_check_rules.specs.States.{Context, State, entering, next_local, met}
use Rattle.kt_check_rules.specs.Typings.{unused, as_value, meeting}
use Rattle.kt_check_rules.specs.Operators.{after_test}
use Rattle.kt_check_rules.specs.Loops.{repeated, in_loop, behind_loop, left_by, maybe_done, at_condition, are_bounds, with_variable}
use Rattle.kt_check_deciding.specs.Outcomes.{Outcome, found, Reading, reading, Decision, DecisionAt, then_go, there}
use Rattle.kt_check_deciding.specs.Choosing.{typed_by}
use Rattle.kt_check_deciding.specs.Expressions.{Typings}
use Rattle.kt_check_deciding.specs.Blocks.{LineForms, block_of}

abbrev pub do_state : Context → State → State → Reading ExpressionForm → State
do_state K s end c =
    behind_loop s
    (met c.behind.facts (end.book.breaks ++ left_by c.value (after_test K false c.value c.behind)))
    c.behind.book
    c.behind.book

abbrev pub do_whiles : Context → Pos → Decision LineForms → Typings → DecisionAt StatementForm
do_whiles K at lines test s =
    then_go (lines (entering (in_loop (repeated s))) unused)
    (λ x. then_go (typed_by K test (at_condition K s x.value.statements x.behind) (meeting boolean_type))
    (λ c. found (reading (t.do_while at (block_of x.value) c.value) (do_state K s x.behind c))))

abbrev pub for_state : State → State → State → State
for_state s start end =
    behind_loop s (maybe_done start.facts end.facts (start.facts ∷ end.book.breaks)) start.book end.book

abbrev pub for_of : Pos → RangeOperator → ExpressionForm × ExpressionForm → State → State → Reading BlockForm →
    Outcome (Reading StatementForm)
for_of at o p s start b =
    found (reading (t.for at (next_local start) p.0 o p.1 b.value) (for_state s start b.behind))

abbrev pub fors : Pos → List ℕ → RangeOperator → Typings → Typings → Decision BlockForm → DecisionAt StatementForm
fors at x o from to body s =
    then_go (from s as_value)
    (λ a. then_go (to a.behind as_value)
    (λ c. then_go (there (find are_bounds (pairs a.value c.value)))
    (λ p. then_go (body (with_variable x (type_of p.0) c.behind) unused) (for_of at o p s c.behind))))
