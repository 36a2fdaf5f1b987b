-- Blocks and `if`, over what comes of their parts.
use Rattle.std.specs.Prelude.{true, false, List, [], ◌∷◌, option_map}
use Rattle.kt_base.specs.declared.refusals.Pos.{Pos}
use Rattle.kt_types_tree.specs.Types.{TypeForm}
use Rattle.kt_typed.specs.Bodies as t
use Rattle.kt_typed.specs.Bodies.{ExpressionForm, MaybeExpression, no_expression, some_expression, BlockForm, block, MaybeBlock, no_block, some_block, StatementForm, evaluate, statements_of}
use Rattle.kt_check_rules.specs.Kinds.{boolean_type}
use Rattle.kt_check_rules.specs.States.{Context, entering, leaving, with_facts, Path, path, joined}
use Rattle.kt_check_rules.specs.Typings.{Use, unused, as_value, meeting}
use Rattle.kt_check_rules.specs.Operators.{after_test}
use Rattle.kt_check_rules.specs.Conditionals.{block_type, path_of}
use Rattle.kt_check_deciding.specs.Outcomes.{Outcome, found, none, Reading, reading, Decision, DecisionAt, then_go, only_if, gives_if}
use Rattle.kt_check_deciding.specs.Choosing.{typed_by, branch_type, meets_unit}
use Rattle.kt_check_deciding.specs.Expressions.{Typings}

-- statements of a block, and its value
pub record LineForms : Type 0 where
  pub statements : List StatementForm
  pub value : MaybeExpression

abbrev pub lines : List StatementForm → MaybeExpression → LineForms
lines ss v = record { statements = ss; value = v }

abbrev pub no_lines : Context → Decision LineForms
no_lines K s w = only_if (meets_unit K w) (found (reading (lines [] no_expression) s))

abbrev pub with_line : StatementForm → LineForms → LineForms
with_line x ls = lines (x ∷ ls.statements) ls.value

abbrev pub line_then : DecisionAt StatementForm → Decision LineForms → Decision LineForms
line_then one others s w =
    then_go (one s) (λ x. then_go (others x.behind w) (λ y. found (reading (with_line x.value y.value) y.behind)))

abbrev pub evaluations : Context → Pos → Typings → DecisionAt StatementForm
evaluations K at e s = then_go (typed_by K e s unused) (λ r. found (reading (evaluate at r.value) r.behind))

abbrev pub values : Context → Typings → Decision LineForms
values K e s w = then_go (typed_by K e s w) (λ r. found (reading (lines [] (some_expression r.value)) r.behind))

abbrev pub last_line : Context → Pos → Typings → Decision LineForms
last_line K at e s unused = line_then (evaluations K at e) (no_lines K) s unused
last_line K at e s as_value = values K e s as_value
last_line K at e s (meeting t) = values K e s (meeting t)

abbrev pub block_of : LineForms → BlockForm
block_of ls = block (statements_of ls.statements) ls.value

abbrev pub blocks : Decision LineForms → Decision BlockForm
blocks ls s w = then_go (ls (entering s) w) (λ r. found (reading (block_of r.value) (leaving s r.behind)))

-- `else`: what it is, the types of its value, and its path
pub record ElseForm : Type 0 where
  pub shown : MaybeBlock
  pub types : List TypeForm
  pub way : Path

abbrev pub else_form : MaybeBlock → List TypeForm → Path → ElseForm
else_form b ts p = record { shown = b; types = ts; way = p }

abbrev pub no_else : Decision ElseForm
no_else s unused = found (reading (else_form no_block [] (path true s.facts)) s)
no_else s as_value = none
no_else s (meeting t) = none

abbrev pub else_of : Context → Reading BlockForm → ElseForm
else_of K r = else_form (some_block r.value) (block_type r.value ∷ []) (path_of K r.value r.behind)

abbrev pub elses : Context → Decision BlockForm → Decision ElseForm
elses K body s w = then_go (body s w) (λ r. found (reading (else_of K r) r.behind))

abbrev pub if_of : ExpressionForm → BlockForm → MaybeBlock → TypeForm → ExpressionForm
if_of u x y whole = t.if_else whole u x y

-- behind both branches
abbrev pub if_joined : Context → Use → Reading ExpressionForm → Reading BlockForm → Reading ElseForm →
    Outcome (Reading (List ExpressionForm))
if_joined K w c x y =
    gives_if
    (option_map (if_of c.value x.value y.value.shown) (branch_type K w (block_type x.value ∷ y.value.types)))
    (with_facts (joined c.behind.facts (path_of K x.value x.behind ∷ y.value.way ∷ [])) y.behind)

abbrev pub ifs : Context → Typings → Decision BlockForm → Decision ElseForm → Typings
ifs K test branch otherwise s w =
    then_go (typed_by K test s (meeting boolean_type))
    (λ c. then_go (branch (with_facts (after_test K true c.value c.behind) c.behind) w)
    (λ x. then_go (otherwise (with_facts (after_test K false c.value c.behind) x.behind) w)
    (λ y. if_joined K w c x y)))
