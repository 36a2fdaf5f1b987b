-- Examples that compute: what tests teach, where paths join, what completes, and what may be assigned.
use Rattle.std.proofs.Common.{ℕ, List, [], ◌∷◌, Some, None, ◌≡◌, refl, Bool, true, false}
use Rattle.kt_tree.specs.declared.bodies.PrefixOperator.TheVariants as before
use Rattle.kt_tree.specs.declared.bodies.Literal.TheVariants as written
use Rattle.kt_tree.specs.declared.bodies.BinaryOperator.TheVariants as o
use Rattle.kt_types_tree.specs.Types.{TypeForm, typed, nothing, or_null}
use Rattle.kt_types_tree.specs.Hierarchy.{HierarchyForm}
use Rattle.kt_typed.specs.declared.operators.LocalKind.{LocalKind}
use Rattle.kt_typed.specs.declared.operators.LocalKind.TheVariants as kind
use Rattle.kt_typed.specs.declared.operators.TypedLiteral.TheVariants as is
use Rattle.kt_typed.specs.declared.operators.TypedOperator.TheVariants as op
use Rattle.kt_typed.specs.declared.operators.ArithmeticOperator.TheVariants as arithmetic
use Rattle.kt_typed.specs.declared.operators.Width.TheVariants as width
use Rattle.kt_typed.specs.Operators.{LocalForm}
use Rattle.kt_typed.specs.Bodies.{ExpressionForm, literal, local, prefix, binary, type_test, break, no_expression, block, statements_end, statement_then, while, evaluate, entries_end, entry_then, entry, conditions_end, condition_then, equals, EntryForms, BlockForm}
use Rattle.kt_flow.specs.Facts.{no_facts, learn, assign, meet}
use Rattle.kt_check_rules.specs.Kinds.{int_type, long_type, boolean_type, string_type, nothing_type}
use Rattle.kt_check_rules.specs.States.{State, path, joined, declaring, assigned}
use Rattle.kt_check_rules.specs.Typings.{as_value, meeting}
use Rattle.kt_check_rules.specs.Literals.{literal_of, int_literal, long_literal}
use Rattle.kt_check_rules.specs.Learning.{learnt}
use Rattle.kt_check_rules.specs.Completion.{statement_completes, names_all}
use Rattle.kt_check_rules.specs.Operators.{operation}
use Rattle.kt_check_rules.specs.Loops.{repeated}
use Rattle.kt_check_rules.specs.Assignments.{may_assign}
use Rattle.kt_check_rules.specs.Bodies.{empty_state}
use Rattle.kt_check_rules.specs.Samples.{at, headers_with}

abbrev none : HierarchyForm
none = record { classes = []; bounds = [] }

abbrev int_or_null : TypeForm
int_or_null = or_null true int_type

abbrev of_kind : LocalKind → LocalForm
of_kind k = record { name = []; kind = k; declared = int_or_null }

-- 0 is a `val`, 1 a parameter and 2 a `var`, each of type `Int?`
abbrev three : List LocalForm
three = of_kind kind.Val ∷ of_kind kind.Parameter ∷ of_kind kind.Var ∷ []

abbrev null : ExpressionForm
null = literal (typed true nothing) is.Null

abbrev is_there : ℕ → ExpressionForm
is_there n = binary boolean_type op.NotEqual (local int_or_null n) null

abbrev is_absent : ℕ → ExpressionForm
is_absent n = binary boolean_type op.Equal null (local int_or_null n)

abbrev both : ExpressionForm → ExpressionForm → ExpressionForm
both a b = binary boolean_type op.Conjunction a b

abbrev either : ExpressionForm → ExpressionForm → ExpressionForm
either a b = binary boolean_type op.Disjunction a b

abbrev known : Bool → ExpressionForm → ℕ → List TypeForm
known holds e n = (learnt none three holds e no_facts).types n

-- `x != null` gives the type without `?`, where it holds
pub from_test : known true (is_there 0) 0 ≡ int_type ∷ []
from_test = refl

pub not_from_test : known false (is_there 0) 0 ≡ []
not_from_test = refl

-- a `var` has no facts
pub not_of_var : known true (is_there 2) 2 ≡ []
not_of_var = refl

-- `&&` gives both where it holds, and neither where it doesn't
pub from_both : known true (both (is_there 0) (is_there 1)) 1 ≡ int_type ∷ []
from_both = refl

pub not_from_both : known false (both (is_there 0) (is_there 1)) 0 ≡ []
not_from_both = refl

-- `||` gives what both sides give; where it doesn't hold neither does
pub from_either : known true (either (is_there 0) (is_there 1)) 0 ≡ []
from_either = refl

pub from_same : known true (either (is_there 0) (is_there 0)) 0 ≡ int_type ∷ []
from_same = refl

pub from_neither : known false (either (is_absent 0) (is_absent 1)) 1 ≡ int_type ∷ []
from_neither = refl

-- `!` turns it round
pub from_not : known true (prefix boolean_type before.Not (is_absent 0)) 0 ≡ int_type ∷ []
from_not = refl

-- `is` where it holds, `!is` where it doesn't
pub from_is : known true (type_test boolean_type (local int_or_null 0) false int_type) 0 ≡ int_type ∷ []
from_is = refl

pub from_is_not : known false (type_test boolean_type (local int_or_null 0) true int_type) 0 ≡ int_type ∷ []
from_is_not = refl

-- Joins.

-- behind `if (x == null) return` what the other path knows stays
pub behind_return : (joined no_facts (path false no_facts ∷ path true (learn 0 int_type no_facts)
    ∷ [])).types 0 ≡ int_type ∷ []
behind_return = refl

-- a fact of one path alone is lost, and the order is that of the first
pub one_sided : (joined no_facts (path true (learn 0 int_type no_facts) ∷ path true no_facts ∷ [])).types 0 ≡ []
one_sided = refl

pub in_order :
    (meet (learn 0 long_type (learn 0 int_type no_facts)) (learn 0 int_type (learn 0 long_type no_facts))).types 0
    ≡ int_type ∷ long_type ∷ []
in_order = refl

-- surely assigned where both paths assign, maybe where one does
pub surely : (meet (assign 0 no_facts) no_facts).surely_assigned 0 ≡ false
surely = refl

pub maybe : (meet (assign 0 no_facts) no_facts).maybe_assigned 0 ≡ true
maybe = refl

-- Assignments.

-- a `val` declared before
abbrev val_before : State
val_before = declaring [] kind.Val int_type empty_state

pub once_is_fine : may_assign kind.Val 0 val_before ≡ true
once_is_fine = refl

pub twice_is_not : may_assign kind.Val 0 (assigned 0 val_before) ≡ false
twice_is_not = refl

pub not_in_a_loop : may_assign kind.Val 0 (repeated val_before) ≡ false
not_in_a_loop = refl

pub not_a_parameter : may_assign kind.Parameter 0 val_before ≡ false
not_a_parameter = refl

-- Numbers.

pub small : literal_of as_value (written.Number (record { value = Some 2147483647; long = false }))
    ≡ Some (int_literal 2147483647)
small = refl

pub great : literal_of as_value (written.Number (record { value = Some 2147483648; long = false }))
    ≡ Some (long_literal 2147483648)
great = refl

pub wanted : literal_of (meeting (or_null true long_type))
    (written.Number (record { value = Some 1; long = false })) ≡ Some (long_literal 1)
wanted = refl

pub too_great : literal_of as_value (written.Number (record { value = None; long = true })) ≡ None
too_great = refl

pub mixed : operation none o.Plus int_type long_type ≡ Some (op.Arithmetic arithmetic.Plus width.Long, long_type)
mixed = refl

pub texts : operation none o.Plus string_type (typed true nothing) ≡ Some (op.Concatenate, string_type)
texts = refl

pub no_shift_by_long : operation none o.Shl int_type long_type ≡ None
no_shift_by_long = refl

-- What completes.

abbrev truth : Bool → ExpressionForm
truth b = literal boolean_type (is.Boolean b)

abbrev empty : BlockForm
empty = block statements_end no_expression

pub for_ever : statement_completes (headers_with []) (while (at 1 1) (truth true) empty) ≡ false
for_ever = refl

pub until_break :
    statement_completes (headers_with [])
    (while (at 1 1) (truth true) (block (statement_then (evaluate (at 1 1) (break nothing_type)) statements_end)
    no_expression))
    ≡ true
until_break = refl

-- `true -> {}`, `false -> {}`
abbrev two_entries : EntryForms
two_entries =
    entry_then (entry (condition_then (equals (truth true)) conditions_end) empty)
    (entry_then (entry (condition_then (equals (truth false)) conditions_end) empty) entries_end)

pub both_named : names_all (headers_with []) boolean_type two_entries ≡ true
both_named = refl

pub null_missing : names_all (headers_with []) (or_null true boolean_type) two_entries ≡ false
null_missing = refl
