-- The facts that a test gives where it holds, and where it doesn't.
use Rattle.std.specs.Prelude.{ℕ, Bool, true, false, not, List, slice_get, Option, Some, None, if◌then◌else◌}
use Rattle.kt_tree.specs.declared.bodies.PrefixOperator.TheVariants as before
use Rattle.kt_types_tree.specs.Types.{TypeForm}
use Rattle.kt_types_tree.specs.Hierarchy.{HierarchyForm}
use Rattle.kt_typed.specs.declared.operators.TypedOperator.TheVariants as op
use Rattle.kt_typed.specs.Operators.{LocalForm}
use Rattle.kt_typed.specs.Bodies.{ExpressionForm, local, prefix, binary, type_test}
use Rattle.kt_flow.specs.Facts.{FactsForm, learn, meet}
use Rattle.kt_check_rules.specs.Kinds.{present_type}
use Rattle.kt_check_rules.specs.Names.{is_stable}
use Rattle.kt_check_rules.specs.Completion.{is_null_literal}

-- of a local that is no `var`
abbrev pub learn_stable : ℕ → Option LocalForm → TypeForm → FactsForm → FactsForm
learn_stable n None t f = f
learn_stable n (Some l) t f = if is_stable l.kind then learn n t f else f

-- of an expression that is a local
abbrev pub learn_of : List LocalForm → ExpressionForm → TypeForm → FactsForm → FactsForm
learn_of locals (local u n) t f = learn_stable n (slice_get locals n) t f
learn_of locals _ t f = f

-- it isn't null
abbrev pub learn_present : HierarchyForm → List LocalForm → ExpressionForm → FactsForm → FactsForm
learn_present h locals (local u n) f = learn_stable n (slice_get locals n) (present_type h u) f
learn_present h locals _ f = f

-- two expressions differ: where one is `null`, the other isn't
abbrev pub learn_unequal : HierarchyForm → List LocalForm → ExpressionForm → ExpressionForm → FactsForm → FactsForm
learn_unequal h locals a b f =
    if is_null_literal b then learn_present h locals a f
    else (if is_null_literal a then learn_present h locals b f else f)

-- the first is true where the test holds
abbrev pub learnt : HierarchyForm → List LocalForm → Bool → ExpressionForm → FactsForm → FactsForm
learnt h locals true (binary t op.Conjunction a b) f = learnt h locals true b (learnt h locals true a f)
learnt h locals false (binary t op.Conjunction a b) f =
    meet (learnt h locals false a f) (learnt h locals false b (learnt h locals true a f))
learnt h locals true (binary t op.Disjunction a b) f =
    meet (learnt h locals true a f) (learnt h locals true b (learnt h locals false a f))
learnt h locals false (binary t op.Disjunction a b) f = learnt h locals false b (learnt h locals false a f)
learnt h locals false (binary t op.Equal a b) f = learn_unequal h locals a b f
learnt h locals true (binary t op.NotEqual a b) f = learn_unequal h locals a b f
learnt h locals holds (prefix t before.Not e) f = learnt h locals (not holds) e f
learnt h locals true (type_test t e false u) f = learn_of locals e u f
learnt h locals false (type_test t e true u) f = learn_of locals e u f
learnt h locals _ _ f = f
