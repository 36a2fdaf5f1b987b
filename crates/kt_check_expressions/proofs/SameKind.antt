-- Choices among expressions that differ in their types are choices among the types.
use Rattle.std.proofs.Common.{List, [], ◌∷◌, ◌++◌, Option, Some, None, ◌≡◌, refl, ap, ◌∙◌, sym, map, Bool, true, false, if◌then◌else◌}
use Rattle.std.specs.Prelude.{option_map, find}
use Rattle.std.specs.List.{flat_map}
use Rattle.kt_tree.specs.declared.bodies.BinaryOperator.{BinaryOperator}
use Rattle.kt_tree.specs.declared.bodies.PrefixOperator.TheVariants as before
use Rattle.kt_types_tree.specs.Types.{TypeForm}
use Rattle.kt_types_tree.specs.Hierarchy.{HierarchyForm}
use Rattle.kt_types.specs.Kinds.{printable}
use Rattle.kt_typed.specs.declared.bodies.TypedKind.{TypedKind}
use Rattle.kt_typed.specs.declared.bodies.Callee.TheOpen.{TypedKind-F}
use Rattle.kt_typed.specs.declared.bodies.Callee.TheFolds.{fold_out-TypedKind}
use Rattle.kt_typed.specs.declared.operators.Width.{Width}
use Rattle.kt_typed.specs.Bodies.{ExpressionForm, CalleeForm, ReceiverForm, TargetForm, ConditionForm, OfKind, PartForm, OfStatementKind, BlockForm, CallForm, CatchForm, EntryForm, FunForm, StatementForm, prefix, binary}
use Rattle.kt_typed.specs.Bodies.{callee_seen, receiver_seen, target_seen, condition_seen, kind_seen, part_seen, statement_kind_seen, block_seen, call_seen, catch_seen, entry_seen, expression_seen, fun_seen, statement_seen}
use Rattle.kt_check_rules.specs.Choices.{first_of, first_some, or_else, pairs, then_on}
use Rattle.kt_check_rules.specs.Kinds.{type_of, width_of, number_type}
use Rattle.kt_check_rules.specs.States.{Context, hierarchy}
use Rattle.kt_check_rules.specs.Typings.{Use, unused, as_value, meeting}
use Rattle.kt_check_rules.specs.Literals.{can_print}
use Rattle.kt_check_rules.specs.Operators as rules
use Rattle.kt_check_deciding.specs.Subtypes.{is_below}
use Rattle.kt_check_deciding.specs.Choosing.{meets, taken}
use Rattle.kt_check_deciding.specs.Expressions as spec
use Rattle.kt_check_names.specs.Views.{kind_form}
use Rattle.kt_check_expressions.specs.Types.{taken_type, NumberForm, with_width, as_number, OperandTypes, operands, operated, operated_pair}

abbrev Seen : Type 0
Seen = TypedKind-F CalleeForm ReceiverForm TargetForm ConditionForm OfKind PartForm OfStatementKind BlockForm CallForm
    CatchForm EntryForm ExpressionForm FunForm StatementForm

-- the type that a kind was given is the type that it has
seen_type : (v : Seen) (t : TypeForm) → type_of (kind_seen v t) ≡ t
seen_type (TypedKind-F.Literal l) t = refl
seen_type (TypedKind-F.Template ps) t = refl
seen_type (TypedKind-F.Local n) t = refl
seen_type (TypedKind-F.Captured n) t = refl
seen_type TypedKind-F.This t = refl
seen_type (TypedKind-F.Constant n) t = refl
seen_type (TypedKind-F.EnumEntry d n) t = refl
seen_type (TypedKind-F.Property r p) t = refl
seen_type (TypedKind-F.Prefix o e) t = refl
seen_type (TypedKind-F.Binary o a b) t = refl
seen_type (TypedKind-F.TypeTest e not u) t = refl
seen_type (TypedKind-F.Cast e or_null u) t = refl
seen_type (TypedKind-F.NotNull e) t = refl
seen_type (TypedKind-F.Index a i) t = refl
seen_type (TypedKind-F.Call c) t = refl
seen_type (TypedKind-F.If e b c) t = refl
seen_type (TypedKind-F.When e es) t = refl
seen_type (TypedKind-F.Try b cs f) t = refl
seen_type (TypedKind-F.Throw e) t = refl
seen_type (TypedKind-F.Return e) t = refl
seen_type TypedKind-F.Break t = refl
seen_type TypedKind-F.Continue t = refl
seen_type (TypedKind-F.Lambda n f) t = refl

pub has_type : (k : TypedKind) (t : TypeForm) → type_of (kind_form k t) ≡ t
has_type k t =
    ap (λ (f : OfKind). type_of (f t))
    (fold_out-TypedKind CalleeForm ReceiverForm TargetForm ConditionForm OfKind PartForm OfStatementKind BlockForm
    CallForm CatchForm EntryForm ExpressionForm FunForm StatementForm callee_seen receiver_seen target_seen
    condition_seen kind_seen part_seen statement_kind_seen block_seen call_seen catch_seen entry_seen
    expression_seen fun_seen statement_seen k)
    ∙ seen_type _ t

-- finding among images
find_map : {A B : Type 0} (test : B → Bool) (f : A → B) (check : A → Bool) → ((x : A) → test (f x) ≡ check x) →
    (xs : List A) → find test (map f xs) ≡ option_map f (find check xs)
find_map test f check same [] = refl
find_map test f check same (x ∷ xs) = rw (same x) (by_test (find_map test f check same xs) (check x))
  where
    by_test : find test (map f xs) ≡ option_map f (find check xs) → (b : Bool) →
        (if b then Some (f x) else find test (map f xs)) ≡ option_map f (if b then Some x else find check xs)
    by_test rest true = refl
    by_test rest false = rest

first_map_of : {A B C D : Type 0} (give : B → Option C) (f : A → B) (choose : A → Option D) (make : D → C) →
    ((x : A) → give (f x) ≡ option_map make (choose x)) → (xs : List A) →
    first_some give (map f xs) ≡ option_map make (first_some choose xs)
first_map_of give f choose make same [] = refl
first_map_of {D = D} give f choose make same (x ∷ xs) =
    rw (same x) (by_choice (first_map_of give f choose make same xs) (choose x))
  where
    by_choice : first_some give (map f xs) ≡ option_map make (first_some choose xs) → (o : Option D) →
        or_else (option_map make o) (first_some give (map f xs)) ≡ option_map make (or_else o (first_some choose xs))
    by_choice rest (Some d) = refl
    by_choice rest None = rest

pub taken_is : (K : Context) (w : Use) (k : TypedKind) (ts : List TypeForm) →
    taken K w (map (kind_form k) ts) ≡ option_map (kind_form k) (taken_type K w ts)
taken_is K unused k [] = refl
taken_is K unused k (t ∷ ts) = refl
taken_is K as_value k [] = refl
taken_is K as_value k (t ∷ ts) = refl
taken_is K (meeting t) k ts =
    find_map (meets (hierarchy K) t) (kind_form k) (λ s. is_below (hierarchy K) s t)
    (λ s. ap (λ u. is_below (hierarchy K) u t) (has_type k s)) ts

pub printed_is : (K : Context) (k : TypedKind) (ts : List TypeForm) →
    find (can_print K) (map (kind_form k) ts) ≡ option_map (kind_form k) (find (printable (hierarchy K)) ts)
printed_is K k ts =
    find_map (can_print K) (kind_form k) (printable (hierarchy K))
    (λ s. ap (printable (hierarchy K)) (has_type k s)) ts

pub negated_is : (k : TypedKind) (ts : List TypeForm) →
    first_some rules.negated (map (kind_form k) ts)
    ≡ option_map (λ n. prefix (number_type n.width) before.Negate (kind_form k n.shown)) (first_some as_number ts)
negated_is k ts =
    first_map_of rules.negated (kind_form k) as_number
    (λ n. prefix (number_type n.width) before.Negate (kind_form k n.shown)) each ts
  where
    by_width : (t : TypeForm) (o : Option Width) → rules.negated_width (kind_form k t) o
        ≡ option_map (λ n. prefix (number_type n.width) before.Negate (kind_form k n.shown))
        (option_map (with_width t) o)
    by_width t None = refl
    by_width t (Some w) = refl

    each : (t : TypeForm) → rules.negated (kind_form k t)
        ≡ option_map (λ n. prefix (number_type n.width) before.Negate (kind_form k n.shown)) (as_number t)
    each t = rw (has_type k t) (by_width t (width_of t))

map_append : {A B : Type 0} (f : A → B) (xs ys : List A) → map f (xs ++ ys) ≡ map f xs ++ map f ys
map_append f [] ys = refl
map_append f (x ∷ xs) ys = ap (◌∷◌ (f x)) (map_append f xs ys)

map_map : {A B C : Type 0} (f : B → C) (g : A → B) (xs : List A) → map f (map g xs) ≡ map (λ x. f (g x)) xs
map_map f g [] = refl
map_map f g (x ∷ xs) = ap (◌∷◌ (f (g x))) (map_map f g xs)

abbrev both_kinds : TypedKind → TypedKind → TypeForm × TypeForm → ExpressionForm × ExpressionForm
both_kinds k l (s, t) = (kind_form k s, kind_form l t)

pairs_map : (k l : TypedKind) (ss ts : List TypeForm) →
    pairs (map (kind_form k) ss) (map (kind_form l) ts) ≡ map (both_kinds k l) (pairs ss ts)
pairs_map k l [] ts = refl
pairs_map k l (s ∷ ss) ts =
    let left : ExpressionForm → ExpressionForm × ExpressionForm = λ v. (kind_form k s, v) in
    let pair : TypeForm → TypeForm × TypeForm = λ t. (s, t) in
    rw (
      map_map left (kind_form l) ts,
      pairs_map k l ss ts,
      map_append (both_kinds k l) (map pair ts) (pairs ss ts),
      map_map (both_kinds k l) pair ts,
    ) refl

pub operated_is : (K : Context) (o : BinaryOperator) (k l : TypedKind) (ss ts : List TypeForm) →
    spec.operated K o (map (kind_form k) ss) (map (kind_form l) ts)
    ≡ option_map (λ p. binary p.operation.1 p.operation.0 (kind_form k p.left) (kind_form l p.right))
    (first_some (operated_pair (hierarchy K) o) (pairs ss ts))
operated_is K o k l ss ts =
    ap (first_some (rules.applied (hierarchy K) o)) (pairs_map k l ss ts)
    ∙ first_map_of (rules.applied (hierarchy K) o) (both_kinds k l) (operated_pair (hierarchy K) o)
    (λ p. binary p.operation.1 p.operation.0 (kind_form k p.left) (kind_form l p.right)) each (pairs ss ts)
  where
    by_operation : (s t : TypeForm) (q : Option rules.Operation) →
        then_on q (λ f. Some (binary f.1 f.0 (kind_form k s) (kind_form l t)))
        ≡ option_map (λ p. binary p.operation.1 p.operation.0 (kind_form k p.left) (kind_form l p.right))
        (option_map (operands s t) q)
    by_operation s t None = refl
    by_operation s t (Some f) = refl

    each : (p : TypeForm × TypeForm) → rules.applied (hierarchy K) o (both_kinds k l p)
        ≡ option_map (λ p. binary p.operation.1 p.operation.0 (kind_form k p.left) (kind_form l p.right))
        (operated_pair (hierarchy K) o p)
    each (s, t) = rw (has_type k s, has_type l t) (by_operation s t (rules.operation (hierarchy K) o s t))
