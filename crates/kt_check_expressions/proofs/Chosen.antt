-- What was chosen among types is what is read.
use Rattle.std.proofs.Common.{List, [], ◌∷◌, Option, Some, None, ◌≡◌, refl, ap, ◌∙◌, sym, subst, map}
use Rattle.std.specs.Prelude.{Result, Ok, Err, option_map, find}
use Rattle.kt_tree.specs.declared.bodies.BinaryOperator.{BinaryOperator}
use Rattle.kt_tree.specs.declared.bodies.PrefixOperator.TheVariants as before
use Rattle.kt_types_tree.specs.declared.types.KtType.{KtType}
use Rattle.kt_types_tree.specs.Types.{TypeForm, type_form}
use Rattle.kt_types.specs.Kinds.{printable}
use Rattle.kt_typed.specs.declared.bodies.TypedKind.{TypedKind}
use Rattle.kt_typed.specs.declared.bodies.TypedExpression.{TypedExpression, roll-TypedExpression}
use Rattle.kt_typed.specs.declared.bodies.Callee.TheFolds.{fold-roll-TypedExpression}
use Rattle.kt_typed.specs.Bodies.{ExpressionForm, CalleeForm, ReceiverForm, TargetForm, ConditionForm, OfKind, PartForm, OfStatementKind, BlockForm, CallForm, CatchForm, EntryForm, FunForm, StatementForm, prefix, binary, expression_form}
use Rattle.kt_typed.specs.Bodies.{callee_seen, receiver_seen, target_seen, condition_seen, kind_seen, part_seen, statement_kind_seen, block_seen, call_seen, catch_seen, entry_seen, expression_seen, fun_seen, statement_seen}
use Rattle.kt_check_rules.specs.Choices.{first_some, pairs}
use Rattle.kt_check_rules.specs.Kinds.{number_type}
use Rattle.kt_check_rules.specs.States.{Context, State, hierarchy}
use Rattle.kt_check_rules.specs.Typings.{Use}
use Rattle.kt_check_rules.specs.Literals.{can_print}
use Rattle.kt_check_rules.specs.Operators as rules
use Rattle.kt_check_deciding.specs.Outcomes.{Outcome, found, none, unbuilt, Reading, reading, there, gives_some, gives_if, gives_one}
use Rattle.kt_check_deciding.specs.Choosing.{taken}
use Rattle.kt_check_deciding.specs.Expressions as spec
use Rattle.kt_check_names.specs.declared.why.Why.{Why}
use Rattle.kt_check_names.specs.declared.why.Why.TheVariants as why
use Rattle.kt_check_names.specs.Answers.{Answers, Reads}
use Rattle.kt_check_names.specs.Views.{kind_form}
use Rattle.kt_check_expressions.specs.Types.{taken_type, NumberForm, as_number, OperandTypes, operated_pair}
use Rattle.kt_check_expressions.proofs.SameKind.{taken_is, printed_is, negated_is, operated_is}

-- an expression that is made of a kind and a type
pub made_is : (t : KtType) (k : TypedKind) →
    expression_form (roll-TypedExpression (record { of_type = t; kind = k })) ≡ kind_form k (type_form t)
made_is t k =
    fold-roll-TypedExpression CalleeForm ReceiverForm TargetForm ConditionForm OfKind PartForm OfStatementKind BlockForm
    CallForm CatchForm EntryForm ExpressionForm FunForm StatementForm callee_seen receiver_seen target_seen
    condition_seen kind_seen part_seen statement_kind_seen block_seen call_seen catch_seen entry_seen
    expression_seen fun_seen statement_seen (record { of_type = t; kind = k })

there_some : {A : Type 0} (o : Option A) (a : A) → there o ≡ found a → o ≡ Some a
there_some None a e = cc
there_some (Some b) a e = let f : b ≡ a = cc in ap (λ a. Some a) f

-- one of the typings
pub one_reads : (o : Option TypeForm) (k : TypedKind) (t : KtType) (s : State) (p : Option ExpressionForm) →
    p ≡ option_map (kind_form k) o → there o ≡ found (type_form t) →
    gives_some p s ≡ found (reading (expression_form (roll-TypedExpression (record { of_type = t; kind = k }))) s)
one_reads o k t s p e f =
    ap (λ p. gives_some p s) (e ∙ ap (option_map (kind_form k)) (there_some o (type_form t) f))
    ∙ ap (λ u. found (reading u s)) (sym (made_is t k))

pub taken_reads : (K : Context) (w : Use) (k : TypedKind) (ts : List TypeForm) (t : KtType) (s : State) →
    there (taken_type K w ts) ≡ found (type_form t) →
    gives_some (taken K w (map (kind_form k) ts)) s
    ≡ found (reading (expression_form (roll-TypedExpression (record { of_type = t; kind = k }))) s)
taken_reads K w k ts t s e =
    one_reads (taken_type K w ts) k t s (taken K w (map (kind_form k) ts)) (taken_is K w k ts) e

pub printed_reads : (K : Context) (k : TypedKind) (ts : List TypeForm) (t : KtType) (s : State) →
    there (find (printable (hierarchy K)) ts) ≡ found (type_form t) →
    gives_some (find (can_print K) (map (kind_form k) ts)) s
    ≡ found (reading (expression_form (roll-TypedExpression (record { of_type = t; kind = k }))) s)
printed_reads K k ts t s e =
    one_reads (find (printable (hierarchy K)) ts) k t s (find (can_print K) (map (kind_form k) ts))
    (printed_is K k ts) e

-- what is answered is what is read
found_reads : {A B : Type 0} (view : A → List B) (r : Result A Why) (us : List B) (s : State) →
    Answers view r (found us) → Reads view r s (found (reading us s))
found_reads view (Ok a) us s e = let f : us ≡ view a = cc in ap (λ us. found (reading us s)) f
found_reads view (Err why.Refused) us s e = cc
found_reads view (Err why.NotBuilt) us s e = cc
found_reads view (Err why.NoMemory) us s e = tt

-- an expression that is made where something was chosen
pub if_reads : {A B : Type 0} (view : A → List ExpressionForm) (r : Result A Why) (o : Option B) (b : B)
    (make : B → ExpressionForm) (p : Option ExpressionForm) (u : ExpressionForm) (s : State) → p ≡ option_map make o →
    there o ≡ found b → u ≡ make b → Answers view r (found (u ∷ [])) → Reads view r s (gives_if p s)
if_reads view r o b make p u s e f g a =
    subst (λ p. Reads view r s (gives_if p s))
    (sym (e ∙ ap (option_map make) (there_some o b f) ∙ ap (λ u. Some u) (sym g)))
    (found_reads view r (u ∷ []) s a)

-- nothing was chosen
pub none_reads : {A B C : Type 0} (first : C → B) (view : A → List ExpressionForm) (w : Why) (o : Option B)
    (make : B → ExpressionForm) (p : Option ExpressionForm) (s : State) → p ≡ option_map make o →
    Answers first (Err w) (there o) → Reads view (Err w) s (gives_if p s)
none_reads first view why.Refused None make p s e a = ap (λ p. gives_if p s) e
none_reads first view why.Refused (Some b) make p s e a = cc
none_reads first view why.NotBuilt None make p s e a = cc
none_reads first view why.NotBuilt (Some b) make p s e a = cc
none_reads first view why.NoMemory o make p s e a = tt

pub some_fails : (o : Option TypeForm) (k : TypedKind) (p : Option ExpressionForm) (w : Why) (s : State) →
    p ≡ option_map (kind_form k) o → Answers type_form (Err w) (there o) →
    Reads expression_form (Err w) s (gives_some p s)
some_fails None k p why.Refused s e a = ap (λ p. gives_some p s) e
some_fails (Some t) k p why.Refused s e a = cc
some_fails None k p why.NotBuilt s e a = cc
some_fails (Some t) k p why.NotBuilt s e a = cc
some_fails o k p why.NoMemory s e a = tt
