-- Declarations as statements.
use Rattle.std.proofs.Common.{ℕ, List, [], ◌∷◌, Option, Some, None, ◌≡◌, refl, ap, sym, ◌∙◌, map, length}
use Rattle.std.specs.Prelude.{option_map}
use Rattle.kt_base.specs.declared.refusals.Pos.{Pos}
use Rattle.kt_typed.specs.declared.bodies.TypedExpression.{TypedExpression}
use Rattle.kt_typed.specs.declared.bodies.TypedStatement.{roll-TypedStatement}
use Rattle.kt_typed.specs.declared.bodies.TypedStatementKind.{TypedStatementKind}
use Rattle.kt_typed.specs.declared.bodies.TypedStatementKind.TheVariants as kind
use Rattle.kt_typed.specs.declared.bodies.Callee.TheOpen.{TypedStatementKind-F}
use Rattle.kt_typed.specs.declared.bodies.Callee.TheFolds.{fold-TypedStatementKind, fold-roll-TypedStatement, fold-roll-TypedStatementKind}
use Rattle.kt_typed.specs.Bodies.{ExpressionForm, CalleeForm, ReceiverForm, TargetForm, ConditionForm, OfKind, PartForm, OfStatementKind, BlockForm, CallForm, CatchForm, EntryForm, FunForm, StatementForm, declare, maybe_expression, expression_form, statement_form}
use Rattle.kt_typed.specs.Bodies.{callee_seen, receiver_seen, target_seen, condition_seen, kind_seen, part_seen, statement_kind_seen, block_seen, call_seen, catch_seen, entry_seen, expression_seen, fun_seen, statement_seen}
use Rattle.kt_check_rules.specs.States.{State}
use Rattle.kt_check_deciding.specs.Outcomes.{found, reading}

abbrev kind_shown : TypedStatementKind → OfStatementKind
kind_shown =
    fold-TypedStatementKind CalleeForm ReceiverForm TargetForm ConditionForm OfKind PartForm OfStatementKind BlockForm
    CallForm CatchForm EntryForm ExpressionForm FunForm StatementForm callee_seen receiver_seen target_seen
    condition_seen kind_seen part_seen statement_kind_seen block_seen call_seen catch_seen entry_seen
    expression_seen fun_seen statement_seen

shown : (at : Pos) (k : TypedStatementKind) →
    statement_form (roll-TypedStatement (record { at = at; kind = k })) ≡ kind_shown k at
shown at k =
    fold-roll-TypedStatement CalleeForm ReceiverForm TargetForm ConditionForm OfKind PartForm OfStatementKind BlockForm
    CallForm CatchForm EntryForm ExpressionForm FunForm StatementForm callee_seen receiver_seen target_seen
    condition_seen kind_seen part_seen statement_kind_seen block_seen call_seen catch_seen entry_seen
    expression_seen fun_seen statement_seen (record { at = at; kind = k })

kind_declared : (n : ℕ) (e : Option TypedExpression) (at : Pos) →
    kind_shown (kind.Declare n e) at ≡ declare at n (maybe_expression (option_map expression_form e))
kind_declared n (Some e) at =
    ap (λ k. kind_shown k at) (sym (kind.rolls-Declare n (Some e)))
    ∙ ap (λ (f : OfStatementKind). f at)
    (fold-roll-TypedStatementKind CalleeForm ReceiverForm TargetForm ConditionForm OfKind PartForm OfStatementKind
    BlockForm CallForm CatchForm EntryForm ExpressionForm FunForm StatementForm callee_seen receiver_seen target_seen
    condition_seen kind_seen part_seen statement_kind_seen block_seen call_seen catch_seen entry_seen
    expression_seen fun_seen statement_seen (TypedStatementKind-F.Declare n (Some e)))
kind_declared n None at =
    ap (λ k. kind_shown k at) (sym (kind.rolls-Declare n None))
    ∙ ap (λ (f : OfStatementKind). f at)
    (fold-roll-TypedStatementKind CalleeForm ReceiverForm TargetForm ConditionForm OfKind PartForm OfStatementKind
    BlockForm CallForm CatchForm EntryForm ExpressionForm FunForm StatementForm callee_seen receiver_seen target_seen
    condition_seen kind_seen part_seen statement_kind_seen block_seen call_seen catch_seen entry_seen
    expression_seen fun_seen statement_seen (TypedStatementKind-F.Declare n None))

pub declared_form : (at : Pos) (n : ℕ) (e : Option TypedExpression) →
    statement_form (roll-TypedStatement (record { at = at; kind = kind.Declare n e }))
    ≡ declare at n (maybe_expression (option_map expression_form e))
declared_form at n e = shown at (kind.Declare n e) ∙ kind_declared n e at

pub length_map : {A B : Type 0} (f : A → B) (xs : List A) → length xs ≡ length (map f xs)
length_map f [] = refl
length_map f (x ∷ xs) = rw (length_map f xs) refl

pub same_reading : {A : Type 0} (a b : A) (s t : State) → a ≡ b → s ≡ t →
    found (reading a s) ≡ found (reading b t)
same_reading a b s t e f = ap (λ a. found (reading a s)) e ∙ ap (λ s. found (reading b s)) f
