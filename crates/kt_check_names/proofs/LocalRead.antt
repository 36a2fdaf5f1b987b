-- A local that is read, with the types that it may have.
use Rattle.std.proofs.Common.{ℕ, List, [], ◌∷◌, Option, Some, None, ◌≡◌, refl, ap, sym, ◌∙◌, map, Bool, true}
use Rattle.std.specs.Prelude.{slice_get, option_map}
use Rattle.std.proofs.lemmas.Option.{slice_get-map}
use Rattle.kt_types_tree.specs.declared.types.KtType.{KtType}
use Rattle.kt_types_tree.specs.Types.{type_form}
use Rattle.kt_typed.specs.declared.bodies.TypedKind.TheVariants as kind
use Rattle.kt_typed.specs.declared.bodies.Callee.TheOpen.{TypedKind-F}
use Rattle.kt_typed.specs.declared.bodies.Callee.TheFolds.{fold-roll-TypedKind}
use Rattle.kt_typed.specs.declared.operators.TypedLocal.{TypedLocal}
use Rattle.kt_typed.specs.Operators.{local_form}
use Rattle.kt_typed.specs.Bodies.{ExpressionForm, CalleeForm, ReceiverForm, TargetForm, ConditionForm, OfKind, PartForm, OfStatementKind, BlockForm, CallForm, CatchForm, EntryForm, FunForm, StatementForm}
use Rattle.kt_typed.specs.Bodies.{callee_seen, receiver_seen, target_seen, condition_seen, kind_seen, part_seen, statement_kind_seen, block_seen, call_seen, catch_seen, entry_seen, expression_seen, fun_seen, statement_seen}
use Rattle.kt_flow.specs.Facts.{FactsForm}
use Rattle.kt_check_rules.specs.Names.{local_with, reading_of, types_of_local}
use Rattle.kt_check_deciding.specs.Outcomes.{found, there}
use Rattle.kt_check_names.specs.Views.{kind_form}

local_kind : (n : ℕ) → kind_form (kind.Local n) ≡ local_with n
local_kind n =
    ap kind_form (sym (kind.rolls-Local n))
    ∙ fold-roll-TypedKind CalleeForm ReceiverForm TargetForm ConditionForm OfKind PartForm OfStatementKind BlockForm
    CallForm CatchForm EntryForm ExpressionForm FunForm StatementForm callee_seen receiver_seen target_seen
    condition_seen kind_seen part_seen statement_kind_seen block_seen call_seen catch_seen entry_seen
    expression_seen fun_seen statement_seen (TypedKind-F.Local n)

pub read_is : (n : ℕ) (locals : List TypedLocal) (l : TypedLocal) (f : FactsForm) (ts : List KtType) →
    Some l ≡ slice_get locals n → f.surely_assigned n ≡ true →
    map type_form ts ≡ types_of_local (local_form l) f n →
    there (reading_of n (slice_get (map local_form locals) n) f)
    ≡ found (map (kind_form (kind.Local n)) (map type_form ts))
read_is n locals l f ts e s t =
    ap (λ o. there (reading_of n o f)) (slice_get-map local_form locals n ∙ ap (option_map local_form) (sym e))
    ∙ rw (s, local_kind n, t) refl
