-- What stands in the locals of a body until they are assigned.
use Rattle.std.proofs.Common.{◌≡◌, ◌≤◌, ◌-◌, ℕ, List, [], ◌++◌, length, Option, Some, None, refl, sym, ap, ◌∙◌}
use Rattle.std.specs.Prelude.{map, take, drop, slice_get, option_map}
use Rattle.std.proofs.lemmas.List.{append-nil, drop-map, length-map, length-drop, drop_all}
use Rattle.std.proofs.Math.Seq.{take-length}
use Rattle.std.proofs.lemmas.Option.{slice_get-map}
use Rattle.kt_typed.specs.declared.operators.TypedLocal.{TypedLocal}
use Rattle.kt_typed.specs.declared.bodies.TypedFun.{TypedFun, out-TypedFun}
use Rattle.kt_typed.specs.declared.bodies.Callee.TheFolds.{fold_out-TypedFun}
use Rattle.kt_typed.specs.Bodies.{ExpressionForm, CalleeForm, ReceiverForm, TargetForm, ConditionForm, OfKind, PartForm, OfStatementKind, BlockForm, CallForm, CatchForm, EntryForm, FunForm, StatementForm, fun_form}
use Rattle.kt_typed.specs.Bodies.{callee_seen, receiver_seen, target_seen, condition_seen, kind_seen, part_seen, statement_kind_seen, block_seen, call_seen, catch_seen, entry_seen, expression_seen, fun_seen, statement_seen}
use Rattle.kt_typed.specs.Operators.{LocalForm, local_form}
use Rattle.kt_values.specs.Values.{Value}
use Rattle.kt_meaning.specs.Classes.{blank}
use Rattle.kt_meaning.specs.Units.{blanks_of, variables_of}
use Rattle.kt_direct_values.specs.declared.values.DirectValue.{DirectValue}
use Rattle.kt_direct_values.specs.Forms.{value_form}

abbrev blank_form : LocalForm → Value
blank_form l = blank l.declared

blanks_are : (f : TypedFun) → blanks_of (fun_form f) ≡ map blank_form (map local_form (out-TypedFun f).locals)
blanks_are f =
    ap blanks_of
    (fold_out-TypedFun CalleeForm ReceiverForm TargetForm ConditionForm OfKind PartForm OfStatementKind BlockForm
    CallForm CatchForm EntryForm ExpressionForm FunForm StatementForm callee_seen receiver_seen target_seen
    condition_seen kind_seen part_seen statement_kind_seen block_seen call_seen catch_seen entry_seen
    expression_seen fun_seen statement_seen f)

-- one of them
pub blank_is : (f : TypedFun) (n : ℕ) (o : Option TypedLocal) → o ≡ slice_get (out-TypedFun f).locals n
    → option_map (λ l. blank_form (local_form l)) o ≡ slice_get (blanks_of (fun_form f)) n
blank_is f n o is =
    ap (option_map (λ l. blank_form (local_form l))) is ∙ sym (mapped (out-TypedFun f).locals n)
    ∙ ap (λ bs. slice_get bs n) (sym (blanks_are f))
  where
    mapped : (ls : List TypedLocal) (n : ℕ)
        → slice_get (map blank_form (map local_form ls)) n ≡ option_map (λ l. blank_form (local_form l)) (slice_get ls n)
    mapped ls n =
        slice_get-map blank_form (map local_form ls) n ∙ ap (option_map blank_form) (slice_get-map local_form ls n)
        ∙ twice (slice_get ls n)
      where
        twice : (o : Option TypedLocal)
            → option_map blank_form (option_map local_form o) ≡ option_map (λ l. blank_form (local_form l)) o
        twice None = refl
        twice (Some l) = refl

-- a slice from a place to the end
pub rest_is : (n : ℕ) (ls : List TypedLocal) → take (length ls - n) (drop n ls) ≡ drop n ls
rest_is n ls = ap (λ m. take m (drop n ls)) (sym (length-drop n ls)) ∙ take-length (drop n ls)

-- the arguments with those behind them
pub with_others : (f : TypedFun) (xs : List DirectValue)
    → map value_form xs ++ map blank_form (map local_form (drop (length xs) (out-TypedFun f).locals))
    ≡ variables_of (fun_form f) (map value_form xs)
with_others f xs =
    ap (λ bs. map value_form xs ++ bs)
    (ap (map blank_form) (sym (drop-map local_form (length xs) (out-TypedFun f).locals))
    ∙ sym (drop-map blank_form (length xs) (map local_form (out-TypedFun f).locals))
    ∙ ap (λ n. drop n (map blank_form (map local_form (out-TypedFun f).locals))) (sym (length-map xs value_form))
    ∙ ap (drop (length (map value_form xs))) (sym (blanks_are f)))

-- where there are no others
pub without_others : (f : TypedFun) (xs : List DirectValue) → length (out-TypedFun f).locals ≤ length xs
    → map value_form xs ≡ variables_of (fun_form f) (map value_form xs)
without_others f xs le =
    sym (append-nil (map value_form xs))
    ∙ ap (λ ls. map value_form xs ++ map blank_form (map local_form ls)) (sym (drop_all (length xs) (out-TypedFun f).locals le))
    ∙ with_others f xs
