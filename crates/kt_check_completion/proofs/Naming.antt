-- The conditions of an entry, one by one.
use Rattle.std.proofs.Common.{ℕ, zero, suc, ◌<◌, ◌-◌, Bool, true, List, [], ◌∷◌, length, map, ◌≡◌, refl, ap, sym, ◌∙◌, arith}
use Rattle.std.specs.Prelude.{◌||◌, ◌&&◌, ◌==◌}
use Rattle.kt_typed.specs.declared.bodies.TypedCondition.{TypedCondition}
use Rattle.kt_typed.specs.Bodies.{ExpressionForm, ConditionForm, equals, holds, of_type, ConditionForms, condition_then, conditions_of, condition_form, EntryForms}
use Rattle.kt_check_rules.specs.Completion.{is_named, is_else, is_entry, names, names_entries}
use Rattle.kt_check_completion.specs.Values.{condition_names}

pub next_condition : (test : ExpressionForm → Bool) (c : ConditionForm) (cs : ConditionForms) →
    is_named test (condition_then c cs) ≡ (condition_names test c || is_named test cs)
next_condition test (equals e) cs = refl
next_condition test (holds e) cs = refl
next_condition test (of_type b t) cs = refl

pub none_is_else : (cs : List TypedCondition) → (length cs == 0) ≡ is_else (conditions_of (map condition_form cs))
none_is_else [] = refl
none_is_else (c ∷ cs) = grind arith

-- the entries of an enum, from the last one on
last_entry : (row m : ℕ) (es : EntryForms) (b : Bool) → b ≡ names (is_entry row m) es → b ≡ true →
    names_entries row (suc m) es ≡ names_entries row m es
last_entry row m es b e q = ap (λ b. b && names_entries row m es) (sym e ∙ q)

pub next_entry : (row n : ℕ) (es : EntryForms) (b : Bool) → 0 < n → b ≡ names (is_entry row (n - 1)) es →
    b ≡ true → names_entries row n es ≡ names_entries row (n - 1) es
next_entry row n es b p e q =
    let f : n ≡ suc (n - 1) = omega (arith, p) in
    ap (λ m. names_entries row m es) f ∙ last_entry row (n - 1) es b e q
