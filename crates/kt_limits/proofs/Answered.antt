-- What the walk over a unit answers is its judgement.
use Rattle.std.proofs.Common.{◌≡◌, ℕ, List, [], Option, Some, None, refl, ap, subst, sym, ◌∙◌}
use Rattle.std.specs.Prelude.{Result, Ok, Err}
use Rattle.kt_base.specs.declared.refusals.Pos.{Pos}
use Rattle.kt_typed.specs.Units.{UnitForm}
use Rattle.kt_limits.specs.Parts.{parts}
use Rattle.kt_limits.specs.Place.{IsWithin, IsRefusedAt}
use Rattle.kt_limits.specs.Walking.{walk_unit}
use Rattle.kt_limits.proofs.Judged.{first_beyond, verdict, Verdict, nothing_within, as_refused}
use Rattle.kt_limits.proofs.Walked.{after, no_part, unit_walked}
use Rattle.kt_limits.proofs.Directs.{code_same}

Told : UnitForm → Result ℕ Pos → Type 0
Told u (Ok n) = IsWithin u
Told u (Err p) = IsRefusedAt u p

of_verdict : (u : UnitForm) (r : Result ℕ Pos) → Verdict [] (parts u) (after r no_part) → Told u r
unfolding Told Verdict after no_part
of_verdict u (Ok n) v = v
of_verdict u (Err p) v = as_refused (parts u) p v

told : (u : UnitForm) (r : Result ℕ Pos) → r ≡ walk_unit u → Told u r
told u r is =
    of_verdict u r (subst (Verdict [] (parts u)) (unit_walked u (code_same u) ∙ ap (λ x. after x no_part) (sym is))
    (verdict [] (parts u) nothing_within))

pub within : (u : UnitForm) (n : ℕ) → Ok n ≡ walk_unit u → IsWithin u
unfolding Told
within u n is = told u (Ok n) is

pub refused : (u : UnitForm) (p : Pos) → Err p ≡ walk_unit u → IsRefusedAt u p
unfolding Told
refused u p is = told u (Err p) is
