-- How rows come out.
use Rattle.std.proofs.Common.{◌≡◌, ℕ, Option, Some, None, Result, Ok, Err, IfOk, OnOk, refl, sym, ap, ◌∙◌, subst}
use Rattle.kt_base.specs.declared.errors.NoMemory.{NoMemory}
use Rattle.mach_value.specs.declared.values.Value.{Value}
use Rattle.mach_value.specs.declared.heaps.Heap.{Heap}
use Rattle.mach_value.specs.Exports.{HasNoLump}
use Rattle.mach_rows.specs.declared.throwing.Fault.{Fault}
use Rattle.mach_rows.specs.declared.throwing.Fault.TheVariants as fault
use Rattle.mach_rows.specs.declared.sending.Sending.{Sending}
use Rattle.mach_rows.specs.declared.ends.NativeEnd.{NativeEnd}
use Rattle.mach_rows.specs.Courses.{ended, after, throws}
use Rattle.mach_rows.specs.Asking.{Row, does, sends, Sent, Comes, unless_row, on_cell}

-- what has no lump is thrown
pub sent_refused : (r : Result NativeEnd NoMemory) (how : Sending) (x : Value) (old new : Heap) → HasNoLump old.objects x
    → IfOk r (λ e. e ≡ ended (throws fault.NotShareable) old) → OnOk r (new ≡ after (throws fault.NotShareable) old)
    → IfOk r (λ e. Comes (sends how x) old e new)
unfolding Comes
sent_refused (Ok e) how x old new none h k = subst (λ e. Sent how x old e new) (sym h) (none, refl, k)
sent_refused (Err e) how x old new none h k = tt

-- a row that throws
pub row_throws : (r : Result NativeEnd NoMemory) (row : Row) (f : Fault) (old new : Heap) → row ≡ does (throws f)
    → IfOk r (λ e. e ≡ ended (throws f) old) → OnOk r (new ≡ after (throws f) old) → IfOk r (λ e. Comes row old e new)
unfolding Comes
row_throws (Ok e) row f old new is h k = subst (λ row. Comes row old e new) (sym is) (h, k)
row_throws (Err e) row f old new is h k = tt

pub faulted : (found : Option Fault) (go : Row) (f : Fault) → Some f ≡ found → unless_row found go ≡ does (throws f)
faulted found go f e = ap (λ o. unless_row o go) (sym e)

pub no_cell : (found : Option Fault) (cell : Option ℕ) (go : ℕ → Row) → None ≡ found → None ≡ cell → unless_row found (on_cell cell go) ≡ does (throws fault.NullPointer)
no_cell found cell go e f = ap (λ o. unless_row o (on_cell cell go)) (sym e) ∙ ap (λ c. on_cell c go) (sym f)
