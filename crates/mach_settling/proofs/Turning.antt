-- One field or object more is settled.
use Rattle.std.proofs.Common.{◌≡◌, ℕ, zero, suc, ◌+◌, ◌<◌, ◌≤◌, List, [], ◌∷◌, length, drop, get_or, refl, sym, ap, ◌∙◌, arith}
use Rattle.mach_value.specs.declared.values.FieldKind.{FieldKind}
use Rattle.mach_value.specs.declared.values.Field.{Field}
use Rattle.mach_value.specs.declared.objects.Object.{Object}
use Rattle.std.proofs.lemmas.List.{get_or_default}
use Rattle.mach_value.proofs.Turns.{drop_less}
use Rattle.mach_settling.specs.declared.shapes.Shape.{Shape}
use Rattle.mach_settling.specs.Settled.{Settling, kind_at, settled_field, settled_fields, settled_at, settled}

pub same_settling : (s t : Settling) → s.objects ≡ t.objects → s.fields ≡ t.fields → s ≡ t
same_settling s t e f =
    let g : s ≡ record { objects = t.objects; fields = s.fields } = ap (λ os. record { objects = os; fields = s.fields }) e in
    let h : record { objects = t.objects; fields = s.fields } ≡ t = ap (λ fs. record { objects = t.objects; fields = fs }) f in
    g ∙ h

pub fields_turn : (kinds : List FieldKind) (at : ℕ) (fields : List Field) (kind : FieldKind) (x d : Field) (s next : Settling) → at < length fields
    → x ≡ get_or fields at d → kind ≡ kind_at kinds at x
    → next.objects ≡ (settled_field kind x s).objects → next.fields ≡ (settled_field kind x s).fields
    → settled_fields kinds (at + 1) (drop (at + 1) fields) next ≡ settled_fields kinds at (drop at fields) s
unfolding settled_fields
fields_turn kinds at fields kind x d s next lt is k e f =
    let here : x ≡ get_or fields at x = is ∙ get_or_default fields at d x lt in
    let q : next ≡ settled_field (kind_at kinds at x) x s = same_settling next (settled_field kind x s) e f ∙ ap (λ k. settled_field k x s) k in
    ap (settled_fields kinds (at + 1) (drop (at + 1) fields)) q
    ∙ ap (λ xs. settled_fields kinds at xs s) (sym (drop_less fields at x lt here))

drop_past : {A : Type 0} (xs : List A) (n : ℕ) → length xs ≤ n → drop n xs ≡ []
drop_past [] zero h = refl
drop_past [] (suc n) h = refl
drop_past (x ∷ xs) zero h = absurd (omega arith)
drop_past (x ∷ xs) (suc n) h = drop_past xs n (omega arith)

pub fields_done : (kinds : List FieldKind) (at : ℕ) (fields : List Field) (s : Settling) → length fields ≤ at → settled_fields kinds at (drop at fields) s ≡ s
unfolding settled_fields
fields_done kinds at fields s h = ap (λ xs. settled_fields kinds at xs s) (drop_past fields at h)

pub objects_turn : (shapes : List Shape) (n m a b : ℕ) (objects next : List Object) → n ≡ suc m → b ≡ a + 1 → next ≡ settled_at shapes a objects
    → settled shapes m b next ≡ settled shapes n a objects
unfolding settled
objects_turn shapes n m a b objects next e f g =
    ap (λ c. settled shapes m c next) f ∙ ap (settled shapes m (a + 1)) g ∙ ap (λ k. settled shapes k a objects) (sym e)

pub objects_start : (shapes : List Shape) (n m a b : ℕ) (objects : List Object) → m ≡ n → b ≡ a → settled shapes m b objects ≡ settled shapes n a objects
objects_start shapes n m a b objects e f = ap (λ k. settled shapes k b objects) e ∙ ap (λ c. settled shapes n c objects) f

pub objects_done : (shapes : List Shape) (n a : ℕ) (objects : List Object) → n ≡ 0 → settled shapes n a objects ≡ objects
unfolding settled
objects_done shapes n a objects e = ap (λ k. settled shapes k a objects) e
