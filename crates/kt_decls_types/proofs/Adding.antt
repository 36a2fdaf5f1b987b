-- What a map of names has after one is added that wasn't there.
use Rattle.std.specs.Prelude.{ℕ, Bool, true, false, List, Option, Some, None, ◌≡◌, ◌==◌, is_some, refl, cond}
use Rattle.std.proofs.Common.{rules, ap, sym, ◌∙◌}
use Rattle.std.specs.Ordering.{nat_cmp, is_eq}
use Rattle.std.specs.BTreeMap.{BTreeMap, get, Updates}
use Rattle.std.specs.Cmp.Lexicographic.{pointwise, slice_cmp, texts_ties}
use Rattle.std.specs.declared.cmp.Ordering.{Ordering}
use Rattle.std.specs.declared.cmp.Ordering.TheVariants.{Less, Equal, Greater}
use Rattle.std.proofs.lemmas.Map.Lookups.{exact_bytes}
use Rattle.kt_decls_types.specs.declared.scopes.NamedClass.{NamedClass}
use Rattle.kt_decls_types.specs.Scopes.{or_named}

is_equal : (o : Ordering) → is_eq o ≡ true → o ≡ Equal
is_equal Less e = absurd cc
is_equal Equal e = refl
is_equal Greater e = absurd cc

same_name : (k x : List ℕ) → is_eq (slice_cmp nat_cmp k x) ≡ true → k ≡ x
same_name k x e = exact_bytes k x (is_equal (slice_cmp nat_cmp k x) e)

is_absent : (o : Option NamedClass) → is_some o ≡ false → o ≡ None
is_absent None e = refl
is_absent (Some c) e = absurd cc

choice : (b : Bool) (o : Option NamedClass) (name : List ℕ) (class : NamedClass) (x : List ℕ) → pointwise ◌==◌ name x ≡ b → (b ≡ true → o ≡ None) → cond b (Some class) o ≡ or_named o name class x
choice true o name class x e n = rw (n refl) (ap (λ (b : Bool). cond b (Some class) None) (sym e))
choice false (Some c) name class x e n = refl
choice false None name class x e n = ap (λ (b : Bool). cond b (Some class) None) (sym e)

pub class_added :
    (old new : BTreeMap (List ℕ) NamedClass) (k name : List ℕ) (class : NamedClass) →
    k ≡ name →
    is_some (get (slice_cmp nat_cmp) old name) ≡ false →
    Updates (slice_cmp nat_cmp) old new k (Some class) →
    (x : List ℕ) →
    get (slice_cmp nat_cmp) new x ≡ or_named (get (slice_cmp nat_cmp) old x) name class x
class_added old new k name class e absent u x =
    u.0 x
    ∙ choice (is_eq (slice_cmp nat_cmp k x)) (get (slice_cmp nat_cmp) old x) name class x
    (ap (λ y. pointwise ◌==◌ y x) (sym e) ∙ texts_ties k x)
    (λ yes.
    ap (get (slice_cmp nat_cmp) old) (sym (same_name k x yes) ∙ e)
    ∙ is_absent (get (slice_cmp nat_cmp) old name) absent)

pub no_class : (o : Option NamedClass) → is_some o ≡ true → (name : List ℕ) (class : NamedClass) (x : List ℕ) → o ≡ or_named o name class x
no_class (Some c) e name class x = refl
no_class None e name class x = absurd cc
