-- What verified classes have, and that a refusal is one.
use Rattle.std.proofs.Common.{ℕ, zero, suc, ◌≡◌, ◌<◌, ◌≤◌, ◌⊎◌, inl, inr, refl, sym, subst, List, Option, Some, None, arith}
use Rattle.std.specs.Prelude.{slice_get}
use Rattle.class_linked.specs.declared.classes.Linked.{Linked}
use Rattle.class_verify_rules.specs.Bodies.{Body, body_at, body_of, then_get}
use Rattle.class_verify_rules.specs.Kinds.{class_at}
use Rattle.class_verify_rules.specs.Typing.{WhereSome}
use Rattle.class_verify_rules.specs.Laws.{EachBegins, EachIsTyped, NotBoth, OneRefusal}
use Rattle.class_verify_rules.specs.Verified.{BodyKeeps, IsRejected, IsVerified, Keeps, MethodKeeps}

there : {A : Type 0} (o : Option A) (a : A) (P : A → Type 0) → WhereSome o P → o ≡ Some a → P a
there None a P w e = let h : None ≡ Some a = e in cc
there (Some x) a P w e = let q : x ≡ a = cc in subst P q w

step : {A B : Type 0} (o : Option A) (f : A → Option B) (b : B) (P : A → Type 0) (Q : Type 0) → WhereSome o P → ((a : A) → P a → f a ≡ Some b → Q) → then_get o f ≡ Some b → Q
step None f b P Q w g e = let h : None ≡ Some b = e in cc
step (Some a) f b P Q w g e = g a w e

pub inside : (p : Linked) (c k at : ℕ) (b : Body) → MethodKeeps p c k at → body_at p c k ≡ Some b → BodyKeeps b at
inside p c k at b w e =
    step (class_at p c) (λ class. then_get (slice_get class.methods k) (λ m. body_of p c class m m.code)) b _ (BodyKeeps b at) w
    (λ class v d. step (slice_get class.methods k) (λ m. body_of p c class m m.code) b _ (BodyKeeps b at) v
    (λ m u x. there (body_at p c k) b (λ y. BodyKeeps y at) u.1 e) d) e

pub each_is_typed : EachIsTyped
each_is_typed p v c k le b e place i h = (inside p c k i.0 b (v c (suc k) i.0 le) e).instructions place i.1 h

pub each_begins : EachBegins
each_begins p v c k le b e = (inside p c k 0 b (v c (suc k) 0 le) e).whole refl

pub not_both : NotBoth
not_both p c n at r v = r.fails (v c n at r.file)

compared : (a b : ℕ) → (a < b) ⊎ ((a ≡ b) ⊎ (b < a))
compared zero zero = inr (inl refl)
compared zero (suc b) = inl (omega arith)
compared (suc a) zero = inr (inr (omega arith))
compared (suc a) (suc b) = elim (compared a b) [
  | inl lt ↦ inl (omega arith)
  | inr x ↦ elim x [ inl e ↦ inr (inl (omega arith)) | inr gt ↦ inr (inr (omega arith)) ]
]

same_offset : (p : Linked) (c n at o : ℕ) → IsRejected p c n at → IsRejected p c n o → at ≡ o
same_offset p c n at o r s = elim (compared at o) [
  | inl lt ↦ absurd (r.fails (s.offsets at lt))
  | inr x ↦ elim x [ inl e ↦ e | inr gt ↦ absurd (s.fails (r.offsets o gt)) ]
]

same_method : (p : Linked) (c n at m o : ℕ) → IsRejected p c n at → IsRejected p c m o → (n ≡ m) × (at ≡ o)
same_method p c n at m o r s = elim (compared n m) [
  | inl lt ↦ absurd (r.fails (s.methods n at lt))
  | inr x ↦ elim x [
    | inl e ↦ (e, same_offset p c n at o r (subst (λ y. IsRejected p c y o) (sym e) s))
    | inr gt ↦ absurd (s.fails (r.methods m o gt))
  ]
]

pub one_refusal : OneRefusal
one_refusal p c n at d m o r s = elim (compared c d) [
  | inl lt ↦ absurd (r.fails (s.classes c n at r.file lt))
  | inr x ↦ elim x [
    | inl e ↦
        let t = same_method p c n at m o r (subst (λ y. IsRejected p y m o) (sym e) s) in
        (e, t.0, t.1)
    | inr gt ↦ absurd (s.fails (r.classes d m o s.file gt))
  ]
]
