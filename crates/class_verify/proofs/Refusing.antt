-- Rules of methods and classes, one after the other.
use Rattle.std.proofs.Common.{◌≡◌, ℕ, zero, suc, ◌+◌, ◌-◌, ◌≤◌, inl, inr, length, List, Option, Some, None, sym, ap, subst, ◌∙◌, arith}
use Rattle.std.specs.Prelude.{slice_get}
use Rattle.std.proofs.lemmas.Bool.{cases_lt}
use Rattle.std.proofs.lemmas.Option.{slice_get_past}
use Rattle.class_linked.specs.declared.classes.Linked.{Linked}
use Rattle.class_linked.specs.declared.classes.LinkedClass.{LinkedClass}
use Rattle.class_linked.specs.declared.constants.Constant.{Constant}
use Rattle.class_linked.specs.declared.code.LinkedCode.{LinkedCode}
use Rattle.class_linked.specs.declared.methods.LinkedMethod.{LinkedMethod}
use Rattle.class_verify_rules.specs.Kinds.{class_at}
use Rattle.class_verify_rules.specs.Bodies.{body_at, body_of, then_get}
use Rattle.class_verify_rules.specs.Typing.{WhereSome}
use Rattle.class_verify_rules.specs.Verified.{BodyKeeps, Keeps, MethodStands, IsVerified}
use Rattle.class_verify_methods.specs.Faults.{Least, made_body}
use Rattle.class_verify_methods.proofs.Least.{least_same}
use Rattle.class_verify.specs.Refusals.{FailsFirst, KeepsBelow, OneKeeps}

where_some : {A : Type 0} (o : Option A) (a : A) (P : A → Type 0) → o ≡ Some a → P a → WhereSome o P
where_some o a P e h = subst (λ x. WhereSome x P) (sym e) h

pub some_where : {A : Type 0} (o : Option A) (a : A) (P : A → Type 0) → o ≡ Some a → WhereSome o P → P a
some_where o a P e h = subst (λ x. WhereSome x P) e h

where_none : {A : Type 0} (o : Option A) (P : A → Type 0) → o ≡ None → WhereSome o P
where_none o P e = subst (λ x. WhereSome x P) (sym e) tt

pub no_class : (p : Linked) (c n at : ℕ) → class_at p c ≡ None → Keeps p c n at
no_class p c zero at e = λ z. where_none (class_at p c) _ e
no_class p c (suc n) at e = where_none (class_at p c) _ e

pub method_least : (p : Linked) (c : ℕ) (class : LinkedClass) (m : LinkedMethod) (code : LinkedCode) (constants : List Constant) → m.code ≡ Some code → constants ≡ class.constants → MethodStands p class m → (r : Option ℕ) → Least (BodyKeeps (made_body p c constants m code)) r → Least (OneKeeps p c class m) r
method_least p c class m code constants e k stands r h =
    least_same (BodyKeeps (made_body p c constants m code)) (OneKeeps p c class m) r
    (λ at b. (λ z. stands, subst (λ o. WhereSome (body_of p c class m o) (λ b. BodyKeeps b at)) (sym e) (subst (λ ks. BodyKeeps (made_body p c ks m code) at) k b)))
    (λ at o. subst (λ ks. BodyKeeps (made_body p c ks m code) at) (sym k) (subst (λ o. WhereSome (body_of p c class m o) (λ b. BodyKeeps b at)) e o.1)) h

module _ (p : Linked) (c : ℕ) (class : LinkedClass) (is : class_at p c ≡ Some class) where
  body_is : (k : ℕ) (m : LinkedMethod) → slice_get class.methods k ≡ Some m → body_at p c k ≡ body_of p c class m m.code
  body_is k m e =
      ap (λ o. then_get o (λ class. then_get (slice_get class.methods k) (λ m. body_of p c class m m.code))) is
      ∙ ap (λ o. then_get o (λ m. body_of p c class m m.code)) e

  keeps_from : (k at : ℕ) (m : LinkedMethod) → slice_get class.methods k ≡ Some m → OneKeeps p c class m at → Keeps p c (suc k) at
  keeps_from k at m e h =
      where_some (class_at p c) class _ is
      (where_some (slice_get class.methods k) m _ e (h.0, subst (λ o. WhereSome o (λ b. BodyKeeps b at)) (sym (body_is k m e)) h.1))

  pub keeps_to : (k at : ℕ) (m : LinkedMethod) → slice_get class.methods k ≡ Some m → Keeps p c (suc k) at → OneKeeps p c class m at
  keeps_to k at m e h =
      let x = some_where (slice_get class.methods k) m _ e (some_where (class_at p c) class _ is h) in
      (x.0, subst (λ o. WhereSome o (λ b. BodyKeeps b at)) (body_is k m e) x.1)

  no_method : (k at : ℕ) → length class.methods ≤ k → Keeps p c (suc k) at
  no_method k at le = where_some (class_at p c) class _ is (where_none (slice_get class.methods k) _ (slice_get_past class.methods k le))

  pub fails_at : (place offset : ℕ) (m : LinkedMethod) → slice_get class.methods place ≡ Some m → Least (OneKeeps p c class m) (Some offset) → ((n at : ℕ) → n ≤ place → Keeps p c n at) → FailsFirst p c (place + 1) offset
  fails_at place offset m e h before =
      let q : suc place ≡ place + 1 = omega arith in
      subst (λ n. FailsFirst p c n offset) q (record {
        fails = λ k. h.0 (keeps_to place offset m e k);
        methods = λ n o lt. before n o (omega (arith, lt));
        offsets = λ o lt. keeps_from place o m e (h.1 o lt);
      })

  pub keeps_more : (place : ℕ) (m : LinkedMethod) → slice_get class.methods place ≡ Some m → Least (OneKeeps p c class m) None → ((n at : ℕ) → n ≤ place → Keeps p c n at) → (n at : ℕ) → n ≤ place + 1 → Keeps p c n at
  keeps_more place m e h before n at le = elim (cases_lt place n) [
    | inl lt ↦
        let q : suc place ≡ n = omega (arith, lt, le) in
        subst (λ k. Keeps p c k at) q (keeps_from place at m e (h at))
    | inr less ↦ before n at less
  ]

  pub keeps_all : (place : ℕ) → length class.methods ≤ place → ((n at : ℕ) → n ≤ place → Keeps p c n at) → (n at : ℕ) → Keeps p c n at
  keeps_all place le before n at = elim (cases_lt place n) [
    | inl lt ↦
        let q : suc (n - 1) ≡ n = omega (arith, lt) in
        subst (λ k. Keeps p c k at) q (no_method (n - 1) at (omega (arith, lt, le)))
    | inr less ↦ before n at less
  ]

pub below_next : (p : Linked) (c : ℕ) → ((n at : ℕ) → Keeps p c n at) → KeepsBelow p c → KeepsBelow p (c + 1)
below_next p c here before d n at file lt = elim (cases_lt d c) [
  | inl less ↦ before d n at file less
  | inr le ↦ let q : c ≡ d = omega (arith, lt, le) in subst (λ k. Keeps p k n at) q (here n at)
]

pub below_all : (p : Linked) (c : ℕ) → length p.classes ≤ c → KeepsBelow p c → IsVerified p
below_all p c le before d n at file = elim (cases_lt d c) [
  | inl less ↦ before d n at file less
  | inr past ↦ no_class p d n at (slice_get_past p.classes d (omega (arith, le, past)))
]
