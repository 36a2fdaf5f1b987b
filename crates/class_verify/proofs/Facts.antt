-- What verified classes have.
use Rattle.std.proofs.Common.{◌≡◌, ℕ, suc, ◌≤◌, Option, Some, None, refl, sym, ap, ◌∙◌}
use Rattle.std.specs.Prelude.{slice_get}
use Rattle.class_linked.specs.Numbers.{first_file_class}
use Rattle.class_linked.specs.declared.classes.Linked.{Linked}
use Rattle.class_linked.specs.declared.classes.LinkedClass.{LinkedClass}
use Rattle.class_linked.specs.declared.methods.LinkedMethod.{LinkedMethod}
use Rattle.class_verify_rules.specs.Kinds.{class_at}
use Rattle.class_verify_rules.specs.Bodies.{Body, body_at, body_of, then_get}
use Rattle.class_verify_rules.specs.Typing.{Each}
use Rattle.class_verify_rules.specs.Verified.{BodyKeeps, ClassStands, IsVerified, MethodStands}
use Rattle.class_verify.specs.Facts.{AreFine, BodyIsFine, ClassIsFine}
use Rattle.class_verify.proofs.Refusing.{keeps_to, some_where}

-- where there is what comes of something, there is that
record CameOf {A B : Type 0} (o : Option A) (f : A → Option B) (b : B) : Type 0 where
  from : A
  there : o ≡ Some from
  gives : f from ≡ Some b

came_of : {A B : Type 0} (o : Option A) (f : A → Option B) (b : B) → then_get o f ≡ Some b → CameOf o f b
came_of None f b e = let h : None ≡ Some b = e in cc
came_of (Some a) f b e = record { from = a; there = refl; gives = e }

module _ (p : Linked) (v : IsVerified p) (c : ℕ) (file : first_file_class ≤ c) (class : LinkedClass) (is : class_at p c ≡ Some class) where
  abbrev method_body : LinkedMethod → Option Body
  method_body m = body_of p c class m m.code

  found : (k : ℕ) (b : Body) → body_at p c k ≡ Some b → CameOf (slice_get class.methods k) method_body b
  found k b e =
      came_of (slice_get class.methods k) method_body b
      (sym (ap (λ o. then_get o (λ x. then_get (slice_get x.methods k) (λ m. body_of p c x m m.code))) is) ∙ e)

  keeps : (k at : ℕ) (b : Body) → body_at p c k ≡ Some b → BodyKeeps b at
  keeps k at b e =
      let x = found k b e in
      some_where (method_body x.from) b (λ y. BodyKeeps y at) x.gives (keeps_to p c class is k at x.from x.there (v c (suc k) at file)).1

  class_stands : ClassStands p class
  class_stands = some_where (class_at p c) class (ClassStands p) is (v c 0 0 file refl)

  methods_stand : Each class.methods (MethodStands p class)
  methods_stand k m e = (keeps_to p c class is k 0 m e (v c (suc k) 0 file)).0 refl

  body_fine : (k : ℕ) (b : Body) → body_at p c k ≡ Some b → BodyIsFine b
  body_fine k b e = record {
    whole = (keeps k 0 b e).whole refl;
    handlers = λ n h x. (keeps k h.start b e).handlers n h x refl;
    frames = λ n f x. (keeps k f.offset b e).frames n f x refl;
    instructions = λ place i x. (keeps k i.0 b e).instructions place i.1 x;
  }

  class_fine : ClassIsFine p c class
  class_fine = record { itself = class_stands; methods = methods_stand; bodies = body_fine }

pub are_fine : (p : Linked) → IsVerified p → AreFine p
are_fine p v c class file is = class_fine p v c file class is
