-- Where classes are refused.
use Rattle.std.specs.Prelude.{◌≡◌, ℕ, ◌<◌, ◌≤◌, Some}
use Rattle.class_linked.specs.Numbers.{first_file_class}
use Rattle.class_linked.specs.declared.classes.Linked.{Linked}
use Rattle.class_linked.specs.declared.classes.LinkedClass.{LinkedClass}
use Rattle.class_linked.specs.declared.methods.LinkedMethod.{LinkedMethod}
use Rattle.class_verify_rules.specs.Kinds.{class_at}
use Rattle.class_verify_rules.specs.Bodies.{body_of}
use Rattle.class_verify_rules.specs.Typing.{WhereSome}
use Rattle.class_verify_rules.specs.Verified.{BodyKeeps, IsRejected, Keeps, MethodStands}
use Rattle.class_verify.specs.declared.errors.VerifyError.{VerifyError}
use Rattle.class_verify.specs.declared.errors.VerifyError.TheVariants as error

-- the rules that count at an offset of a method
abbrev pub OneKeeps : Linked → ℕ → LinkedClass → LinkedMethod → ℕ → Type 0
OneKeeps p c class m at =
    (at ≡ 0 → MethodStands p class m) × WhereSome (body_of p c class m m.code) (λ b. BodyKeeps b at)

-- the first method of a class, and in it the first offset, at which a rule fails
pub record FailsFirst (p : Linked) (c n at : ℕ) : Type 0 where
  pub fails : Keeps p c n at → ⊥
  pub methods : (m o : ℕ) → m < n → Keeps p c m o
  pub offsets : (o : ℕ) → o < at → Keeps p c n o

-- the classes of class files up to one
abbrev pub KeepsBelow : Linked → ℕ → Type 0
KeepsBelow p count = (c n at : ℕ) → first_file_class ≤ c → c < count → Keeps p c n at

-- a class of this name is refused there
abbrev pub Refuses : Linked → VerifyError → Type 0
Refuses p (error.Rejected name n at) =
    (c : ℕ) × (class : LinkedClass) × (class_at p c ≡ Some class) × (class.name ≡ name) × IsRejected p c n at
Refuses p error.NoMemory = Unit {0}

-- the refusal has the name of the class, and that place
abbrev pub Names : LinkedClass → ℕ → ℕ → VerifyError → Type 0
Names class n at (error.Rejected name m o) = (class.name ≡ name) × (n ≡ m) × (at ≡ o)
Names class n at error.NoMemory = Unit {0}
