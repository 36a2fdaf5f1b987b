-- What verified classes have, and that a refusal is one.
use Rattle.std.specs.Prelude.{◌≡◌, ℕ, ◌≤◌, Some}
use Rattle.jvm_code_instructions.specs.declared.instr.Instr.{Instr}
use Rattle.class_linked.specs.Numbers.{first_file_class}
use Rattle.class_linked.specs.declared.classes.Linked.{Linked}
use Rattle.class_verify_rules.specs.Bodies.{Body, body_at, instruction}
use Rattle.class_verify_rules.specs.Frames.{before}
use Rattle.class_verify_rules.specs.Typing.{IsThere, IsTyped}
use Rattle.class_verify_rules.specs.Turns.{IsTimed}
use Rattle.class_verify_rules.specs.Verified.{BodyStands, IsRejected, IsVerified}

-- each instruction of verified classes has a frame under which it is typed, and keeps the turn rule
abbrev pub EachIsTyped : Type 0
EachIsTyped = (p : Linked) → IsVerified p → (c k : ℕ) → first_file_class ≤ c → (b : Body) → body_at p c k ≡ Some b →
    (place : ℕ) (i : ℕ × Instr) → instruction b place ≡ Some i →
    IsThere (before b place) (IsTyped b place i.0 i.1) × IsTimed b place i.0 i.1

-- a method begins with an instruction, and has room for its arguments
abbrev pub EachBegins : Type 0
EachBegins = (p : Linked) → IsVerified p → (c k : ℕ) → first_file_class ≤ c → (b : Body) → body_at p c k ≡ Some b →
    BodyStands b

-- classes are rejected at one place at most
abbrev pub OneRefusal : Type 0
OneRefusal = (p : Linked) (c n at d m o : ℕ) → IsRejected p c n at → IsRejected p d m o → (c ≡ d) × (n ≡ m) × (at ≡ o)

-- and those that are rejected aren't verified
abbrev pub NotBoth : Type 0
NotBoth = (p : Linked) (c n at : ℕ) → IsRejected p c n at → IsVerified p → ⊥
