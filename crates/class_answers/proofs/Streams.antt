-- What streams take, one text after the other.
use Rattle.std.proofs.Common.{◌≡◌, ℕ, ◌-◌, ◌^◌, ◌<◌, ◌≤◌, List, [], ◌++◌, ◌⊎◌, inl, inr, ◌∙◌, arith}
use Rattle.std.proofs.lemmas.Bool.{cases_order}
use Rattle.kt_outside.specs.Faults.{Rose}
use Rattle.kt_outside.proofs.Appending.{appends_more, appends_nothing}
use Rattle.class_answers.specs.Telling.{Stream, Tells}

rose_earlier : (a b c : ℕ) → a ≤ b → Rose b c → Rose a c
rose_earlier a b c ab (inl lt) = inl (omega arith)
rose_earlier a b c ab (inr most) = inr most

at_most : (a b c : ℕ) → a ≤ b → b ≡ 2 ^ 64 - 1 → b ≤ c → (c ≡ b) ⊎ ((c < b) ⊎ (b < c)) → Rose a c
at_most a b c ab most bc (inl same) = inr (same ∙ most)
at_most a b c ab most bc (inr (inl less)) = absurd (omega arith)
at_most a b c ab most bc (inr (inr more)) = inl (omega arith)

rose_later : (a b c : ℕ) → a ≤ b → b ≤ c → Rose a b → Rose a c
rose_later a b c ab bc (inl lt) = inl (omega arith)
rose_later a b c ab bc (inr most) = at_most a b c ab most bc (cases_order c b)

pub tells_nothing : (s : Stream) → Tells s s []
tells_nothing s = inl (appends_nothing s.taken)

pub tells_more : (a b c : Stream) (x y : List ℕ) → a.faults ≤ b.faults → b.faults ≤ c.faults → Tells a b x → Tells b c y
    → Tells a c (x ++ y)
tells_more a b c x y ab bc (inl h) (inl k) = inl (appends_more a.taken b.taken c.taken x y h k)
tells_more a b c x y ab bc (inl h) (inr r) = inr (rose_earlier a.faults b.faults c.faults ab r)
tells_more a b c x y ab bc (inr r) (inl k) = inr (rose_later a.faults b.faults c.faults ab bc r)
tells_more a b c x y ab bc (inr r) (inr s) = inr (rose_later a.faults b.faults c.faults ab bc r)
