-- Every list with these bytes has its first bad target where reading finds one, or before.
use Rattle.std.proofs.Common.{◌≡◌, ℕ, suc, ◌+◌, ◌-◌, ◌^◌, ◌<◌, ◌≤◌, Bool, true, false, List, [], ◌∷◌, length, length-append, Some, Result, Ok, refl, sym, ap, subst, ◌∙◌, ◌⊎◌, inl, inr, arith}
use Rattle.jvm_code_instructions.specs.Table.{Operands, Near, Row}
use Rattle.jvm_code_instructions.specs.Spelling.{row_bytes}
use Rattle.jvm_code_instructions.specs.Reading.{row_at}
use Rattle.jvm_code_instructions.proofs.Instructions.{OutOfReach, is_read}
use Rattle.jvm_code.specs.declared.error.CodeErr.{CodeErr}
use Rattle.jvm_code.specs.Spelling.{Follows, spelling}
use Rattle.jvm_code.specs.Decoding.{aims, first_bad, in_front, rows_at, starts_of}
use Rattle.jvm_code.specs.Refusals.{IsBadBy}
use Rattle.jvm_code.proofs.Passes.{one_more}
use Rattle.jvm_code.proofs.Theorem.{aims_reach}

-- two lists with the same bytes, of which the first is the one that is read: they differ only in targets out of reach
abbrev Beside : List (ℕ × Row) → List (ℕ × Row) → Type 0
Beside [] [] = Unit {0}
Beside (i ∷ c) (j ∷ d) = (i.0 ≡ j.0) × ((i ≡ j) ⊎ OutOfReach j.0 j.1.operands) × Beside c d
Beside _ _ = ⊥

same_item : (at : ℕ) (x r : Row) (i : ℕ × Row) → at ≡ i.0 → r ≡ i.1 → (x ≡ r) ⊎ OutOfReach i.0 i.1.operands → ((at, x) ≡ i) ⊎ OutOfReach i.0 i.1.operands
same_item at x r i here is (inl same) = inl (ap (λ (n : ℕ). (n, x)) here ∙ ap (λ (y : Row). (i.0, y)) (same ∙ is))
same_item at x r i here is (inr far) = inr far

-- what is read of the bytes of a list
beside : (d : List (ℕ × Row)) (n total : ℕ) → total < 2 ^ 32 → length (spelling d) ≤ n → length (spelling d) ≤ total → Follows (total - length (spelling d)) d
    → (c : List (ℕ × Row)) × (rows_at n total (spelling d) ≡ Ok c) × Beside c d
unfolding rows_at
beside [] n total lt fuel fits follows = ([], refl, tt)
beside (i ∷ is) n total lt fuel fits follows =
    let len = length-append (row_bytes i.0 i.1) (spelling is) in
    let some : 0 < length (row_bytes i.0 i.1) = omega arith in
    let k : n ≡ suc (n - 1) = omega arith in
    let at-is : i.0 ≡ total - length (spelling (i ∷ is)) = follows.0 in
    let one = is_read i.0 i.1 (spelling is) (omega arith) follows.1 in
    let read : row_at (total - length (spelling (i ∷ is))) (spelling (i ∷ is)) ≡ Ok (one.0, spelling is) = subst (λ (a : ℕ). row_at a (spelling (i ∷ is)) ≡ Ok (one.0, spelling is)) at-is one.1 in
    let next : (total - length (spelling (i ∷ is))) + length (row_bytes i.0 i.1) ≡ total - length (spelling is) = omega arith in
    let follows' : Follows (total - length (spelling is)) is = subst (λ (a : ℕ). Follows a is) (ap (λ (a : ℕ). (total - length (spelling (i ∷ is))) + length (row_bytes a i.1)) (sym at-is) ∙ next) follows.2 in
    let rest = beside is (n - 1) total lt (omega arith) (omega arith) follows' in (
      (total - length (spelling (i ∷ is)), one.0) ∷ rest.0,
      ap (λ (m : ℕ). rows_at m total (spelling (i ∷ is))) k ∙ one_more (n - 1) total (spelling (i ∷ is)) (one.0, spelling is) (omega arith) read
          ∙ ap (in_front (total - length (spelling (i ∷ is)), one.0)) rest.1,
      (sym at-is, same_item (total - length (spelling (i ∷ is))) one.0 i.1 i (sym at-is) refl one.2, rest.2),
    )

same_starts : (c d : List (ℕ × Row)) → Beside c d → starts_of c ≡ starts_of d
same_starts [] [] h = refl
same_starts (i ∷ c) (j ∷ d) h = ap (λ (n : ℕ). n ∷ starts_of c) h.0 ∙ ap (λ (l : List ℕ). j.0 ∷ l) (same_starts c d h.2)
same_starts [] (j ∷ d) h = absurd h
same_starts (i ∷ c) [] h = absurd h

-- no target stands that is out of reach
unreached : (starts : List ℕ) (at : ℕ) (o : Operands) → OutOfReach at o → aims starts at o ≡ false
unreached starts at (Near t) far = by (aims starts at (Near t)) refl
  where
    by : (b : Bool) → aims starts at (Near t) ≡ b → aims starts at (Near t) ≡ false
    by true is = absurd (far (aims_reach starts at (Near t) is))
    by false is = is
unreached starts at _ far = absurd far

bad_first : (starts : List ℕ) (i : ℕ × Row) (is : List (ℕ × Row)) → aims starts i.0 i.1.operands ≡ false → first_bad starts (i ∷ is) ≡ Some i.0
unfolding first_bad
bad_first starts i is bad = rw bad refl

good_first : (starts : List ℕ) (i : ℕ × Row) (is : List (ℕ × Row)) → aims starts i.0 i.1.operands ≡ true → first_bad starts (i ∷ is) ≡ first_bad starts is
unfolding first_bad
good_first starts i is good = rw good refl

-- a bad target is no earlier than the first instruction
bad_from : (starts : List ℕ) (low : ℕ) (c : List (ℕ × Row)) (at : ℕ) → Follows low c → first_bad starts c ≡ Some at → low ≤ at
unfolding first_bad
bad_from starts low [] at follows h = absurd cc
bad_from starts low (i ∷ is) at follows h = by (aims starts i.0 i.1.operands) refl (λ bad. bad_from starts (low + length (row_bytes low i.1)) is at follows.2 bad)
  where
    by : (b : Bool) → aims starts i.0 i.1.operands ≡ b → (first_bad starts is ≡ Some at → low + length (row_bytes low i.1) ≤ at) → low ≤ at
    by true is-good later = omega (arith, later (sym (good_first starts i is is-good) ∙ h))
    by false is-bad later = let o : Some i.0 ≡ Some at = sym (bad_first starts i is is-bad) ∙ h in let e : i.0 ≡ at = cc in omega (arith, follows.0)

no_later : (starts : List ℕ) (low : ℕ) (c d : List (ℕ × Row)) (at : ℕ) → Follows low c → Beside c d → first_bad starts c ≡ Some at → (k : ℕ) × (first_bad starts d ≡ Some k) × (k ≤ at)
unfolding first_bad
no_later starts low [] [] at follows h bad = absurd cc
no_later starts low [] (j ∷ d) at follows h bad = absurd h
no_later starts low (i ∷ c) [] at follows h bad = absurd h
no_later starts low (i ∷ c) (j ∷ d) at follows h bad =
    by h.1 (aims starts i.0 i.1.operands) refl (λ later. no_later starts (low + length (row_bytes low i.1)) c d at follows.2 h.2 later)
  where
    by : (i ≡ j) ⊎ OutOfReach j.0 j.1.operands → (b : Bool) → aims starts i.0 i.1.operands ≡ b → (first_bad starts c ≡ Some at → (k : ℕ) × (first_bad starts d ≡ Some k) × (k ≤ at))
        → (k : ℕ) × (first_bad starts (j ∷ d) ≡ Some k) × (k ≤ at)
    by (inr far) b is later = (j.0, bad_first starts j d (unreached starts j.0 j.1.operands far), omega (arith, h.0, follows.0, bad_from starts low (i ∷ c) at follows bad))
    by (inl same) true is later =
        let r = later (sym (good_first starts i c is) ∙ bad) in
        (r.0, good_first starts j d (ap (λ (x : ℕ × Row). aims starts x.0 x.1.operands) (sym same) ∙ is) ∙ r.1, r.2)
    by (inl same) false is later =
        let o : Some i.0 ≡ Some at = sym (bad_first starts i c is) ∙ bad in
        let e : i.0 ≡ at = cc in
        (j.0, bad_first starts j d (ap (λ (x : ℕ × Row). aims starts x.0 x.1.operands) (sym same) ∙ is), omega (arith, h.0))

-- every list with the bytes of the one that is read has its first bad target there or before
pub every_list : (bytes : List ℕ) (c : List (ℕ × Row)) (at : ℕ) → length bytes < 2 ^ 32 → rows_at (length bytes) (length bytes) bytes ≡ Ok c → Follows 0 c → first_bad (starts_of c) c ≡ Some at
    → (d : List (ℕ × Row)) → Follows 0 d → bytes ≡ spelling d → IsBadBy at d
every_list bytes c at short read follows bad d follows-d is =
    let len : length bytes ≡ length (spelling d) = ap length is in
    let zero-is : 0 ≡ length bytes - length (spelling d) = omega arith in
    let b = beside d (length bytes) (length bytes) short (omega arith) (omega arith) (subst (λ (k : ℕ). Follows k d) zero-is follows-d) in
    let o : ◌≡◌ {A = Result (List (ℕ × Row)) CodeErr} (Ok b.0) (Ok c) = sym b.1 ∙ ap (rows_at (length bytes) (length bytes)) (sym is) ∙ read in
    let same : b.0 ≡ c = cc in
    let besides : Beside c d = subst (λ (x : List (ℕ × Row)). Beside x d) same b.2 in
    let r = no_later (starts_of c) 0 c d at follows besides bad in
    (r.0, ap (λ (l : List ℕ). first_bad l d) (sym (same_starts c d besides)) ∙ r.1, r.2)
