-- Padding, targets and pairs that are read are those that were written, and what was written is read again.
use Rattle.std.proofs.Common.{◌≡◌, ℕ, zero, suc, ◌+◌, ◌%◌, ◌^◌, ◌<◌, ◌≤◌, List, [], ◌∷◌, ◌++◌, length, Ok, Err, false, refl, sym, ap, subst, ◌∙◌, append_assoc, arith}
use Rattle.std.specs.Prelude.{replicate, nat_lt, if◌then◌else◌}
use Rattle.std.specs.List.{flat_map, AllByRecursion}
use Rattle.std.specs.Int.{w16, w32, to_be_bytes}
use Rattle.std.proofs.lemmas.Bool.{ltb-false, le-ltb}
use Rattle.std.proofs.lemmas.List.Concat.{flat_map-cons}
use Rattle.jvm_code_instructions.specs.declared.fault.Fault.TheVariants.{BadOpcode}
use Rattle.jvm_code_instructions.specs.Spelling.{distance, near_bytes, far_bytes, pair_bytes, from_least, Ascends}
use Rattle.jvm_code_instructions.specs.Reading.{◌>>=◌, number_at, only_at, near_from, far_from, near_at, far_at, fars_at, zeros_at, pair_at, pairs_at}
use Rattle.jvm_code_instructions.proofs.Fields.{IsBytes, step_ok, unless_ok, done, done_is, Takes, takes_nothing, takes_both, word, half, number_takes, number_again, only_takes}
use Rattle.jvm_code_instructions.proofs.Distances.{near_back, far_back, near_again, far_again}

pub zeros_take : (n : ℕ) (bytes rest : List ℕ) → IsBytes bytes → zeros_at n bytes ≡ Ok rest → Takes bytes (replicate n 0) rest
unfolding zeros_at
zeros_take zero bytes rest fits e = subst (λ (r : List ℕ). Takes bytes [] r) (done_is bytes rest e) (takes_nothing bytes fits)
zeros_take (suc n) bytes rest fits e =
    let a = step_ok (only_at 0 bytes) (zeros_at n) rest e in
    let t = only_takes 0 bytes a.0 fits a.1 in
    takes_both bytes (0 ∷ []) a.0 (replicate n 0) rest t (zeros_take n a.0 rest t.rest_fits a.2)

pub zeros_again : (n : ℕ) (rest : List ℕ) → zeros_at n (replicate n 0 ++ rest) ≡ Ok rest
unfolding zeros_at
zeros_again zero rest = refl
zeros_again (suc n) rest = zeros_again n rest

pub far_takes : (at : ℕ) (bytes : List ℕ) (t : ℕ) (rest : List ℕ) → at < 2 ^ 32 → IsBytes bytes → far_at at bytes ≡ Ok (t, rest) → Takes bytes (far_bytes at t) rest × (t < 2 ^ 32)
unfolding far_at
far_takes at bytes t rest lt fits e =
    let a = step_ok (number_at w32 bytes) (λ d. Ok (far_from at d.0, d.1)) (t, rest) e in
    let n = number_takes w32 (2 ^ 32) word bytes a.0.0 a.0.1 fits a.1 in
    let back : to_be_bytes w32 a.0.0 ≡ far_bytes at (far_from at a.0.0) = ap (λ (k : ℕ). to_be_bytes w32 k) (sym (far_back at a.0.0 lt n.1)) in
    let made : ℕ × List ℕ = (far_from at a.0.0, a.0.1) in
    subst (λ (x : ℕ × List ℕ). Takes bytes (far_bytes at x.0) x.1 × (x.0 < 2 ^ 32)) (done_is made (t, rest) a.2)
    (subst (λ (x : List ℕ). Takes bytes x a.0.1) back n.0, omega arith)

pub far_reads : (at t : ℕ) (rest : List ℕ) → at < 2 ^ 32 → t < 2 ^ 32 → far_at at (far_bytes at t ++ rest) ≡ Ok (t, rest)
unfolding far_at
far_reads at t rest h k =
    rw (number_again w32 (2 ^ 32) word (distance at t % 2 ^ 32) rest (omega arith), far_again at t h k) refl

pub near_takes : (at : ℕ) (bytes : List ℕ) (t : ℕ) (rest : List ℕ) → at < 2 ^ 32 → IsBytes bytes → near_at at bytes ≡ Ok (t, rest) → Takes bytes (near_bytes at t) rest × (t < 2 ^ 32)
unfolding near_at
near_takes at bytes t rest lt fits e =
    let a = step_ok (number_at w16 bytes) (λ d. Ok (near_from at d.0, d.1)) (t, rest) e in
    let n = number_takes w16 (2 ^ 16) half bytes a.0.0 a.0.1 fits a.1 in
    let back : to_be_bytes w16 a.0.0 ≡ near_bytes at (near_from at a.0.0) = ap (λ (k : ℕ). to_be_bytes w16 k) (sym (near_back at a.0.0 lt n.1)) in
    let made : ℕ × List ℕ = (near_from at a.0.0, a.0.1) in
    subst (λ (x : ℕ × List ℕ). Takes bytes (near_bytes at x.0) x.1 × (x.0 < 2 ^ 32)) (done_is made (t, rest) a.2)
    (subst (λ (x : List ℕ). Takes bytes x a.0.1) back n.0, omega arith)

pub near_reads : (at t : ℕ) (rest : List ℕ) → at < 2 ^ 32 → t < 2 ^ 32 → at ≤ t + 2 ^ 15 → t < at + 2 ^ 15 → near_at at (near_bytes at t ++ rest) ≡ Ok (t, rest)
unfolding near_at
near_reads at t rest h k lo hi =
    rw (number_again w16 (2 ^ 16) half (distance at t % 2 ^ 16) rest (omega arith), near_again at t h k lo hi) refl

pub fars_take : (at n : ℕ) (bytes : List ℕ) (x : List ℕ × List ℕ) → at < 2 ^ 32 → IsBytes bytes → fars_at at n bytes ≡ Ok x
    → Takes bytes (flat_map (far_bytes at) x.0) x.1 × (length x.0 ≡ n) × AllByRecursion (λ t. t < 2 ^ 32) x.0
unfolding fars_at
fars_take at zero bytes x lt fits e =
    subst (λ (y : List ℕ × List ℕ). Takes bytes (flat_map (far_bytes at) y.0) y.1 × (length y.0 ≡ 0) × AllByRecursion (λ t. t < 2 ^ 32) y.0) (done_is ([], bytes) x e) (takes_nothing bytes fits, refl, tt)
fars_take at (suc n) bytes x lt fits e =
    let a = step_ok (far_at at bytes) (λ first. fars_at at n first.1 >>= λ others. Ok (first.0 ∷ others.0, others.1)) x e in
    let b = step_ok (fars_at at n a.0.1) (λ others. Ok (a.0.0 ∷ others.0, others.1)) x a.2 in
    let first = far_takes at bytes a.0.0 a.0.1 lt fits a.1 in
    let second = fars_take at n a.0.1 b.0 lt first.0.rest_fits b.1 in
    let both = takes_both bytes (far_bytes at a.0.0) a.0.1 (flat_map (far_bytes at) b.0.0) b.0.1 first.0 second.0 in
    let made : List ℕ × List ℕ = (a.0.0 ∷ b.0.0, b.0.1) in
    subst (λ (y : List ℕ × List ℕ). Takes bytes (flat_map (far_bytes at) y.0) y.1 × (length y.0 ≡ suc n) × AllByRecursion (λ t. t < 2 ^ 32) y.0) (done_is made x b.2) (rw flat_map-cons both, ap suc second.1, (first.1, second.2))

pub fars_again : (at : ℕ) (ts rest : List ℕ) → at < 2 ^ 32 → AllByRecursion (λ t. t < 2 ^ 32) ts → fars_at at (length ts) (flat_map (far_bytes at) ts ++ rest) ≡ Ok (ts, rest)
unfolding fars_at
fars_again at [] rest lt fits = refl
fars_again at (t ∷ ts) rest lt fits =
    let regrouped : flat_map (far_bytes at) (t ∷ ts) ++ rest ≡ far_bytes at t ++ (flat_map (far_bytes at) ts ++ rest) = ap (λ (x : List ℕ). x ++ rest) (flat_map-cons (far_bytes at) t ts) ∙ append_assoc (far_bytes at t) (flat_map (far_bytes at) ts) rest in
    ap (fars_at at (suc (length ts))) regrouped ∙ rw (far_reads at t (flat_map (far_bytes at) ts ++ rest) lt fits.0, fars_again at ts rest lt fits.1) refl

-- ---- pairs

pair_takes : (at first : ℕ) (bytes : List ℕ) (x : (ℕ × ℕ) × List ℕ) → at < 2 ^ 32 → IsBytes bytes → pair_at at first bytes ≡ Ok x
    → Takes bytes (pair_bytes at x.0) x.1 × (x.0.0 < 2 ^ 32) × (x.0.1 < 2 ^ 32) × (first ≤ from_least x.0.0)
unfolding pair_at
pair_takes at first bytes x lt fits e =
    let f1 = λ (number : ℕ × List ℕ) (target : ℕ × List ℕ). done ((number.0, target.0), target.1) in
    let f0 = λ (number : ℕ × List ℕ). (if nat_lt (from_least number.0) first then Err BadOpcode else far_at at number.1) >>= f1 number in
    let a = step_ok (number_at w32 bytes) f0 x e in
    let b = step_ok (if nat_lt (from_least a.0.0) first then Err BadOpcode else far_at at a.0.1) (f1 a.0) x a.2 in
    let g = unless_ok (nat_lt (from_least a.0.0) first) BadOpcode (far_at at a.0.1) b.0 b.1 in
    let t0 = number_takes w32 (2 ^ 32) word bytes a.0.0 a.0.1 fits a.1 in
    let t1 = far_takes at a.0.1 b.0.0 b.0.1 lt t0.0.rest_fits g.1 in
    let above : first ≤ from_least a.0.0 = ltb-false (from_least a.0.0) first g.0 in
    let made : (ℕ × ℕ) × List ℕ = ((a.0.0, b.0.0), b.0.1) in
    subst (λ (y : (ℕ × ℕ) × List ℕ). Takes bytes (pair_bytes at y.0) y.1 × (y.0.0 < 2 ^ 32) × (y.0.1 < 2 ^ 32) × (first ≤ from_least y.0.0)) (done_is made x b.2)
    (takes_both bytes (to_be_bytes w32 a.0.0) a.0.1 (far_bytes at b.0.0) b.0.1 t0.0 t1.0, t0.1, t1.1, above)

pair_reads : (at first : ℕ) (p : ℕ × ℕ) (rest : List ℕ) → at < 2 ^ 32 → p.0 < 2 ^ 32 → p.1 < 2 ^ 32 → first ≤ from_least p.0 → pair_at at first (pair_bytes at p ++ rest) ≡ Ok (p, rest)
unfolding pair_at
pair_reads at first p rest lt h k above =
    let regrouped : pair_bytes at p ++ rest ≡ to_be_bytes w32 p.0 ++ (far_bytes at p.1 ++ rest) = append_assoc (to_be_bytes w32 p.0) (far_bytes at p.1) rest in
    let test : nat_lt (from_least p.0) first ≡ false = le-ltb (from_least p.0) first above in
    ap (pair_at at first) regrouped ∙ rw (number_again w32 (2 ^ 32) word p.0 (far_bytes at p.1 ++ rest) h, test, far_reads at p.1 rest lt k) refl

pub pairs_take : (at n first : ℕ) (bytes : List ℕ) (x : List (ℕ × ℕ) × List ℕ) → at < 2 ^ 32 → IsBytes bytes → pairs_at at n first bytes ≡ Ok x
    → Takes bytes (flat_map (pair_bytes at) x.0) x.1 × (length x.0 ≡ n) × Ascends first x.0
unfolding pairs_at
pairs_take at zero first bytes x lt fits e =
    let made : List (ℕ × ℕ) × List ℕ = ([], bytes) in
    subst (λ (y : List (ℕ × ℕ) × List ℕ). Takes bytes (flat_map (pair_bytes at) y.0) y.1 × (length y.0 ≡ 0) × Ascends first y.0) (done_is made x e) (takes_nothing bytes fits, refl, tt)
pairs_take at (suc n) first bytes x lt fits e =
    let a = step_ok (pair_at at first bytes) (λ pair. pairs_at at n (from_least pair.0.0 + 1) pair.1 >>= λ others. Ok (pair.0 ∷ others.0, others.1)) x e in
    let b = step_ok (pairs_at at n (from_least a.0.0.0 + 1) a.0.1) (λ others. Ok (a.0.0 ∷ others.0, others.1)) x a.2 in
    let one = pair_takes at first bytes a.0 lt fits a.1 in
    let more = pairs_take at n (from_least a.0.0.0 + 1) a.0.1 b.0 lt one.0.rest_fits b.1 in
    let both = takes_both bytes (pair_bytes at a.0.0) a.0.1 (flat_map (pair_bytes at) b.0.0) b.0.1 one.0 more.0 in
    let made : List (ℕ × ℕ) × List ℕ = (a.0.0 ∷ b.0.0, b.0.1) in
    subst (λ (y : List (ℕ × ℕ) × List ℕ). Takes bytes (flat_map (pair_bytes at) y.0) y.1 × (length y.0 ≡ suc n) × Ascends first y.0) (done_is made x b.2)
    (rw flat_map-cons both, ap suc more.1, (one.1, one.2, one.3, more.2))

pub pairs_again : (at first : ℕ) (ps : List (ℕ × ℕ)) (rest : List ℕ) → at < 2 ^ 32 → Ascends first ps → pairs_at at (length ps) first (flat_map (pair_bytes at) ps ++ rest) ≡ Ok (ps, rest)
unfolding pairs_at
pairs_again at first [] rest lt fits = refl
pairs_again at first (p ∷ ps) rest lt fits =
    let regrouped : flat_map (pair_bytes at) (p ∷ ps) ++ rest ≡ pair_bytes at p ++ (flat_map (pair_bytes at) ps ++ rest) = ap (λ (x : List ℕ). x ++ rest) (flat_map-cons (pair_bytes at) p ps) ∙ append_assoc (pair_bytes at p) (flat_map (pair_bytes at) ps) rest in
    ap (pairs_at at (suc (length ps)) first) regrouped ∙ rw (pair_reads at first p (flat_map (pair_bytes at) ps ++ rest) lt fits.0 fits.1 fits.2, pairs_again at (from_least p.0 + 1) ps rest lt fits.3) refl
