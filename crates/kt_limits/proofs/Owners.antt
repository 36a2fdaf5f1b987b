-- The nodes of a class among parts.
use Rattle.std.proofs.Common.{◌≡◌, ◌≤◌, ℕ, zero, suc, ◌+◌, Bool, true, false, ◌==◌, List, [], ◌∷◌, ◌++◌, map, take, if◌then◌else◌, refl, ap, sym, ◌∙◌, arith}
use Rattle.std.proofs.lemmas.Bool.Decides.{nat_tests}
use Rattle.std.specs.Prelude.{sum}
use Rattle.kt_limits.specs.Limits.{Part, Owner, the_file, declared_at, is_owner, nodes_of}
use Rattle.kt_limits.specs.Parts.{owned}

pub same_number : (n : ℕ) → (n == n) ≡ true
same_number n = grind (arith, nat_tests)

pub one_number : (m n : ℕ) → (m == n) ≡ true → m ≡ n
one_number m n e = grind (arith, nat_tests)

pub other_number : (m n : ℕ) → (m ≡ n → ⊥) → (m == n) ≡ false
other_number m n differ = grind (arith, nat_tests)

pub is_own : (c : Owner) → is_owner c c ≡ true
is_own the_file = refl
is_own (declared_at n) = same_number n

pub one_owner : (c d : Owner) → is_owner c d ≡ true → c ≡ d
one_owner the_file the_file e = refl
one_owner the_file (declared_at n) e = absurd cc
one_owner (declared_at m) the_file e = absurd cc
one_owner (declared_at m) (declared_at n) e = ap declared_at (one_number m n e)

pub nodes-append : (c : Owner) (a b : List (Owner × Part)) → nodes_of c (a ++ b) ≡ nodes_of c a + nodes_of c b
nodes-append c [] b = omega arith
nodes-append c ((d, p) ∷ a) b =
    let rest = nodes-append c a b in omega (arith, rest)

unfoldable pub total : List Part → ℕ
total [] = 0
total (p ∷ ps) = p.nodes + total ps

own_part : (b : Bool) (n r s : ℕ) → b ≡ true → r ≡ s → (if b then n else 0) + r ≡ n + s
own_part true n r s e d = omega (arith, d)
own_part false n r s e d = absurd cc

other_part : (b : Bool) (n r : ℕ) → b ≡ false → r ≡ 0 → (if b then n else 0) + r ≡ 0
other_part true n r e d = absurd cc
other_part false n r e d = omega (arith, d)

pub own_nodes : (c : Owner) (ps : List Part) → nodes_of c (owned c ps) ≡ total ps
unfolding total
own_nodes c [] = refl
own_nodes c (p ∷ ps) = own_part (is_owner c c) p.nodes (nodes_of c (owned c ps)) (total ps) (is_own c) (own_nodes c ps)

pub other_nodes : (c d : Owner) → is_owner c d ≡ false → (ps : List Part) → nodes_of c (owned d ps) ≡ 0
other_nodes c d differ [] = refl
other_nodes c d differ (p ∷ ps) = other_part (is_owner c d) p.nodes (nodes_of c (owned d ps)) differ (other_nodes c d differ ps)

-- a list that is cut has no more
pub fewer : (c : Owner) (ps : List (Owner × Part)) (m n : ℕ) → m ≤ n → nodes_of c (take m ps) ≤ nodes_of c (take n ps)
fewer c ps zero n le = omega arith
fewer c [] (suc m) n le = omega arith
fewer c (x ∷ ps) (suc m) zero le = absurd (omega arith)
fewer c ((d, p) ∷ ps) (suc m) (suc n) le =
    let rest = fewer c ps m n (omega arith) in omega (arith, rest)
