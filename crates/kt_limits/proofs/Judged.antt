-- A unit is within limits or refused at one place, and not both.
use Rattle.std.proofs.Common.{◌≡◌, ◌≤◌, ◌<◌, ℕ, zero, suc, ◌+◌, Bool, true, false, ◌&&◌, List, [], ◌∷◌, ◌++◌, take, length, Option, Some, None, nat_le, if◌then◌else◌, refl, ap, subst, sym, ◌∙◌, arith, inl, inr, ◌⊎◌}
use Rattle.std.specs.Prelude.{slice_get}
use Rattle.std.specs.List.{AllByRecursion}
use Rattle.std.proofs.lemmas.Bool.{cases_order}
use Rattle.std.proofs.lemmas.List.{append_assoc, append-nil, take_all}
use Rattle.kt_base.specs.declared.refusals.Pos.{Pos}
use Rattle.kt_typed.specs.Units.{UnitForm}
use Rattle.kt_limits.specs.Limits.{Part, IsFine, Owner, is_owner, nodes_of, most_nodes, AreWithinLimits}
use Rattle.kt_limits.specs.Parts.{parts}
use Rattle.kt_limits.specs.Place.{IsFirstBeyond, IsWithin, IsRefusedAt, IsJudgedOnce, AreJudgedOnce, NeverComesBack}
use Rattle.kt_limits.specs.Walking.{is_fine}
use Rattle.kt_limits.proofs.Decided.{sound, complete, is_at_most, at_most_is, both_true, true_both}
use Rattle.kt_limits.proofs.Owners.{nodes-append, is_own, one_owner, fewer}

-- What passes a limit never comes back.

fewer_fine : (P : Owner × Part → Type 0) (ps : List (Owner × Part)) (m n : ℕ) → m ≤ n → AllByRecursion P (take n ps) → AllByRecursion P (take m ps)
fewer_fine P ps zero n le all = tt
fewer_fine P [] (suc m) n le all = tt
fewer_fine P (x ∷ ps) (suc m) zero le all = absurd (omega arith)
fewer_fine P (x ∷ ps) (suc m) (suc n) le all = (all.0, fewer_fine P ps m n (omega arith) all.1)

pub never_comes_back : NeverComesBack
never_comes_back ps m n le within =
    record {
      each = fewer_fine (λ x. IsFine x.1) ps m n le within.each;
      nodes = λ c.
          let less = fewer c ps m n le in
          let few = within.nodes c in
          omega (arith, less, few);
    }

-- One part more.

unfoldable pub fits_behind : List (Owner × Part) → Owner × Part → Bool
fits_behind done x = is_fine x.1 && nat_le (nodes_of x.0 done + x.1.nodes) most_nodes

all_more : (P : Owner × Part → Type 0) (a b : List (Owner × Part)) → AllByRecursion P a → AllByRecursion P b → AllByRecursion P (a ++ b)
all_more P [] b all more = more
all_more P (x ∷ a) b all more = (all.0, all_more P a b all.1 more)

all_last : (P : Owner × Part → Type 0) (a : List (Owner × Part)) (x : Owner × Part) → AllByRecursion P (a ++ x ∷ []) → P x
all_last P [] x all = all.0
all_last P (y ∷ a) x all = all_last P a x all.1

nodes_with : (c : Owner) (done : List (Owner × Part)) (x : Owner × Part) → nodes_of c (done ++ x ∷ []) ≡ nodes_of c done + (if is_owner c x.0 then x.1.nodes else 0)
nodes_with c done (d, p) = let both = nodes-append c done ((d, p) ∷ []) in omega (arith, both)

still_few : (c d : Owner) (done : List (Owner × Part)) (n : ℕ) (b : Bool) → is_owner c d ≡ b → nodes_of c done ≤ most_nodes → nodes_of d done + n ≤ most_nodes
    → nodes_of c done + (if b then n else 0) ≤ most_nodes
still_few c d done n true own before few =
    let same : nodes_of c done ≡ nodes_of d done = ap (λ e. nodes_of e done) (one_owner c d own) in omega (arith, same, few)
still_few c d done n false own before few = omega (arith, before)

pub one_more : (done : List (Owner × Part)) (x : Owner × Part) → AreWithinLimits done → fits_behind done x ≡ true → AreWithinLimits (done ++ x ∷ [])
unfolding fits_behind
one_more done x within fits =
    let tests = both_true (is_fine x.1) (nat_le (nodes_of x.0 done + x.1.nodes) most_nodes) fits in
    record {
      each = all_more _ done (x ∷ []) within.each (sound x.1 tests.0, tt);
      nodes = λ c.
          let whole = nodes_with c done x in
          let few = still_few c x.0 done x.1.nodes (is_owner c x.0) refl (within.nodes c) (is_at_most _ _ tests.1) in
          omega (arith, whole, few);
    }

own_more : (b : Bool) (m n : ℕ) → b ≡ true → m + (if b then n else 0) ≡ m + n
own_more true m n e = refl
own_more false m n e = absurd cc

pub more_fits : (done : List (Owner × Part)) (x : Owner × Part) → AreWithinLimits (done ++ x ∷ []) → fits_behind done x ≡ true
unfolding fits_behind
more_fits done x within =
    let whole = nodes_with x.0 done x in
    let own = own_more (is_owner x.0 x.0) (nodes_of x.0 done) x.1.nodes (is_own x.0) in
    let few = within.nodes x.0 in
    true_both _ _ (complete x.1 (all_last _ done x within.each)) (at_most_is _ _ (omega (arith, whole, own, few)))

-- The first part that passes a limit behind others.

unfoldable pub first_beyond : List (Owner × Part) → List (Owner × Part) → Option Pos
first_beyond done [] = None
first_beyond done (x ∷ xs) = if fits_behind done x then first_beyond (done ++ x ∷ []) xs else Some x.1.at

pub record IsFirstBehind (done ps : List (Owner × Part)) (p : Pos) : Type 0 where
  pub number : ℕ
  pub part : Owner × Part
  pub stands : slice_get ps number ≡ Some part
  pub before : (m : ℕ) → m ≤ number → AreWithinLimits (done ++ take m ps)
  pub fails : AreWithinLimits (done ++ take (suc number) ps) → ⊥
  pub at : part.1.at ≡ p

unfoldable pub Verdict : List (Owner × Part) → List (Owner × Part) → Option Pos → Type 0
Verdict done ps None = AreWithinLimits (done ++ ps)
Verdict done ps (Some p) = IsFirstBehind done ps p

with_first : (done : List (Owner × Part)) (x : Owner × Part) (xs : List (Owner × Part)) → AreWithinLimits ((done ++ x ∷ []) ++ xs) → AreWithinLimits (done ++ x ∷ xs)
with_first done x xs within = subst AreWithinLimits (append_assoc done (x ∷ []) xs) within

without_first : (done : List (Owner × Part)) (x : Owner × Part) (xs : List (Owner × Part)) → AreWithinLimits (done ++ x ∷ xs) → AreWithinLimits ((done ++ x ∷ []) ++ xs)
without_first done x xs within = subst AreWithinLimits (sym (append_assoc done (x ∷ []) xs)) within

before_all : (done : List (Owner × Part)) (x : Owner × Part) (xs : List (Owner × Part)) (k : ℕ) → AreWithinLimits done
    → ((m : ℕ) → m ≤ k → AreWithinLimits ((done ++ x ∷ []) ++ take m xs)) → (m : ℕ) → m ≤ suc k → AreWithinLimits (done ++ take m (x ∷ xs))
before_all done x xs k within rest zero le = subst AreWithinLimits (sym (append-nil done)) within
before_all done x xs k within rest (suc m) le = with_first done x (take m xs) (rest m (omega arith))

none_before : (done : List (Owner × Part)) (xs : List (Owner × Part)) → AreWithinLimits done → (m : ℕ) → m ≤ zero → AreWithinLimits (done ++ take m xs)
none_before done xs within zero le = subst AreWithinLimits (sym (append-nil done)) within
none_before done xs within (suc m) le = absurd (omega arith)

later : (done : List (Owner × Part)) (x : Owner × Part) (xs : List (Owner × Part)) → AreWithinLimits done → (v : Option Pos) → Verdict (done ++ x ∷ []) xs v → Verdict done (x ∷ xs) v
unfolding Verdict
later done x xs within None rest = with_first done x xs rest
later done x xs within (Some p) rest =
    record {
      number = suc rest.number;
      part = rest.part;
      stands = rest.stands;
      before = before_all done x xs rest.number within rest.before;
      fails = λ is. rest.fails (without_first done x (take (suc rest.number) xs) is);
      at = rest.at;
    }

here : (done : List (Owner × Part)) (x : Owner × Part) (xs : List (Owner × Part)) → AreWithinLimits done → (b : Bool) → fits_behind done x ≡ b
    → (fits_behind done x ≡ true → Verdict (done ++ x ∷ []) xs (first_beyond (done ++ x ∷ []) xs))
    → Verdict done (x ∷ xs) (if b then first_beyond (done ++ x ∷ []) xs else Some x.1.at)
unfolding Verdict
here done x xs within true fits rest = later done x xs within (first_beyond (done ++ x ∷ []) xs) (rest fits)
here done x xs within false fits rest =
    record {
      number = zero;
      part = x;
      stands = refl;
      before = none_before done (x ∷ xs) within;
      fails = λ is. let yes = more_fits done x is in absurd (let clash : true ≡ false = sym yes ∙ fits in cc);
      at = refl;
    }

pub verdict : (done ps : List (Owner × Part)) → AreWithinLimits done → Verdict done ps (first_beyond done ps)
unfolding Verdict first_beyond
verdict done [] within = subst AreWithinLimits (sym (append-nil done)) within
verdict done (x ∷ xs) within =
    here done x xs within (fits_behind done x) refl (λ fits. verdict (done ++ x ∷ []) xs (one_more done x within fits))

pub nothing_within : AreWithinLimits []
nothing_within = record { each = tt; nodes = λ c. omega arith }

one_behind : (n : ℕ) → n + 1 ≡ suc n
one_behind n = omega arith

-- the number of a refusal is written with `+`
pub as_refused : (ps : List (Owner × Part)) (p : Pos) → IsFirstBehind [] ps p → IsFirstBeyond ps p
as_refused ps p first =
    record {
      number = first.number;
      part = first.part;
      stands = first.stands;
      before = first.before;
      fails = λ is. first.fails (subst (λ k. AreWithinLimits (take k ps)) (one_behind first.number) is);
      at = first.at;
    }

-- The laws.

not_both : (ps : List (Owner × Part)) (p : Pos) → AreWithinLimits ps → IsFirstBeyond ps p → ⊥
not_both ps p within first =
    let all : ℕ = first.number + 1 + length ps in
    first.fails (never_comes_back ps (first.number + 1) all (omega arith)
    (subst AreWithinLimits (sym (take_all all ps (omega arith))) within))

same_part : (o : Option (Owner × Part)) (a b : Owner × Part) → o ≡ Some a → o ≡ Some b → a ≡ b
same_part o a b p q = cc

one_place : (ps : List (Owner × Part)) (p q : Pos) → IsFirstBeyond ps p → IsFirstBeyond ps q → p ≡ q
one_place ps p q r s =
    elim (cases_order r.number s.number) [
      | inl e ↦
          let same : r.part ≡ s.part =
          same_part (slice_get ps r.number) r.part s.part r.stands (ap (slice_get ps) e ∙ s.stands) in
          sym r.at ∙ (ap (λ x. x.1.at) same ∙ s.at)
      | inr order ↦
          elim order [
            | inl less ↦ absurd (r.fails (s.before (r.number + 1) (omega arith)))
            | inr more ↦ absurd (s.fails (r.before (s.number + 1) (omega arith)))
          ]
    ]

one_of_two : (ps : List (Owner × Part)) (v : Option Pos) → Verdict [] ps v → (AreWithinLimits ps → ⊥) → ((p : Pos) → IsFirstBeyond ps p → ⊥) → ⊥
unfolding Verdict
one_of_two ps None within not never = not within
one_of_two ps (Some p) first not never = never p (as_refused ps p first)

pub judged_once : AreJudgedOnce
judged_once u =
    record {
      not_both = not_both (parts u);
      one_place = one_place (parts u);
      not_neither = one_of_two (parts u) (first_beyond [] (parts u)) (verdict [] (parts u) nothing_within);
    }
