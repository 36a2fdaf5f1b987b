-- The walk over a unit gives its verdict.
use Rattle.std.proofs.Common.{◌≡◌, ◌≤◌, ◌<◌, ℕ, zero, suc, ◌+◌, Bool, true, false, ◌&&◌, List, [], ◌∷◌, ◌++◌, Option, Some, None, nat_le, if◌then◌else◌, map, refl, ap, ap₂, subst, sym, ◌∙◌, arith}
use Rattle.std.specs.Prelude.{slice_get, Result, Ok, Err}
use Rattle.std.proofs.lemmas.List.{append_assoc, append-nil}
use Rattle.kt_base.specs.declared.refusals.Pos.{Pos}
use Rattle.kt_typed.specs.declared.headers.DeclarationNumber.{DeclarationNumber}
use Rattle.kt_typed.specs.declared.headers.DeclarationNumber.TheVariants as number
use Rattle.kt_typed.specs.Headers.{HeadersForm}
use Rattle.kt_typed.specs.Units.{UnitForm}
use Rattle.kt_limits.specs.Limits.{Part, Owner, the_file, declared_at, is_owner, nodes_of, most_nodes}
use Rattle.kt_limits.specs.Parts.{owned, owned_from, owner_of, declaration_headers, declaration_statements, headers, statements, parts}
use Rattle.kt_limits.specs.Walking.{is_fine, step, step_of, then_on, walk, headed, walk_headers, maybe_parts, class_parts, stated, walk_statements, walk_unit}
use Rattle.kt_limits.proofs.Owners.{nodes-append, own_nodes, other_nodes, other_number, total}
use Rattle.kt_limits.proofs.Judged.{first_beyond, fits_behind}

-- what a walk says of the rest
unfoldable pub after : {A : Type 0} → Result A Pos → (A → Option Pos) → Option Pos
after (Ok x) f = f x
after (Err p) f = Some p

after_then : {A B : Type 0} (r : Result A Pos) (f : A → Result B Pos) (g : B → Option Pos) → after (then_on r f) g ≡ after r (λ x. after (f x) g)
unfolding after
after_then (Ok x) f g = refl
after_then (Err p) f g = refl

-- one part, then what follows
one_step : (c : Owner) (done : List (Owner × Part)) (p : Part) (b : Bool) (n : ℕ) (at : Pos) (f : ℕ → Result ℕ Pos) (g : ℕ → Option Pos) (more : Option Pos)
    → (b ≡ true → more ≡ after (f n) g)
    → (if b then more else Some at) ≡ after (then_on (if b then Ok n else Err at) f) g
unfolding after
one_step c done p true n at f g more on = on refl
one_step c done p false n at f g more on = refl

own_with : (c : Owner) (done : List (Owner × Part)) (p : Part) → nodes_of c (done ++ (c, p) ∷ []) ≡ nodes_of c done + p.nodes
unfolding total
own_with c done p =
    let both = nodes-append c done (owned c (p ∷ [])) in
    let own = own_nodes c (p ∷ []) in
    let one : total (p ∷ []) ≡ p.nodes + 0 = refl in
    omega (arith, both, own, one)

-- the parts of one class, and those behind them
pub class_walk : (c : Owner) (ps : List Part) (done rest : List (Owner × Part)) (n : ℕ) → nodes_of c done ≡ n
    → first_beyond done (owned c ps ++ rest) ≡ after (walk n ps) (λ m. first_beyond (done ++ owned c ps) rest)
unfolding first_beyond fits_behind step after
class_walk c [] done rest n is = ap (λ d. first_beyond d rest) (sym (append-nil done))
class_walk c (p ∷ ps) done rest n is =
    let more = class_walk c ps (done ++ (c, p) ∷ []) rest (n + p.nodes) (own_with c done p ∙ ap (λ k. k + p.nodes) is) in
    let same = ap (λ d. after (walk (n + p.nodes) ps) (λ m. first_beyond d rest)) (append_assoc done ((c, p) ∷ []) (owned c ps)) in
    subst (λ k. (if is_fine p && nat_le (k + p.nodes) most_nodes then first_beyond (done ++ (c, p) ∷ []) (owned c ps ++ rest) else Some p.at)
    ≡ after (then_on (step n p) (λ m. walk m ps)) (λ m. first_beyond (done ++ (c, p) ∷ owned c ps) rest)) (sym is)
    (one_step c done p (is_fine p && nat_le (n + p.nodes) most_nodes) (n + p.nodes) p.at (λ m. walk m ps) _ _ (λ is. more ∙ same))

no_error : {A : Type 0} (p : Pos) (x : A) → ◌≡◌ {A = Result A Pos} (Err p) (Ok x) → ⊥
no_error p x e = absurd cc

one_counted : (b : Bool) (n m k rest : ℕ) (at : Pos) (f : ℕ → Result ℕ Pos) → (f (n + k) ≡ Ok m → m ≡ n + k + rest)
    → then_on (if b then Ok (n + k) else Err at) f ≡ Ok m → m ≡ n + (k + rest)
one_counted true n m k rest at f more e = let sum = more e in omega (arith, sum)
one_counted false n m k rest at f more e = absurd (no_error at m e)

pub walked_total : (ps : List Part) (n m : ℕ) → walk n ps ≡ Ok m → m ≡ n + total ps
unfolding step total
walked_total [] n m e = let same : n ≡ m = ok_is n m e in omega (arith, same)
  where
    ok_is : (a b : ℕ) → walk a [] ≡ Ok b → a ≡ b
    ok_is a b d = cc
walked_total (p ∷ ps) n m e =
    one_counted (is_fine p && nat_le (n + p.nodes) most_nodes) n m p.nodes (total ps) p.at (λ k. walk k ps)
    (walked_total ps (n + p.nodes) m) e

next_place : (k j : ℕ) → suc k + j ≡ k + suc j
next_place k j = omega arith

-- Headers.

-- no class from a place on has nodes
abbrev pub NoneFrom : ℕ → List (Owner × Part) → Type 0
NoneFrom k done = (j : ℕ) → nodes_of (declared_at (k + j)) done ≡ 0

more_of : (c : Owner) (done : List (Owner × Part)) (ps : List Part) (n : ℕ) → nodes_of c done ≡ n → nodes_of c (done ++ owned c ps) ≡ n + total ps
more_of c done ps n is =
    let both = nodes-append c done (owned c ps) in
    let own = own_nodes c ps in
    omega (arith, both, own, is)

same_of : (c d : Owner) (done : List (Owner × Part)) (ps : List Part) (n : ℕ) → is_owner c d ≡ false → nodes_of c done ≡ n → nodes_of c (done ++ owned d ps) ≡ n
same_of c d done ps n differ is =
    let both = nodes-append c done (owned d ps) in
    let none = other_nodes c d differ ps in
    omega (arith, both, none, is)

later_place : (k j : ℕ) → is_owner (declared_at (suc k + j)) (declared_at k) ≡ false
later_place k j = other_number (suc k + j) k (λ e. omega arith)

none_later : (k : ℕ) (d : DeclarationNumber) (done : List (Owner × Part)) (ps : List Part) → NoneFrom k done → NoneFrom (suc k) (done ++ owned (owner_of k d) ps)
none_later k (number.Function n) done ps none j =
    same_of (declared_at (suc k + j)) the_file done ps 0 refl (ap (λ i. nodes_of (declared_at i) done) (next_place k j) ∙ none (suc j))
none_later k (number.Class c) done ps none j =
    same_of (declared_at (suc k + j)) (declared_at k) done ps 0 (later_place k j) (ap (λ i. nodes_of (declared_at i) done) (next_place k j) ∙ none (suc j))
none_later k (number.Constant n) done ps none j =
    same_of (declared_at (suc k + j)) the_file done ps 0 refl (ap (λ i. nodes_of (declared_at i) done) (next_place k j) ∙ none (suc j))

-- the parts of a declaration, then those behind it
going : (r : Result ℕ Pos) (f : ℕ → Option Pos) (g : ℕ → Result ℕ Pos) (h : ℕ → Option Pos) → ((m : ℕ) → r ≡ Ok m → f m ≡ after (g m) h)
    → after r f ≡ after (then_on r g) h
unfolding after
going (Ok m) f g h more = more m refl
going (Err p) f g h more = refl

on_owner : (c : Owner) (ps : List Part) (done all : List (Owner × Part)) (n : ℕ) (g : ℕ → Result ℕ Pos) (h : ℕ → Option Pos) → nodes_of c done ≡ n
    → ((m : ℕ) → walk n ps ≡ Ok m → first_beyond (done ++ owned c ps) all ≡ after (g m) h)
    → first_beyond done (owned c ps ++ all) ≡ after (then_on (walk n ps) g) h
on_owner c ps done all n g h is more =
    class_walk c ps done all n is ∙ going (walk n ps) (λ m. first_beyond (done ++ owned c ps) all) g h more

-- a class lets the count of the file as it is
kept_count : (r : Result ℕ Pos) (m : ℕ) (f : ℕ → Result ℕ Pos) → then_on r (λ n. f m) ≡ then_on (then_on r (λ n. Ok m)) f
kept_count (Ok n) m f = refl
kept_count (Err p) m f = refl

file_count : (done : List (Owner × Part)) (ps : List Part) (m n : ℕ) → nodes_of the_file done ≡ m → walk m ps ≡ Ok n → nodes_of the_file (done ++ owned the_file ps) ≡ n
file_count done ps m n is e =
    let more = more_of the_file done ps m is in
    let sum = walked_total ps m n e in
    omega (arith, more, sum)

-- the rest of the headers, behind those of one declaration
regrouped : (done a b rest : List (Owner × Part)) (n : Option Pos) → first_beyond (done ++ (a ++ b)) rest ≡ n → first_beyond ((done ++ a) ++ b) rest ≡ n
regrouped done a b rest n is = ap (λ d. first_beyond d rest) (append_assoc done a b) ∙ is

at_own_place : (k : ℕ) (done : List (Owner × Part)) (n : ℕ) → nodes_of (declared_at (k + zero)) done ≡ n → nodes_of (declared_at k) done ≡ n
at_own_place k done n is = let e : k + zero ≡ k = omega arith in ap (λ i. nodes_of (declared_at i) done) (sym e) ∙ is

-- The headers, and what stands behind them.
headers_walked : (h : HeadersForm) (ds : List DeclarationNumber) (k m : ℕ) (done rest : List (Owner × Part)) (next : ℕ → Option Pos)
    → nodes_of the_file done ≡ m → NoneFrom k done
    → ((n : ℕ) → walk_headers h m ds ≡ Ok n → first_beyond (done ++ owned_from (declaration_headers h) k ds) rest ≡ next n)
    → first_beyond done (owned_from (declaration_headers h) k ds ++ rest) ≡ after (walk_headers h m ds) next
unfolding after
headers_walked h [] k m done rest next is none on = ap (λ d. first_beyond d rest) (sym (append-nil done)) ∙ on m refl
headers_walked h (number.Function n ∷ ds) k m done rest next is none on =
    ap (first_beyond done) (append_assoc (owned the_file (declaration_headers h (number.Function n))) (owned_from (declaration_headers h) (suc k) ds) rest)
    ∙ on_owner the_file (declaration_headers h (number.Function n)) done (owned_from (declaration_headers h) (suc k) ds ++ rest) m
    (λ j. walk_headers h j ds) next is (λ j e.
    headers_walked h ds (suc k) j (done ++ owned the_file (declaration_headers h (number.Function n))) rest next
    (file_count done (declaration_headers h (number.Function n)) m j is e)
    (none_later k (number.Function n) done (declaration_headers h (number.Function n)) none)
    (λ i d. regrouped done (owned the_file (declaration_headers h (number.Function n))) (owned_from (declaration_headers h) (suc k) ds) rest (next i)
    (on i (ap (λ r. then_on r (λ x. walk_headers h x ds)) e ∙ d))))
headers_walked h (number.Class c ∷ ds) k m done rest next is none on =
    ap (first_beyond done) (append_assoc (owned (declared_at k) (declaration_headers h (number.Class c))) (owned_from (declaration_headers h) (suc k) ds) rest)
    ∙ (on_owner (declared_at k) (declaration_headers h (number.Class c)) done (owned_from (declaration_headers h) (suc k) ds ++ rest) 0
    (λ j. walk_headers h m ds) next (at_own_place k done 0 (none zero)) (λ j e.
    headers_walked h ds (suc k) m (done ++ owned (declared_at k) (declaration_headers h (number.Class c))) rest next
    (same_of the_file (declared_at k) done (declaration_headers h (number.Class c)) m refl is)
    (none_later k (number.Class c) done (declaration_headers h (number.Class c)) none)
    (λ i d. regrouped done (owned (declared_at k) (declaration_headers h (number.Class c))) (owned_from (declaration_headers h) (suc k) ds) rest (next i)
    (on i (ap (λ r. then_on (then_on r (λ x. Ok m)) (λ x. walk_headers h x ds)) e ∙ d))))
    ∙ ap (λ r. after r next) (kept_count (walk 0 (declaration_headers h (number.Class c))) m (λ j. walk_headers h j ds)))
headers_walked h (number.Constant n ∷ ds) k m done rest next is none on =
    ap (first_beyond done) (append_assoc (owned the_file (declaration_headers h (number.Constant n))) (owned_from (declaration_headers h) (suc k) ds) rest)
    ∙ on_owner the_file (declaration_headers h (number.Constant n)) done (owned_from (declaration_headers h) (suc k) ds ++ rest) m
    (λ j. walk_headers h j ds) next is (λ j e.
    headers_walked h ds (suc k) j (done ++ owned the_file (declaration_headers h (number.Constant n))) rest next
    (file_count done (declaration_headers h (number.Constant n)) m j is e)
    (none_later k (number.Constant n) done (declaration_headers h (number.Constant n)) none)
    (λ i d. regrouped done (owned the_file (declaration_headers h (number.Constant n))) (owned_from (declaration_headers h) (suc k) ds) rest (next i)
    (on i (ap (λ r. then_on r (λ x. walk_headers h x ds)) e ∙ d))))

same_ok : (a b : ℕ) → ◌≡◌ {A = Result ℕ Pos} (Ok a) (Ok b) → a ≡ b
same_ok a b e = cc

-- What headers count for where the walk over them ends well.

went_on : {A B : Type 0} (r : Result A Pos) (f : A → Result B Pos) (y : B) → then_on r f ≡ Ok y → (x : A) × (r ≡ Ok x) × (f x ≡ Ok y)
went_on (Ok x) f y e = (x, refl, e)
went_on (Err p) f y e = absurd (no_error p y e)

-- a class that stands before has none of these parts
none_earlier : (f : DeclarationNumber → List Part) (ds : List DeclarationNumber) (i k : ℕ) → i < k → nodes_of (declared_at i) (owned_from f k ds) ≡ 0
none_earlier f [] i k less = refl
none_earlier f (number.Function n ∷ ds) i k less =
    let rest = none_earlier f ds i (suc k) (omega arith) in
    let both = nodes-append (declared_at i) (owned the_file (f (number.Function n))) (owned_from f (suc k) ds) in
    let none = other_nodes (declared_at i) the_file refl (f (number.Function n)) in
    omega (arith, rest, both, none)
none_earlier f (number.Class c ∷ ds) i k less =
    let rest = none_earlier f ds i (suc k) (omega arith) in
    let both = nodes-append (declared_at i) (owned (declared_at k) (f (number.Class c))) (owned_from f (suc k) ds) in
    let none = other_nodes (declared_at i) (declared_at k) (other_number i k (λ e. omega arith)) (f (number.Class c)) in
    omega (arith, rest, both, none)
none_earlier f (number.Constant n ∷ ds) i k less =
    let rest = none_earlier f ds i (suc k) (omega arith) in
    let both = nodes-append (declared_at i) (owned the_file (f (number.Constant n))) (owned_from f (suc k) ds) in
    let none = other_nodes (declared_at i) the_file refl (f (number.Constant n)) in
    omega (arith, rest, both, none)

-- the headers of the file
file_headers : (h : HeadersForm) (ds : List DeclarationNumber) (k m n : ℕ) → walk_headers h m ds ≡ Ok n
    → n ≡ m + nodes_of the_file (owned_from (declaration_headers h) k ds)
file_headers h [] k m n e = let same : m ≡ n = same_ok m n e in omega (arith, same)
file_headers h (number.Function f ∷ ds) k m n e =
    let on = went_on (walk m (declaration_headers h (number.Function f))) (λ j. walk_headers h j ds) n e in
    let sum = walked_total (declaration_headers h (number.Function f)) m on.0 on.1 in
    let rest = file_headers h ds (suc k) on.0 n on.2 in
    let both = nodes-append the_file (owned the_file (declaration_headers h (number.Function f))) (owned_from (declaration_headers h) (suc k) ds) in
    let own = own_nodes the_file (declaration_headers h (number.Function f)) in
    omega (arith, sum, rest, both, own)
file_headers h (number.Class c ∷ ds) k m n e =
    let on = went_on (headed h m (number.Class c)) (λ j. walk_headers h j ds) n e in
    let class = went_on (walk 0 (declaration_headers h (number.Class c))) (λ j. Ok m) on.0 on.1 in
    let same : m ≡ on.0 = same_ok m on.0 class.2 in
    let rest = file_headers h ds (suc k) on.0 n on.2 in
    let both = nodes-append the_file (owned (declared_at k) (declaration_headers h (number.Class c))) (owned_from (declaration_headers h) (suc k) ds) in
    let none = other_nodes the_file (declared_at k) refl (declaration_headers h (number.Class c)) in
    omega (arith, same, rest, both, none)
file_headers h (number.Constant f ∷ ds) k m n e =
    let on = went_on (walk m (declaration_headers h (number.Constant f))) (λ j. walk_headers h j ds) n e in
    let sum = walked_total (declaration_headers h (number.Constant f)) m on.0 on.1 in
    let rest = file_headers h ds (suc k) on.0 n on.2 in
    let both = nodes-append the_file (owned the_file (declaration_headers h (number.Constant f))) (owned_from (declaration_headers h) (suc k) ds) in
    let own = own_nodes the_file (declaration_headers h (number.Constant f)) in
    omega (arith, sum, rest, both, own)

-- a class has no part of another declaration
not_owner : (k j : ℕ) (d : DeclarationNumber) → is_owner (declared_at (k + suc j)) (owner_of k d) ≡ false
not_owner k j (number.Function n) = refl
not_owner k j (number.Class c) = other_number (k + suc j) k (λ e. omega arith)
not_owner k j (number.Constant n) = refl

skipped : (k j : ℕ) (d : DeclarationNumber) (ps : List Part) (rest : List (Owner × Part))
    → nodes_of (declared_at (k + suc j)) (owned (owner_of k d) ps ++ rest) ≡ nodes_of (declared_at (suc k + j)) rest
skipped k j d ps rest =
    let both = nodes-append (declared_at (k + suc j)) (owned (owner_of k d) ps) rest in
    let none = other_nodes (declared_at (k + suc j)) (owner_of k d) (not_owner k j d) ps in
    let place = ap (λ i. nodes_of (declared_at i) rest) (next_place k j) in
    omega (arith, both, none, place)

same_class : (b c : ℕ) → ◌≡◌ {A = Option DeclarationNumber} (Some (number.Class b)) (Some (number.Class c)) → b ≡ c
same_class b c e = cc

no_function : (n c : ℕ) → ◌≡◌ {A = Option DeclarationNumber} (Some (number.Function n)) (Some (number.Class c)) → ⊥
no_function n c e = absurd cc

no_constant : (n c : ℕ) → ◌≡◌ {A = Option DeclarationNumber} (Some (number.Constant n)) (Some (number.Class c)) → ⊥
no_constant n c e = absurd cc

none_there : (c : ℕ) → ◌≡◌ {A = Option DeclarationNumber} None (Some (number.Class c)) → ⊥
none_there c e = absurd cc

-- the headers of each class
abbrev pub HasCounts : HeadersForm → ℕ → List DeclarationNumber → List (Owner × Part) → Type 0
HasCounts h k ds done =
    (j c : ℕ) → slice_get ds j ≡ Some (number.Class c) → walk 0 (declaration_headers h (number.Class c)) ≡ Ok (nodes_of (declared_at (k + j)) done)

class_count : (h : HeadersForm) (c k j : ℕ) (rest : List (Owner × Part)) → walk 0 (declaration_headers h (number.Class c)) ≡ Ok j
    → nodes_of (declared_at k) rest ≡ 0
    → walk 0 (declaration_headers h (number.Class c)) ≡ Ok (nodes_of (declared_at (k + zero)) (owned (declared_at k) (declaration_headers h (number.Class c)) ++ rest))
class_count h c k j rest e none =
    let sum = walked_total (declaration_headers h (number.Class c)) 0 j e in
    let place : k + zero ≡ k = omega arith in
    let both = nodes-append (declared_at k) (owned (declared_at k) (declaration_headers h (number.Class c))) rest in
    let own = own_nodes (declared_at k) (declaration_headers h (number.Class c)) in
    let count : j ≡ nodes_of (declared_at k) (owned (declared_at k) (declaration_headers h (number.Class c)) ++ rest) = omega (arith, sum, both, own, none) in
    e ∙ (ap Ok count ∙ ap (λ i. Ok (nodes_of (declared_at i) (owned (declared_at k) (declaration_headers h (number.Class c)) ++ rest))) (sym place))

class_headers_count : (h : HeadersForm) (ds : List DeclarationNumber) (k m n : ℕ) → walk_headers h m ds ≡ Ok n
    → HasCounts h k ds (owned_from (declaration_headers h) k ds)
class_headers_count h [] k m n e zero c d = absurd (none_there c d)
class_headers_count h [] k m n e (suc j) c d = absurd (none_there c d)
class_headers_count h (number.Function f ∷ ds) k m n e zero c d = absurd (no_function f c d)
class_headers_count h (number.Constant f ∷ ds) k m n e zero c d = absurd (no_constant f c d)
class_headers_count h (number.Class b ∷ ds) k m n e zero c d =
    let on = went_on (headed h m (number.Class b)) (λ j. walk_headers h j ds) n e in
    let class = went_on (walk 0 (declaration_headers h (number.Class b))) (λ j. Ok m) on.0 on.1 in
    let same : b ≡ c = same_class b c d in
    subst (λ x. walk 0 (declaration_headers h (number.Class x)) ≡ Ok (nodes_of (declared_at (k + zero)) (owned_from (declaration_headers h) k (number.Class b ∷ ds)))) same
    (class_count h b k class.0 (owned_from (declaration_headers h) (suc k) ds) class.1 (none_earlier (declaration_headers h) ds k (suc k) (omega arith)))
class_headers_count h (a ∷ ds) k m n e (suc j) c d =
    let on = went_on (headed h m a) (λ i. walk_headers h i ds) n e in
    class_headers_count h ds (suc k) on.0 n on.2 j c d
    ∙ ap Ok (sym (skipped k j a (declaration_headers h a) (owned_from (declaration_headers h) (suc k) ds)))

-- Statements.

-- the direct statements of a declaration as the code goes through them
abbrev pub code_parts : UnitForm → DeclarationNumber → List Part
code_parts u (number.Function n) = maybe_parts (slice_get u.functions n)
code_parts u (number.Class c) = class_parts (slice_get u.headers.classes c) (slice_get u.classes c)
code_parts u (number.Constant n) = []

counts_later : (u : UnitForm) (k : ℕ) (d : DeclarationNumber) (ds : List DeclarationNumber) (done : List (Owner × Part)) (ps : List Part)
    → HasCounts u.headers k (d ∷ ds) done → HasCounts u.headers (suc k) ds (done ++ owned (owner_of k d) ps)
counts_later u k d ds done ps counts j c e =
    counts (suc j) c e
    ∙ ap Ok (sym (same_of (declared_at (suc k + j)) (owner_of k d) done ps _ (ap (λ i. is_owner (declared_at i) (owner_of k d)) (next_place k j) ∙ not_owner k j d)
    (ap (λ i. nodes_of (declared_at i) done) (next_place k j))))

unfoldable pub no_part : ℕ → Option Pos
no_part n = None

statements_walked : (u : UnitForm) (ds : List DeclarationNumber) (k m : ℕ) (done : List (Owner × Part)) → nodes_of the_file done ≡ m
    → HasCounts u.headers k ds done → first_beyond done (owned_from (code_parts u) k ds) ≡ after (walk_statements u m ds) no_part
unfolding after no_part first_beyond
statements_walked u [] k m done is counts = refl
statements_walked u (number.Function n ∷ ds) k m done is counts =
    on_owner the_file (code_parts u (number.Function n)) done (owned_from (code_parts u) (suc k) ds) m (λ j. walk_statements u j ds) no_part is (λ j e.
    statements_walked u ds (suc k) j (done ++ owned the_file (code_parts u (number.Function n)))
    (file_count done (code_parts u (number.Function n)) m j is e)
    (counts_later u k (number.Function n) ds done (code_parts u (number.Function n)) counts))
statements_walked u (number.Class c ∷ ds) k m done is counts =
    on_owner (declared_at k) (code_parts u (number.Class c)) done (owned_from (code_parts u) (suc k) ds) (nodes_of (declared_at k) done)
    (λ j. walk_statements u m ds) no_part refl (λ j e.
    statements_walked u ds (suc k) m (done ++ owned (declared_at k) (code_parts u (number.Class c)))
    (same_of the_file (declared_at k) done (code_parts u (number.Class c)) m refl is)
    (counts_later u k (number.Class c) ds done (code_parts u (number.Class c)) counts))
    ∙ (ap (λ r. after r no_part) (kept_count (walk (nodes_of (declared_at k) done) (code_parts u (number.Class c))) m (λ j. walk_statements u j ds))
    ∙ ap (λ r. after (then_on (then_on r (λ n. then_on (walk n (code_parts u (number.Class c))) (λ j. Ok m))) (λ j. walk_statements u j ds)) no_part)
    (sym (counts zero c refl ∙ ap Ok (sym (at_own_place k done (nodes_of (declared_at (k + zero)) done) refl)))))
statements_walked u (number.Constant n ∷ ds) k m done is counts =
    statements_walked u ds (suc k) m done is
    (λ j c e. counts (suc j) c e ∙ ap (λ i. Ok (nodes_of (declared_at i) done)) (sym (next_place k j)))

same_parts : (f g : DeclarationNumber → List Part) → ((d : DeclarationNumber) → f d ≡ g d) → (k : ℕ) (ds : List DeclarationNumber) → owned_from f k ds ≡ owned_from g k ds
same_parts f g same k [] = refl
same_parts f g same k (d ∷ ds) = ap₂ (λ a b. owned (owner_of k d) a ++ b) (same d) (same_parts f g same (suc k) ds)

from_nothing : (n m : ℕ) → n ≡ 0 + m → m ≡ n
from_nothing n m e = omega arith

-- the walk over a unit finds the first part that passes a limit
pub unit_walked : (u : UnitForm) → ((d : DeclarationNumber) → declaration_statements u d ≡ code_parts u d)
    → first_beyond [] (parts u) ≡ after (walk_unit u) no_part
unit_walked u same =
    headers_walked u.headers u.headers.order 0 0 [] (statements u) (λ n. after (walk_statements u n u.headers.order) no_part) refl (λ j. refl)
    (λ n e.
    ap (first_beyond (headers u)) (same_parts (declaration_statements u) (code_parts u) same 0 u.headers.order)
    ∙ statements_walked u u.headers.order 0 n (headers u)
    (from_nothing n (nodes_of the_file (headers u)) (file_headers u.headers u.headers.order 0 0 n e)) (class_headers_count u.headers u.headers.order 0 0 n e))
    ∙ sym (after_then (walk_headers u.headers 0 u.headers.order) (λ n. walk_statements u n u.headers.order) no_part)
