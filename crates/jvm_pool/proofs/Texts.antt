-- Texts in modified UTF-8: each has one spelling, and each spelling is of one text.
use Rattle.std.proofs.Common.{◌≡◌, ℕ, ◌^◌, ◌<◌, List, [], ◌∷◌, ◌++◌, length, Some, None, refl, sym, ap, ◌∙◌, append_assoc, arith}
use Rattle.std.proofs.lemmas.List.{append-nil}
use Rattle.std.proofs.lemmas.List.Elements.{All-tail}
use Rattle.jvm_pool.specs.Modified.{unit_bytes, modified, IsText}
use Rattle.jvm_pool.specs.ModifiedReading.{first_unit}
use Rattle.jvm_pool.proofs.Fronts.{pair_is}
use Rattle.jvm_pool.proofs.Units.{first_unit_again, first_unit_takes}

IsText-head : (u : ℕ) (us : List ℕ) → IsText (u ∷ us) → u < 2 ^ 16
IsText-head u us h = h 0 0 (omega arith)

IsText-tail : (u : ℕ) (us : List ℕ) → IsText (u ∷ us) → IsText us
IsText-tail u us h = All-tail (λ unit. unit < 2 ^ 16) u us h

no_pair : (x : ℕ) (a : List ℕ) → first_unit [] ≡ Some (x, a) → ⊥
no_pair x a e = cc

-- a text that isn't empty is read from the front
pub first_of_text : (u : ℕ) (us : List ℕ) → IsText (u ∷ us) → first_unit (modified (u ∷ us)) ≡ Some (u, modified us)
first_of_text u us h = first_unit_again u (modified us) (IsText-head u us h)

pub one_text : (xs ys : List ℕ) → IsText xs → IsText ys → modified xs ≡ modified ys → xs ≡ ys
one_text [] [] p q e = refl
one_text [] (y ∷ ys) p q e = absurd (no_pair y (modified ys) (ap first_unit e ∙ first_of_text y ys q))
one_text (x ∷ xs) [] p q e = absurd (no_pair x (modified xs) (ap first_unit (sym e) ∙ first_of_text x xs p))
one_text (x ∷ xs) (y ∷ ys) p q e =
    let same = pair_is (first_unit (modified (x ∷ xs))) x y (modified xs) (modified ys) (first_of_text x xs p) (ap first_unit e ∙ first_of_text y ys q) in
    let rest = one_text xs ys (IsText-tail x xs p) (IsText-tail y ys q) same.1 in
    ap (λ z. z ∷ xs) same.0 ∙ ap (λ zs. y ∷ zs) rest

front_of : (u : ℕ) (us rest : List ℕ) → IsText (u ∷ us) → first_unit (modified (u ∷ us) ++ rest) ≡ Some (u, modified us ++ rest)
front_of u us rest p = ap first_unit (append_assoc (unit_bytes u) (modified us) rest) ∙ first_unit_again u (modified us ++ rest) (IsText-head u us p)

-- what stands behind units that a text begins with is the rest of the text
text_behind : (units text rest : List ℕ) → IsText units → IsText text → modified units ++ rest ≡ modified text → (more : List ℕ) × IsText more × (rest ≡ modified more)
text_behind [] text rest p q e = (text, q, e)
text_behind (u ∷ us) [] rest p q e = absurd (no_pair u (modified us ++ rest) (ap first_unit (sym e) ∙ front_of u us rest p))
text_behind (u ∷ us) (t ∷ ts) rest p q e =
    let same = pair_is (first_unit (modified (u ∷ us) ++ rest)) u t (modified us ++ rest) (modified ts) (front_of u us rest p) (ap first_unit e ∙ first_of_text t ts q) in
    text_behind us ts rest (IsText-tail u us p) (IsText-tail t ts q) same.1

-- where no unit is at the front of what is left, the bytes spell no text
pub no_text : (units rest bytes : List ℕ) → IsText units → modified units ++ rest ≡ bytes → 0 < length rest → first_unit rest ≡ None
    → (text : List ℕ) → IsText text → bytes ≡ modified text → ⊥
no_text units rest bytes p read some none text q e =
    let behind = text_behind units text rest p q (read ∙ e) in
    by behind.0 behind.1 behind.2
  where
    by : (more : List ℕ) → IsText more → rest ≡ modified more → ⊥
    by [] fits is = omega (arith, ap length is)
    by (m ∷ more) fits is =
        let n : first_unit rest ≡ Some (m, modified more) = ap first_unit is ∙ first_of_text m more fits in
        cc

-- one unit further
pub text_further : (units rest bytes behind : List ℕ) (u : ℕ) → modified units ++ rest ≡ bytes → first_unit rest ≡ Some (u, behind) → modified (units ++ u ∷ []) ++ behind ≡ bytes
text_further units rest bytes behind u read found =
    let t = first_unit_takes rest u behind found in
    more units ∙ ap (λ l. modified units ++ l) (sym t.0) ∙ read
  where
    more : (us : List ℕ) → modified (us ++ u ∷ []) ++ behind ≡ modified us ++ (unit_bytes u ++ behind)
    more [] = ap (λ l. l ++ behind) (append-nil (unit_bytes u))
    more (x ∷ us) = append_assoc (unit_bytes x) (modified (us ++ u ∷ [])) behind ∙ ap (λ l. unit_bytes x ++ l) (more us) ∙ sym (append_assoc (unit_bytes x) (modified us) (unit_bytes u ++ behind))
