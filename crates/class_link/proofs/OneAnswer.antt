-- Classes have one answer.
use Rattle.std.proofs.Common.{◌≡◌, ℕ, ◌<◌, ◌⊎◌, inl, inr, refl, sym, ap, subst, ◌∙◌, List, Option, None, Some, arith}
use Rattle.std.specs.Prelude.{slice_get, ◌≢◌}
use Rattle.jvm_class_types.specs.declared.classes.ClassFile.{ClassFile}
use Rattle.class_linked.specs.Numbers.{first_file_class}
use Rattle.class_linked.specs.declared.classes.Linked.{Linked}
use Rattle.class_supers.specs.Graph.{Graph, IsFirstOnCycle}
use Rattle.class_members.specs.declared.hierarchy.Hierarchy.{Hierarchy}
use Rattle.class_missing.specs.Missing.{files_missing}
use Rattle.class_link.specs.declared.errors.LinkErr.{LinkErr}
use Rattle.class_link.specs.declared.errors.LinkErr.TheVariants.{Missing, Cycle, NoMain, NoMemory}
use Rattle.class_link.specs.Classes.{linked_of}
use Rattle.class_link.specs.Linking.{AreLinked, Fails, IsClosed, IsFirstCycle, IsHierarchyOf, WhyNot, name_of}
use Rattle.class_link.specs.Laws.{NotBoth, OneLinked, OneRefusal}
use Rattle.class_link.proofs.OneHierarchy.{one_hierarchy}

same_hierarchy : (classes : List ClassFile) (h k : Hierarchy) → IsHierarchyOf classes h → IsHierarchyOf classes k → h ≡ k
same_hierarchy classes h k p q = one_hierarchy _ h k p q

pub one_linked : OneLinked
one_linked classes linked other (h, p, c, e) (k, q, d, f) =
    e ∙ ap (λ x. linked_of x classes) (same_hierarchy classes h k p q) ∙ sym f

-- ---- what is closed isn't refused

refuted : (classes : List ClassFile) (h : Hierarchy) (error : LinkErr) → IsClosed classes h → Fails classes h error → error ≡ NoMemory
refuted classes h (Missing name) c f = let e = c.complete in absurd cc
refuted classes h (Cycle name) c f = absurd (c.acyclic f.1.class f.1.first.0)
refuted classes h NoMain c f = let e = c.main in let g = f.2 in absurd cc
refuted classes h NoMemory c f = refl

fails_in : (classes : List ClassFile) (h : Hierarchy) (error : LinkErr) → IsHierarchyOf classes h → WhyNot classes error → Fails classes h error
fails_in classes h (Missing name) p (k, q, f) = subst (λ x. Fails classes x (Missing name)) (same_hierarchy classes k h q p) f
fails_in classes h (Cycle name) p (k, q, f) = subst (λ x. Fails classes x (Cycle name)) (same_hierarchy classes k h q p) f
fails_in classes h NoMain p (k, q, f) = subst (λ x. Fails classes x NoMain) (same_hierarchy classes k h q p) f
fails_in classes h NoMemory p f = f

pub not_both : NotBoth
not_both classes linked error (h, p, c, e) f = refuted classes h error c (fails_in classes h error p f)

-- ---- one refusal

in_order : (m n : ℕ) → (m < n) ⊎ ((m ≡ n) ⊎ (n < m))
in_order m n = grind arith

first_once : (g : Graph) (c d : ℕ) → IsFirstOnCycle g c → IsFirstOnCycle g d → c ≡ d
first_once g c d p q = elim (in_order c d) [
  | inl lt ↦ absurd (q.1 c lt p.0)
  | inr r ↦ elim r [ inl e ↦ e | inr gt ↦ absurd (p.1 d gt q.0) ]
]

some_same : {A : Type 0} (a b : A) → Some a ≡ Some b → a ≡ b
some_same a b e = cc

one_cycle : (h : Hierarchy) (m n : List ℕ) → IsFirstCycle h m → IsFirstCycle h n → m ≡ n
one_cycle h m n p q =
    some_same m n (sym p.named ∙ ap (λ c. name_of (slice_get h.headers c)) (first_once h.links p.class q.class p.first q.first)
    ∙ q.named)

one_of : (classes : List ClassFile) (h : Hierarchy) (e f : LinkErr) → Fails classes h e → Fails classes h f → e ≢ NoMemory → f ≢ NoMemory → e ≡ f
one_of classes h (Missing m) (Missing n) p q a b = ap (λ x. Missing x) (some_same m n (sym p ∙ q))
one_of classes h (Missing m) (Cycle n) p q a b = let x = q.0 in absurd cc
one_of classes h (Missing m) NoMain p q a b = let x = q.0 in absurd cc
one_of classes h (Cycle m) (Missing n) p q a b = let x = p.0 in absurd cc
one_of classes h (Cycle m) (Cycle n) p q a b = ap (λ x. Cycle x) (one_cycle h m n p.1 q.1)
one_of classes h (Cycle m) NoMain p q a b = absurd (q.1 p.1.class p.1.first.0)
one_of classes h NoMain (Missing n) p q a b = let x = p.0 in absurd cc
one_of classes h NoMain (Cycle n) p q a b = absurd (p.1 q.1.class q.1.first.0)
one_of classes h NoMain NoMain p q a b = refl
one_of classes h NoMemory f p q a b = absurd (a refl)
one_of classes h e NoMemory p q a b = absurd (b refl)

hierarchy_of : (classes : List ClassFile) (e : LinkErr) → WhyNot classes e → e ≢ NoMemory → (h : Hierarchy) × IsHierarchyOf classes h
hierarchy_of classes (Missing name) (h, p, f) a = (h, p)
hierarchy_of classes (Cycle name) (h, p, f) a = (h, p)
hierarchy_of classes NoMain (h, p, f) a = (h, p)
hierarchy_of classes NoMemory w a = absurd (a refl)

pub one_refusal : OneRefusal
one_refusal classes e f v w a b =
    let found = hierarchy_of classes e v a in
    one_of classes found.0 e f (fails_in classes found.0 e found.1 v) (fails_in classes found.0 f found.1 w) a b
