-- The steps of the walk, as the code makes them.
use Rattle.std.proofs.Common.{ℕ, ◌≡◌, refl, ap, sym, subst, ◌∙◌, ◌+◌, ◌*◌, ◌-◌, ◌<◌, ◌≤◌, inl, inr, List, [], ◌∷◌, ◌++◌, Option, Some, None, map, length, take, drop, get_or, arith}
use Rattle.std.specs.Prelude.{slice_get, ◌↔◌, option_map}
use Rattle.std.proofs.lemmas.Option.{slice_get-map}
use Rattle.kt_types_tree.specs.declared.hierarchy.Supertype.{Supertype}
use Rattle.kt_types_tree.specs.declared.types.KtType.{KtType}
use Rattle.kt_types_tree.specs.Types.{TypeForms, forms_of, type_form}
use Rattle.kt_types_tree.specs.Hierarchy.{super_form, HeaderForm, HierarchyForm, supers_of, supers_or_none}
use Rattle.kt_types_order.specs.Climbing.{here}
use Rattle.kt_types_order.specs.Graph.{Graph, HasNoCycle, class_graph, super_rows, row_or_none}
use Rattle.kt_types_climbing.specs.Reading.{read_all}
use Rattle.kt_types_climbing.specs.Weights.{sum_of, weight}
use Rattle.kt_types_climbing.specs.Nodes.{Node, node, above, in_layers, AnyClimbs, IsClosed, ClimbsTo}
use Rattle.kt_types_climbing.proofs.Weights.{weighs}
use Rattle.kt_types_climbing.proofs.Closed.{by_supers, new_closed, supers_in_layers}

take_all : {A : Type 0} (xs : List A) → take (length xs) xs ≡ xs
take_all [] = refl
take_all (x ∷ xs) = ap (λ ys. x ∷ ys) (take_all xs)

-- the first of several supertypes, and the rest
pub split : (items : List Supertype) (first : Supertype) → 1 ≤ length items → first ≡ get_or items 0 first → items ≡ first ∷ take (length items - 1) (drop 1 items)
split [] first h e = absurd (omega arith)
split (x ∷ xs) first h e =
    let m : length (x ∷ xs) - 1 ≡ length xs = omega arith in
    let b : take (length (x ∷ xs) - 1) xs ≡ xs = ap (λ n. take n xs) m ∙ take_all xs in
    ap (λ y. y ∷ xs) (sym e) ∙ ap (λ ys. first ∷ ys) (sym b)

pub first_ahead : (ls : List TypeForms) (items : List Supertype) (first : Supertype) (later rest : List Node) → 1 ≤ length items → first ≡ get_or items 0 first → rest ≡ map (in_layers ls) (take (length items - 1) (drop 1 items)) ++ later → map (in_layers ls) items ++ later ≡ in_layers ls first ∷ rest
first_ahead ls items first later rest h e same = ap (λ xs. map (in_layers ls) xs ++ later) (split items first h e) ∙ ap (λ ns. in_layers ls first ∷ ns) (sym same)

pub first_weight : (g : Graph) (items : List Supertype) (first : Supertype) (w v : ℕ) → 1 ≤ length items → first ≡ get_or items 0 first → v ≤ sum_of (weight g) (map (λ s. s.class) (take (length items - 1) (drop 1 items))) + w + 1 → 2 * (weight g first.class + v) < 2 * (sum_of (weight g) (map (λ s. s.class) items) + w + 1) + 1
first_weight g items first w v h e le =
    let same : sum_of (weight g) (map (λ s. s.class) items) ≡ weight g first.class + sum_of (weight g) (map (λ s. s.class) (take (length items - 1) (drop 1 items))) = ap (λ xs. sum_of (weight g) (map (λ s. s.class) xs)) (split items first h e) in
    omega arith

pub rest_weight : (x w : ℕ) → 2 * w + 1 < 2 * (x + w + 1) + 1
rest_weight x w = omega arith

pub met_weight : (g : Graph) (c w : ℕ) → HasNoCycle g → 2 * w + 1 < 2 * (weight g c + w)
met_weight g c w ends = let e = weighs g ends c in omega arith

rows_of : (o : Option HeaderForm) (r : Option (List ℕ)) → r ≡ option_map super_rows o → row_or_none r ≡ map (λ s. s.class) (supers_or_none o)
rows_of None r e = rw e refl
rows_of (Some c) r e = rw e refl

pub rows : (h : HierarchyForm) (c : ℕ) (items : List Supertype) → map super_form items ≡ supers_of h c → row_or_none (slice_get (class_graph h) c) ≡ map (λ s. s.class) items
rows h c items e = rows_of (slice_get h.classes c) (slice_get (class_graph h) c) (slice_get-map super_rows h.classes c) ∙ ap (map (λ s. s.class)) (sym e) ∙ forms items
  where
    forms : (items : List Supertype) → map (λ s. s.class) (map super_form items) ≡ map (λ s. s.class) items
    forms [] = refl
    forms (s ∷ items) = ap (λ cs. s.class ∷ cs) (forms items)

pub new_weight : (h : HierarchyForm) (c w : ℕ) (items : List Supertype) → HasNoCycle (class_graph h) → map super_form items ≡ supers_of h c → 2 * (sum_of (weight (class_graph h)) (map (λ s. s.class) items) + w + 1) + 1 < 2 * (weight (class_graph h) c + w)
new_weight h c w items ends e =
    let a : weight (class_graph h) c ≡ 2 + sum_of (weight (class_graph h)) (map (λ s. s.class) items) = weighs (class_graph h) ends c ∙ ap (λ cs. 2 + sum_of (weight (class_graph h)) cs) (rows h c items e) in
    omega arith

pub is_target : (h : HierarchyForm) (n t : Node) (rest : List Node) → n ≡ t → AnyClimbs h (n ∷ rest) t
is_target h n t rest e = inl (subst (λ x. ClimbsTo h n x) e here)

module _ (h : HierarchyForm) (d : ℕ) (wanted : TypeForms) (ls : List TypeForms) (first : Supertype) (arguments : List KtType) (same : arguments ≡ first.arguments) (items : List Supertype) (supers : map super_form items ≡ supers_of h first.class) where
  abbrev all : TypeForms
  all = forms_of (map type_form arguments)

  is_first : in_layers ls first ≡ node first.class (read_all ls all)
  is_first = ap (λ xs. node first.class (read_all ls (forms_of (map type_form xs)))) (sym same)

  onward : (rest : List Node) → map (above (read_all ls all)) (supers_of h first.class) ++ rest ≡ map (in_layers (all ∷ ls)) items ++ rest
  onward rest = ap (λ ns. ns ++ rest) (sym (supers_in_layers ls all items (supers_of h first.class) supers))

  pub new_is_closed : (behind rest : List Node) → (node first.class (read_all ls all) ≡ node d wanted → ⊥) → IsClosed h behind (in_layers ls first ∷ rest) (node d wanted) → IsClosed h (node first.class (read_all ls all) ∷ behind) (map (in_layers (all ∷ ls)) items ++ rest) (node d wanted)
  new_is_closed behind rest other closed =
      let before = subst (λ n. IsClosed h behind (n ∷ rest) (node d wanted)) is_first closed in
      subst (λ ns. IsClosed h (node first.class (read_all ls all) ∷ behind) ns (node d wanted)) (onward rest) (new_closed h d wanted (node first.class (read_all ls all)) behind rest other before)

  pub new_same : (r rest : List Node) → r ≡ map (in_layers (all ∷ ls)) items ++ rest → (node first.class (read_all ls all) ≡ node d wanted → ⊥) → AnyClimbs h (in_layers ls first ∷ rest) (node d wanted) ↔ AnyClimbs h r (node d wanted)
  new_same r rest e other =
      let step = by_supers h d wanted (node first.class (read_all ls all)) rest other in
      let there = subst (λ ns. AnyClimbs h (node first.class (read_all ls all) ∷ rest) (node d wanted) ↔ AnyClimbs h ns (node d wanted)) (onward rest ∙ sym e) step in
      subst (λ n. AnyClimbs h (n ∷ rest) (node d wanted) ↔ AnyClimbs h r (node d wanted)) (sym is_first) there

pub both_ways : {A B C : Type 0} → A ↔ B → C ↔ B → C ↔ A
both_ways f g = ((λ c. f.1 (g.0 c)), (λ a. g.1 (f.0 a)))

pub nothing_first : (ls : List TypeForms) (items : List Supertype) (later : List Node) → length items < 1 → map (in_layers ls) items ++ later ≡ later
nothing_first ls [] later h = refl
nothing_first ls (s ∷ items) later h = absurd (omega arith)

-- the first step: nothing else is ahead
module _ (h : HierarchyForm) (c : ℕ) (arguments : List KtType) (d : ℕ) (others : List KtType) where
  abbrev start : Node
  start = node c (forms_of (map type_form arguments))

  abbrev goal : Node
  goal = node d (forms_of (map type_form others))

  pub at_once : start ≡ goal → ClimbsTo h start goal
  at_once e = subst (λ x. ClimbsTo h start x) e here

  pub begun : (r : List Node) (items : List Supertype) → map super_form items ≡ supers_of h c → r ≡ map (in_layers (forms_of (map type_form arguments) ∷ [])) items ++ [] → (start ≡ goal → ⊥) → ClimbsTo h start goal ↔ AnyClimbs h r goal
  begun r items e f other =
      let step = by_supers h d (forms_of (map type_form others)) start [] other in
      let same : r ≡ map (above (forms_of (map type_form arguments))) (supers_of h c) ++ [] = f ∙ ap (λ ns. ns ++ []) (supers_in_layers [] (forms_of (map type_form arguments)) items (supers_of h c) e) in
      let there = subst (λ ns. AnyClimbs h (start ∷ []) goal ↔ AnyClimbs h ns goal) (sym same) step in
      ((λ x. there.0 (inl x)), (λ a. elim (there.1 a) [ inl x ↦ x | inr n ↦ absurd n ]))
