-- The descriptors that are found are those of the rules.
use Rattle.std.specs.Prelude.{ℕ, zero, suc, List, [], ◌∷◌, ◌++◌, ◌≡◌, Option, Some, None, option_map, length, map, find, slice_get, refl}
use Rattle.std.specs.List.{flat_map}
use Rattle.std.proofs.Common.{ap, sym, ◌∙◌}
use Rattle.std.proofs.lemmas.List.{map-append}
use Rattle.kt_tree.specs.Declarations.{DeclarationTree, FunctionTree}
use Rattle.kt_types_tree.specs.Hierarchy.{SuperForm, HierarchyForm}
use Rattle.kt_decls_hierarchy.specs.Drafts.{Classes}
use Rattle.kt_decls_rules.specs.Tables as tables
use Rattle.kt_decls_rules.specs.Tables.{Placed, Row, rows, supers_at, hierarchy_of, class_named, scope_of, is_function}
use Rattle.kt_decls_rules.specs.Erasure.{Descriptor}
use Rattle.kt_decls_rules.specs.Members as rules
use Rattle.kt_decls_rules.specs.Members.{Member, inherited, inherited_within, members_at, members_of_any, members_of_placed, seen_from, first_descriptor, functions_of, signature_of, declared_or}
use Rattle.kt_decls_inherited.specs.Sights.{own_sight, places}
use Rattle.kt_decls_inherited.specs.Rows.{placed_seen, row_seen, row_sight}
use Rattle.kt_decls_inherited.proofs.AsRuled.{same_supers, same_row, map_flat}
use Rattle.kt_decls_inherited.specs.Descriptors.{descriptor_in, first_or, of_any, one_or, descriptors_up, all_up}

module _ (ds : List DeclarationTree) (x : List ℕ) (n : ℕ) where
  first_same : (ms : List Member) (own : Option Descriptor) → first_descriptor ms own ≡ first_or (map descriptor_in ms) own
  first_same [] own = refl
  first_same (m ∷ ms) own = refl

  declared_same : (p : Placed) (above : List Member) (o : Option FunctionTree) → map descriptor_in (declared_or ds p above (above ++ members_of_any x n) o) ≡ one_or (hierarchy_of ds).bounds (of_any x n) (option_map (own_sight ds p) o) (map descriptor_in above)
  declared_same p above None = refl
  declared_same p above (Some f) =
      let own : Option Descriptor = option_map (rules.own_descriptor ds f) (signature_of ds (scope_of p.before p.declaration) f) in
      ap (λ (d : Option Descriptor). d ∷ [])
      (first_same (above ++ members_of_any x n) own
      ∙ ap (λ (all : List (Option Descriptor)). first_or all own) (map-append descriptor_in above (members_of_any x n)))

  placed_same : (above : List Member) (o : Option Placed) → map descriptor_in (members_of_placed ds x n above o) ≡ one_or (hierarchy_of ds).bounds (of_any x n) (placed_seen ds x n o) (map descriptor_in above)
  placed_same above None = refl
  placed_same above (Some p) = declared_same p above (find (is_function x n) (functions_of p.declaration))

  at_same : (above : List Member) (o : Option Row) → (o ≡ None → above ≡ []) → map descriptor_in (members_at ds x n above o) ≡ one_or (hierarchy_of ds).bounds (of_any x n) (row_seen ds x n o) (map descriptor_in above)
  at_same above None none = ap (map descriptor_in) (sym (none refl))
  at_same above (Some r) none = placed_same above r.declaration

  nothing_above : (k row : ℕ) → slice_get (rows ds) row ≡ None → inherited_within ds (rows ds) x n k row ≡ []
  unfolding inherited_within
  nothing_above zero row e = refl
  nothing_above (suc k) row e = ap (λ o. flat_map (λ s. map (seen_from s) (members_at ds x n (inherited_within ds (rows ds) x n k s.class) (slice_get (rows ds) s.class))) (tables.supers_or_none o)) e

  seen_same : (s : SuperForm) (ms : List Member) → map descriptor_in (map (seen_from s) ms) ≡ map descriptor_in ms
  seen_same s [] = refl
  seen_same s (m ∷ ms) = ap (λ (rest : List (Option Descriptor)). m.descriptor ∷ rest) (seen_same s ms)

  ways_same : (k : ℕ) → ((row : ℕ) → map descriptor_in (inherited_within ds (rows ds) x n k row) ≡ descriptors_up (class_named ds) (hierarchy_of ds) ds (places ds) x n k row) → (ss : List SuperForm) → flat_map (λ s. map descriptor_in (map (seen_from s) (members_at ds x n (inherited_within ds (rows ds) x n k s.class) (slice_get (rows ds) s.class)))) ss ≡ all_up (class_named ds) (hierarchy_of ds) ds (places ds) x n k ss
  ways_same k same [] = refl
  ways_same k same (s ∷ ss) =
      λ i.
      (seen_same s (members_at ds x n (inherited_within ds (rows ds) x n k s.class) (slice_get (rows ds) s.class))
      ∙ (at_same (inherited_within ds (rows ds) x n k s.class) (slice_get (rows ds) s.class) (nothing_above k s.class)
      ∙ (λ j. one_or (hierarchy_of ds).bounds (of_any x n) (sym (same_row ds x n s.class) j) (same s.class j)))) i
      ++ ways_same k same ss i

  within_same : (k row : ℕ) → map descriptor_in (inherited_within ds (rows ds) x n k row) ≡ descriptors_up (class_named ds) (hierarchy_of ds) ds (places ds) x n k row
  unfolding inherited_within descriptors_up
  within_same zero row = refl
  within_same (suc k) row =
      map_flat ds x n descriptor_in (λ s. map (seen_from s) (members_at ds x n (inherited_within ds (rows ds) x n k s.class) (slice_get (rows ds) s.class))) (supers_at (rows ds) row)
      ∙ (ways_same k (within_same k) (supers_at (rows ds) row)
      ∙ ap (all_up (class_named ds) (hierarchy_of ds) ds (places ds) x n k) (sym (same_supers ds row)))

  -- what is found by the facts is what the rules say
  pub known_so : (classes : Classes) (h : HierarchyForm) (ps : List ℕ) (k row : ℕ) → ((y : List ℕ) → classes y ≡ class_named ds y) → h ≡ hierarchy_of ds → ps ≡ places ds → k ≡ length (rows ds) → descriptors_up classes h ds ps x n k row ≡ map descriptor_in (inherited ds x n row)
  known_so classes h ps k row names tree ends steps =
      (λ i. descriptors_up (λ y. names y i) (tree i) ds (ends i) x n (steps i) row) ∙ sym (within_same (length (rows ds)) row)
