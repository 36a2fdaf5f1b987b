-- The properties that are found are those of the rules.
use Rattle.std.specs.Prelude.{ℕ, zero, suc, List, [], ◌∷◌, ◌++◌, ◌+◌, ◌≡◌, Option, Some, None, codes, length, map, slice_get, refl}
use Rattle.std.specs.List.{flat_map}
use Rattle.std.proofs.Common.{ap, sym, ◌∙◌, subst, append_assoc, length-append}
use Rattle.kt_tree.specs.Declarations.{DeclarationTree, function, class, interface, enum, constant}
use Rattle.kt_types_tree.specs.Hierarchy.{SuperForm, HierarchyForm}
use Rattle.kt_types_builtins.specs.declared.throwables.BuiltInThrowable.{BuiltInThrowable}
use Rattle.kt_types_builtins.specs.Throwables.{throwables}
use Rattle.kt_decls_rules.specs.Tables.{Row, rows, rows_of, placed, placed_from, class_row, throwable_row, supers_at, hierarchy_of}
use Rattle.kt_decls_rules.specs.Members.{properties_at, properties_of, properties_within, inherited_properties}
use Rattle.kt_decls_inherited.specs.Sights.{places, places_from, behind_all}
use Rattle.kt_decls_inherited.proofs.AsRuled.{same_supers}
use Rattle.kt_decls_inherited.specs.Properties.{at_place, declared_or_message, row_properties, properties_up, all_up}

module _ (ds : List DeclarationTree) where
  past : (xs : List DeclarationTree) → slice_get xs (length xs) ≡ None
  past [] = refl
  past (x ∷ xs) = past xs

  stands : (xs ys : List DeclarationTree) (d : DeclarationTree) → slice_get (xs ++ d ∷ ys) (length xs) ≡ Some d
  stands [] ys d = refl
  stands (x ∷ xs) ys d = stands xs ys d

  -- what stands at a place of two lists
  At : List Row → List ℕ → ℕ → Type 0
  At rs ps row = at_place ds (slice_get ps row) ≡ properties_at (slice_get rs row)

  none_at : (row : ℕ) → At [] [] row
  unfolding At
  none_at row = refl

  one_at : (before rest : List DeclarationTree) (d : DeclarationTree) (rs : List Row) (ps : List ℕ) → ds ≡ before ++ d ∷ rest → ((row : ℕ) → At rs ps row) → (row : ℕ) → At (class_row ds (record { before = before; declaration = d }) ∷ rs) (length before ∷ ps) row
  unfolding At
  one_at before rest d rs ps whole later zero =
      ap declared_or_message (ap (λ (xs : List DeclarationTree). slice_get xs (length before)) whole ∙ stands before rest d)
  one_at before rest d rs ps whole later (suc row) = later row

  next_whole : (before rest : List DeclarationTree) (d : DeclarationTree) → ds ≡ before ++ d ∷ rest → ds ≡ (before ++ d ∷ []) ++ rest
  next_whole before rest d whole = whole ∙ sym (append_assoc before (d ∷ []) rest)

  moved : (before rest : List DeclarationTree) (d : DeclarationTree) → ((row : ℕ) → At (rows_of ds (placed_from (before ++ d ∷ []) rest)) (places_from (length (before ++ d ∷ [])) rest) row) → (row : ℕ) → At (rows_of ds (placed_from (before ++ d ∷ []) rest)) (places_from (length before + 1) rest) row
  moved before rest d later row = subst (λ (k : ℕ). At (rows_of ds (placed_from (before ++ d ∷ []) rest)) (places_from k rest) row) (length-append before (d ∷ [])) (later row)

  file_at : (before rest : List DeclarationTree) → ds ≡ before ++ rest → (row : ℕ) → At (rows_of ds (placed_from before rest)) (places_from (length before) rest) row
  file_at before [] whole row = none_at row
  file_at before (function f ∷ rest) whole row = moved before rest (function f) (file_at (before ++ function f ∷ []) rest (next_whole before rest (function f) whole)) row
  file_at before (constant c ∷ rest) whole row = moved before rest (constant c) (file_at (before ++ constant c ∷ []) rest (next_whole before rest (constant c) whole)) row
  file_at before (class c ∷ rest) whole row = one_at before rest (class c) (rows_of ds (placed_from (before ++ class c ∷ []) rest)) (places_from (length before + 1) rest) whole (moved before rest (class c) (file_at (before ++ class c ∷ []) rest (next_whole before rest (class c) whole))) row
  file_at before (interface c ∷ rest) whole row = one_at before rest (interface c) (rows_of ds (placed_from (before ++ interface c ∷ []) rest)) (places_from (length before + 1) rest) whole (moved before rest (interface c) (file_at (before ++ interface c ∷ []) rest (next_whole before rest (interface c) whole))) row
  file_at before (enum c ∷ rest) whole row = one_at before rest (enum c) (rows_of ds (placed_from (before ++ enum c ∷ []) rest)) (places_from (length before + 1) rest) whole (moved before rest (enum c) (file_at (before ++ enum c ∷ []) rest (next_whole before rest (enum c) whole))) row

  throwable_at : (ts : List BuiltInThrowable) (rs : List Row) (ps : List ℕ) → ((row : ℕ) → At rs ps row) → (row : ℕ) → At (map throwable_row ts ++ rs) (map (behind_all (length ds)) ts ++ ps) row
  unfolding behind_all At
  throwable_at [] rs ps later row = later row
  throwable_at (t ∷ ts) rs ps later zero = ap declared_or_message (past ds)
  throwable_at (t ∷ ts) rs ps later (suc row) = throwable_at ts rs ps later row

  all_at : (row : ℕ) → At (rows ds) (places ds) row
  all_at row = throwable_at throwables (rows_of ds (placed ds)) (places_from 0 ds) (file_at [] ds refl) row

  same_row : (row : ℕ) → row_properties ds (places ds) row ≡ properties_at (slice_get (rows ds) row)
  unfolding At
  same_row row = all_at row

  same_ways : (k : ℕ) → ((row : ℕ) → properties_up (hierarchy_of ds) ds (places ds) k row ≡ properties_within (rows ds) k row) → (ss : List SuperForm) → all_up (hierarchy_of ds) ds (places ds) k ss ≡ flat_map (λ s. properties_at (slice_get (rows ds) s.class) ++ properties_within (rows ds) k s.class) ss
  same_ways k same [] = refl
  same_ways k same (s ∷ ss) = λ i. (same_row s.class i ++ same s.class i) ++ same_ways k same ss i

  same_up : (k row : ℕ) → properties_up (hierarchy_of ds) ds (places ds) k row ≡ properties_within (rows ds) k row
  unfolding properties_up properties_within
  same_up zero row = refl
  same_up (suc k) row =
      ap (all_up (hierarchy_of ds) ds (places ds) k) (same_supers ds row) ∙ same_ways k (same_up k) (supers_at (rows ds) row)

  pub known_so : (h : HierarchyForm) (ps : List ℕ) (k row : ℕ) → h ≡ hierarchy_of ds → ps ≡ places ds → k ≡ length (rows ds) → properties_up h ds ps k row ≡ inherited_properties ds row
  known_so h ps k row tree ends steps =
      (λ i. properties_up (tree i) ds (ends i) (steps i) row) ∙ same_up (length (rows ds)) row
