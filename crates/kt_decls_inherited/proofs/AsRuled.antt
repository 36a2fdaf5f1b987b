-- What is seen from a class by what is known of the file is what the rules say that it has from above.
use Rattle.std.specs.Prelude.{ℕ, zero, suc, Bool, true, false, List, [], ◌∷◌, ◌++◌, ◌+◌, ◌≡◌, Option, Some, None, option_map, length, map, find, slice_get, refl}
use Rattle.std.specs.List.{flat_map}
use Rattle.std.proofs.Common.{arith, ap, sym, ◌∙◌, subst, append_assoc, length-append}
use Rattle.kt_tree.specs.Types.{TypeTree}
use Rattle.kt_tree.specs.Declarations.{DeclarationTree, function, class, interface, enum, constant, FunctionTree}
use Rattle.kt_types_tree.specs.Hierarchy.{SuperForm, HeaderForm, HierarchyForm, supers_of, supers_or_none}
use Rattle.kt_typed.specs.declared.headers.DeclaredTypeParameter.{DeclaredTypeParameter}
use Rattle.kt_types_builtins.specs.declared.throwables.BuiltInThrowable.{BuiltInThrowable}
use Rattle.kt_types_builtins.specs.Throwables.{throwables}
use Rattle.kt_decls_types.specs.References.{then_on}
use Rattle.kt_decls_hierarchy.specs.Drafts.{Classes}
use Rattle.kt_decls_rules.specs.Tables as tables
use Rattle.kt_decls_rules.specs.Tables.{Placed, Row, rows, rows_of, placed, placed_from, class_row, throwable_row, supers_at, row_headers, hierarchy_of, class_named, scope_of, row_count, meant, first_bound_of, is_function}
use Rattle.kt_decls_rules.specs.Members as rules
use Rattle.kt_decls_rules.specs.Members.{Member, inherited, inherited_within, members_at, seen_from, functions_of}
use Rattle.kt_decls_inherited.specs.Known as known
use Rattle.kt_decls_inherited.specs.Sights.{SightForm, sight_of, seen, own_sight, own_or, sights_at, sights_within, sights, places, places_from, behind_all}
use Rattle.kt_decls_inherited.specs.Rows.{own_in, declared_in, first_or_none, first_in, declaration_in, sight_if, row_sight, one_or, sights_up, all_up, placed_seen, row_seen}

module _ (ds : List DeclarationTree) where
  same_all : (scope : List DeclaredTypeParameter) (ts : List TypeTree) → known.all_meant (class_named ds) scope ts ≡ rules.all_meant ds scope ts
  same_all scope [] = refl
  same_all scope (t ∷ ts) = λ i. then_on (meant ds scope t) (λ u. then_on (same_all scope ts i) (λ us. Some (u ∷ us)))

  same_result : (scope : List DeclaredTypeParameter) (o : Option TypeTree) → known.result_meant (class_named ds) scope o ≡ rules.result_meant ds scope o
  same_result scope None = refl
  same_result scope (Some t) = refl

  pub same_signature : (scope : List DeclaredTypeParameter) (f : FunctionTree) → known.signature_of (class_named ds) scope f ≡ rules.signature_of ds scope f
  same_signature scope f = λ i. known.both (same_all scope (map (λ p. p.annotation) f.parameters) i) (same_result scope f.result i)

  first_of_row : Option Row → ℕ
  first_of_row None = 0
  first_of_row (Some r) = first_bound_of r.declaration

  header_first : (all : List Row) (k row : ℕ) (rs : List Row) → first_or_none (slice_get (row_headers all k rs) row) ≡ first_of_row (slice_get rs row)
  unfolding first_of_row
  header_first all k row [] = refl
  header_first all k zero (r ∷ rs) = refl
  header_first all k (suc row) (r ∷ rs) = header_first all (k + 1) row rs

  header_supers : (all : List Row) (k row : ℕ) (rs : List Row) → supers_or_none (slice_get (row_headers all k rs) row) ≡ tables.supers_or_none (slice_get rs row)
  header_supers all k row [] = refl
  header_supers all k zero (r ∷ rs) = refl
  header_supers all k (suc row) (r ∷ rs) = header_supers all (k + 1) row rs

  pub same_supers : (row : ℕ) → supers_of (hierarchy_of ds) row ≡ supers_at (rows ds) row
  same_supers row = header_supers (rows ds) 0 row (rows ds)

  past : (xs : List DeclarationTree) → slice_get xs (length xs) ≡ None
  past [] = refl
  past (x ∷ xs) = past xs

  stands : (xs ys : List DeclarationTree) (d : DeclarationTree) → slice_get (xs ++ d ∷ ys) (length xs) ≡ Some d
  stands [] ys d = refl
  stands (x ∷ xs) ys d = stands xs ys d

  module _ (x : List ℕ) (n : ℕ) where
    -- what is seen of the row at a place of two lists
    At : List Row → List ℕ → ℕ → Type 0
    At rs ps row = sight_if (class_named ds) (first_of_row (slice_get rs row)) x n (then_on (slice_get ps row) (slice_get ds)) ≡ row_seen ds x n (slice_get rs row)

    same_own : (before : List DeclarationTree) (d : DeclarationTree) (o : Option FunctionTree) → option_map (own_in (class_named ds) (row_count before) d) o ≡ option_map (own_sight ds (record { before = before; declaration = d })) o
    same_own before d None = refl
    same_own before d (Some f) = λ i. Some (record (own_in (class_named ds) (row_count before) d f) { signature = same_signature (scope_of before d) f i })

    none_at : (row : ℕ) → At [] [] row
    unfolding At first_of_row
    none_at row = refl

    one_at : (before rest : List DeclarationTree) (d : DeclarationTree) (rs : List Row) (ps : List ℕ) → ds ≡ before ++ d ∷ rest → ((row : ℕ) → At rs ps row) → (row : ℕ) → At (class_row ds (record { before = before; declaration = d }) ∷ rs) (length before ∷ ps) row
    unfolding At first_of_row
    one_at before rest d rs ps whole later zero =
        ap (sight_if (class_named ds) (row_count before) x n) (ap (λ xs. slice_get xs (length before)) whole ∙ stands before rest d)
        ∙ same_own before d (find (is_function x n) (functions_of d))
    one_at before rest d rs ps whole later (suc row) = later row

    next_whole : (before rest : List DeclarationTree) (d : DeclarationTree) → ds ≡ before ++ d ∷ rest → ds ≡ (before ++ d ∷ []) ++ rest
    next_whole before rest d whole = whole ∙ sym (append_assoc before (d ∷ []) rest)

    next_place : (before : List DeclarationTree) (d : DeclarationTree) → length (before ++ d ∷ []) ≡ length before + 1
    next_place before d = length-append before (d ∷ [])

    moved : (before rest : List DeclarationTree) (d : DeclarationTree) → ((row : ℕ) → At (rows_of ds (placed_from (before ++ d ∷ []) rest)) (places_from (length (before ++ d ∷ [])) rest) row) → (row : ℕ) → At (rows_of ds (placed_from (before ++ d ∷ []) rest)) (places_from (length before + 1) rest) row
    moved before rest d later row = subst (λ (k : ℕ). At (rows_of ds (placed_from (before ++ d ∷ []) rest)) (places_from k rest) row) (next_place before d) (later row)

    file_at : (before rest : List DeclarationTree) → ds ≡ before ++ rest → (row : ℕ) → At (rows_of ds (placed_from before rest)) (places_from (length before) rest) row
    file_at before [] whole row = none_at row
    file_at before (function f ∷ rest) whole row = moved before rest (function f) (file_at (before ++ function f ∷ []) rest (next_whole before rest (function f) whole)) row
    file_at before (constant c ∷ rest) whole row = moved before rest (constant c) (file_at (before ++ constant c ∷ []) rest (next_whole before rest (constant c) whole)) row
    file_at before (class c ∷ rest) whole row = one_at before rest (class c) (rows_of ds (placed_from (before ++ class c ∷ []) rest)) (places_from (length before + 1) rest) whole (moved before rest (class c) (file_at (before ++ class c ∷ []) rest (next_whole before rest (class c) whole))) row
    file_at before (interface c ∷ rest) whole row = one_at before rest (interface c) (rows_of ds (placed_from (before ++ interface c ∷ []) rest)) (places_from (length before + 1) rest) whole (moved before rest (interface c) (file_at (before ++ interface c ∷ []) rest (next_whole before rest (interface c) whole))) row
    file_at before (enum c ∷ rest) whole row = one_at before rest (enum c) (rows_of ds (placed_from (before ++ enum c ∷ []) rest)) (places_from (length before + 1) rest) whole (moved before rest (enum c) (file_at (before ++ enum c ∷ []) rest (next_whole before rest (enum c) whole))) row

    throwable_at : (ts : List BuiltInThrowable) (rs : List Row) (ps : List ℕ) → ((row : ℕ) → At rs ps row) → (row : ℕ) → At (map throwable_row ts ++ rs) (map (behind_all (length ds)) ts ++ ps) row
    unfolding behind_all At first_of_row
    throwable_at [] rs ps later row = later row
    throwable_at (t ∷ ts) rs ps later zero = ap (sight_if (class_named ds) 0 x n) (past ds)
    throwable_at (t ∷ ts) rs ps later (suc row) = throwable_at ts rs ps later row

    all_at : (row : ℕ) → At (rows ds) (places ds) row
    all_at row = throwable_at throwables (rows_of ds (placed ds)) (places_from 0 ds) (file_at [] ds refl) row

    pub same_row : (row : ℕ) → row_sight (class_named ds) (hierarchy_of ds) ds (places ds) x n row ≡ row_seen ds x n (slice_get (rows ds) row)
    unfolding At
    same_row row =
        ap (λ first. sight_if (class_named ds) first x n (declaration_in ds (places ds) row)) (header_first (rows ds) 0 row (rows ds)) ∙ all_at row

    own_same : (p : Placed) (above : List SightForm) (o : Option FunctionTree) → one_or (option_map (own_sight ds p) o) above ≡ own_or ds p above o
    own_same p above None = refl
    own_same p above (Some f) = refl

    or_above : (above : List SightForm) (o : Option Row) → (o ≡ None → above ≡ []) → one_or (row_seen ds x n o) above ≡ sights_at ds x n above o
    or_above above None none = none refl
    or_above above (Some r) none = by_placed r.declaration
      where
        by_placed : (o : Option Placed) → one_or (placed_seen ds x n o) above ≡ sights_at ds x n above (Some (record { declaration = o; supertypes = [] }))
        by_placed None = refl
        by_placed (Some p) = own_same p above (find (is_function x n) (functions_of p.declaration))

    nothing_above : (k row : ℕ) → slice_get (rows ds) row ≡ None → sights_within ds (rows ds) x n k row ≡ []
    unfolding sights_within
    nothing_above zero row e = refl
    nothing_above (suc k) row e = ap (λ o. flat_map (λ s. map (seen s) (sights_at ds x n (sights_within ds (rows ds) x n k s.class) (slice_get (rows ds) s.class))) (tables.supers_or_none o)) e

    same_ways : (k : ℕ) → ((row : ℕ) → sights_up (class_named ds) (hierarchy_of ds) ds (places ds) x n k row ≡ sights_within ds (rows ds) x n k row) → (ss : List SuperForm) → all_up (class_named ds) (hierarchy_of ds) ds (places ds) x n k ss ≡ flat_map (λ s. map (seen s) (sights_at ds x n (sights_within ds (rows ds) x n k s.class) (slice_get (rows ds) s.class))) ss
    same_ways k same [] = refl
    same_ways k same (s ∷ ss) =
        λ i. map (seen s) (((λ j. one_or (same_row s.class j) (same s.class j)) ∙ or_above (sights_within ds (rows ds) x n k s.class) (slice_get (rows ds) s.class) (nothing_above k s.class)) i) ++ same_ways k same ss i

    same_up : (k row : ℕ) → sights_up (class_named ds) (hierarchy_of ds) ds (places ds) x n k row ≡ sights_within ds (rows ds) x n k row
    unfolding sights_up sights_within
    same_up zero row = refl
    same_up (suc k) row =
        ap (all_up (class_named ds) (hierarchy_of ds) ds (places ds) x n k) (same_supers row) ∙ same_ways k (same_up k) (supers_at (rows ds) row)

    pub map_flat : {A B C : Type 0} (f : B → C) (g : A → List B) (xs : List A) → map f (flat_map g xs) ≡ flat_map (λ a. map f (g a)) xs
    map_flat f g [] = refl
    map_flat f g (a ∷ xs) = map_append f (g a) (flat_map g xs) ∙ ap (λ ys. map f (g a) ++ ys) (map_flat f g xs)
      where
        map_append : {B C : Type 0} (f : B → C) (xs ys : List B) → map f (xs ++ ys) ≡ map f xs ++ map f ys
        map_append f [] ys = refl
        map_append f (b ∷ xs) ys = ap (λ zs. f b ∷ zs) (map_append f xs ys)

    seen_so : (s : SuperForm) (ms : List Member) → map sight_of (map (seen_from s) ms) ≡ map (seen s) (map sight_of ms)
    seen_so s [] = refl
    seen_so s (m ∷ ms) = ap (λ rest. seen s (sight_of m) ∷ rest) (seen_so s ms)

    found_so : (p : Placed) (above any_above : List Member) (o : Option FunctionTree) → map sight_of (rules.declared_or ds p above any_above o) ≡ own_or ds p (map sight_of above) o
    found_so p above any_above None = refl
    found_so p above any_above (Some f) = refl

    placed_so : (above : List Member) (o : Option Placed) (ss : List SuperForm) → map sight_of (rules.members_of_placed ds x n above o) ≡ sights_at ds x n (map sight_of above) (Some (record { declaration = o; supertypes = ss }))
    placed_so above None ss = refl
    placed_so above (Some p) ss = found_so p above (above ++ rules.members_of_any x n) (find (is_function x n) (functions_of p.declaration))

    at_so : (above : List Member) (o : Option Row) → map sight_of (members_at ds x n above o) ≡ sights_at ds x n (map sight_of above) o
    at_so above None = refl
    at_so above (Some r) = placed_so above r.declaration r.supertypes

    ways_so : (k : ℕ) → ((row : ℕ) → map sight_of (inherited_within ds (rows ds) x n k row) ≡ sights_within ds (rows ds) x n k row) → (ss : List SuperForm) → flat_map (λ s. map sight_of (map (seen_from s) (members_at ds x n (inherited_within ds (rows ds) x n k s.class) (slice_get (rows ds) s.class)))) ss ≡ flat_map (λ s. map (seen s) (sights_at ds x n (sights_within ds (rows ds) x n k s.class) (slice_get (rows ds) s.class))) ss
    ways_so k same [] = refl
    ways_so k same (s ∷ ss) =
        λ i. (seen_so s (members_at ds x n (inherited_within ds (rows ds) x n k s.class) (slice_get (rows ds) s.class))
        ∙ ap (map (seen s)) (at_so (inherited_within ds (rows ds) x n k s.class) (slice_get (rows ds) s.class) ∙ ap (λ above. sights_at ds x n above (slice_get (rows ds) s.class)) (same s.class))) i
        ++ ways_so k same ss i

    within_so : (k row : ℕ) → map sight_of (inherited_within ds (rows ds) x n k row) ≡ sights_within ds (rows ds) x n k row
    unfolding inherited_within sights_within
    within_so zero row = refl
    within_so (suc k) row =
        map_flat sight_of (λ s. map (seen_from s) (members_at ds x n (inherited_within ds (rows ds) x n k s.class) (slice_get (rows ds) s.class))) (supers_at (rows ds) row)
        ∙ ways_so k (within_so k) (supers_at (rows ds) row)

    -- what is seen is what the rules say
    pub as_ruled : (row : ℕ) → sights ds x n row ≡ map sight_of (inherited ds x n row)
    as_ruled row = sym (within_so (length (rows ds)) row)

    pub known_so : (classes : Classes) (h : HierarchyForm) (ps : List ℕ) (k row : ℕ) → ((y : List ℕ) → classes y ≡ class_named ds y) → h ≡ hierarchy_of ds → ps ≡ places ds → k ≡ length (rows ds) → sights_up classes h ds ps x n k row ≡ sights ds x n row
    known_so classes h ps k row names tree ends steps =
        (λ i. sights_up (λ y. names y i) (tree i) ds (ends i) x n (steps i) row) ∙ same_up (length (rows ds)) row

  headers_long : (all : List Row) (k : ℕ) (rs : List Row) → length (row_headers all k rs) ≡ length rs
  headers_long all k [] = refl
  headers_long all k (r ∷ rs) = ap suc (headers_long all (k + 1) rs)

  pub rows_long : length (hierarchy_of ds).classes ≡ length (rows ds)
  rows_long = headers_long (rows ds) 0 (rows ds)
