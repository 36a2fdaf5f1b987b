-- The rows that are made one behind the other are the hierarchy of the file.
use Rattle.std.specs.Prelude.{ℕ, zero, suc, Bool, List, [], ◌∷◌, ◌++◌, ◌+◌, ◌||◌, ◌≡◌, Option, Some, None, length, map, codes, slice_get, refl}
use Rattle.std.specs.List.{flat_map, list_any, filter_map}
use Rattle.std.proofs.Common.{ap, sym, ◌∙◌, append-nil, length-append}
use Rattle.std.proofs.lemmas.Grind.{flat_map-append}
use Rattle.kt_tree.specs.Types.{TypeTree}
use Rattle.kt_tree.specs.Declarations.{DeclarationTree, function, class, interface, enum, constant}
use Rattle.kt_types.specs.Kinds.{flag}
use Rattle.kt_types_tree.specs.declared.types.TypeConstructor.TheVariants as constructor
use Rattle.kt_types_tree.specs.Types.{TypeForm, typed, nothing, any, parameter, of}
use Rattle.kt_types_tree.specs.Hierarchy.{SuperForm, HeaderForm, HierarchyForm}
use Rattle.kt_types_order.specs.Graph.{Graph, row_or_none, super_rows}
use Rattle.kt_typed.specs.declared.headers.DeclaredTypeParameter.{DeclaredTypeParameter}
use Rattle.kt_types_builtins.specs.declared.throwables.BuiltInThrowable.{BuiltInThrowable}
use Rattle.kt_types_builtins.specs.Throwables.{throwables}
use Rattle.kt_decls_rules.specs.Tables.{Row, class_named, type_parameters_of, row_count, scope_of, meant, bound_form, super_meant, supers_meant, supertypes_of, placed, placed_from, rows, rows_of, class_row, throwable_row, supers_at, row_declares, placed_declares, has_within, has_function, kind_of_placed, parameters_of_placed, first_bound_of, row_headers, bounds_of_placed, hierarchy_of}
use Rattle.kt_decls_hierarchy.specs.Drafts.{Classes, bound_in, bounds_in, super_of_type, supers_in, class_draft, drafts_from, bounds_from, throwable_draft, draft}
use Rattle.kt_decls_hierarchy.specs.Marks.{marked_within, marked, with_flags, completed_from, completed}

more_rows : (before : List DeclarationTree) (d : DeclarationTree) → row_count (before ++ d ∷ []) ≡ row_count before + length (type_parameters_of d)
more_rows before d =
    ap length (flat_map-append type_parameters_of before (d ∷ []) ∙ ap (λ ps. flat_map type_parameters_of before ++ ps) (append-nil (type_parameters_of d)))
    ∙ length-append (flat_map type_parameters_of before) (type_parameters_of d)

pub same_super : (o : Option TypeForm) → super_meant o ≡ super_of_type o
same_super None = refl
same_super (Some (typed n nothing)) = refl
same_super (Some (typed n any)) = refl
same_super (Some (typed n (parameter row place))) = refl
same_super (Some (typed n (of (constructor.Class row) ts))) = refl
same_super (Some (typed n (of constructor.Int ts))) = refl
same_super (Some (typed n (of constructor.Long ts))) = refl
same_super (Some (typed n (of constructor.Boolean ts))) = refl
same_super (Some (typed n (of constructor.Char ts))) = refl
same_super (Some (typed n (of constructor.String ts))) = refl
same_super (Some (typed n (of constructor.Unit ts))) = refl
same_super (Some (typed n (of constructor.IntArray ts))) = refl
same_super (Some (typed n (of constructor.Array ts))) = refl
same_super (Some (typed n (of constructor.Continuation ts))) = refl
same_super (Some (typed n (of (constructor.Function suspends) ts))) = refl

same_bound : (ds : List DeclarationTree) (scope : List DeclaredTypeParameter) (o : Option TypeTree) → bound_form ds scope o ≡ bound_in (class_named ds) scope o
same_bound ds scope None = refl
same_bound ds scope (Some t) = refl

-- the row with its own functions alone
row_draft : Row → HeaderForm
row_draft r =
    record {
      kind = kind_of_placed r.declaration;
      parameters = parameters_of_placed r.declaration;
      first_bound = first_bound_of r.declaration;
      supertypes = r.supertypes;
      has_to_string = placed_declares (codes "toString") 0 r.declaration;
      has_equals = placed_declares (codes "equals") 1 r.declaration;
    }

throwable_rows : (ts : List BuiltInThrowable) (rs : List Row) → map row_draft (map throwable_row ts ++ rs) ≡ map throwable_draft ts ++ map row_draft rs
unfolding row_draft
throwable_rows [] rs = refl
throwable_rows (t ∷ ts) rs = ap (λ hs. throwable_draft t ∷ hs) (throwable_rows ts rs)

module _ (ds : List DeclarationTree) where
  same_supers : (before : List DeclarationTree) (d : DeclarationTree) → supers_meant ds before d ≡ supers_in (class_named ds) (scope_of before d) (supertypes_of d)
  same_supers before d = λ i. filter_map (λ t. same_super (meant ds (scope_of before d) t) i) (supertypes_of d)

  one_row : (before : List DeclarationTree) (d : DeclarationTree) → row_draft (class_row ds (record { before = before; declaration = d })) ≡ class_draft (class_named ds) (row_count before) d
  unfolding row_draft
  one_row before d = λ i. record (class_draft (class_named ds) (row_count before) d) { supertypes = same_supers before d i }

  further : (before rest : List DeclarationTree) (d : DeclarationTree) → drafts_from (class_named ds) (row_count (before ++ d ∷ [])) rest ≡ drafts_from (class_named ds) (row_count before + length (type_parameters_of d)) rest
  further before rest d = ap (λ first. drafts_from (class_named ds) first rest) (more_rows before d)

  file_rows : (before rest : List DeclarationTree) → map row_draft (rows_of ds (placed_from before rest)) ≡ drafts_from (class_named ds) (row_count before) rest
  file_rows before [] = refl
  file_rows before (function f ∷ rest) = file_rows (before ++ function f ∷ []) rest ∙ further before rest (function f)
  file_rows before (constant c ∷ rest) = file_rows (before ++ constant c ∷ []) rest ∙ further before rest (constant c)
  file_rows before (class c ∷ rest) = λ i. one_row before (class c) i ∷ (file_rows (before ++ class c ∷ []) rest ∙ further before rest (class c)) i
  file_rows before (interface c ∷ rest) = λ i. one_row before (interface c) i ∷ (file_rows (before ++ interface c ∷ []) rest ∙ further before rest (interface c)) i
  file_rows before (enum c ∷ rest) = λ i. one_row before (enum c) i ∷ (file_rows (before ++ enum c ∷ []) rest ∙ further before rest (enum c)) i

  all_rows : map row_draft (rows ds) ≡ (draft (class_named ds) ds).classes
  all_rows = throwable_rows throwables (rows_of ds (placed ds)) ∙ ap (λ hs. map throwable_draft throwables ++ hs) (file_rows [] ds)

  own_bounds : (before : List DeclarationTree) (d : DeclarationTree) → bounds_of_placed ds (record { before = before; declaration = d }) ≡ bounds_in (class_named ds) (scope_of before d) (type_parameters_of d)
  own_bounds before d = λ i. map (λ p. same_bound ds (scope_of before d) p.bound i) (type_parameters_of d)

  file_bounds : (before rest : List DeclarationTree) → flat_map (bounds_of_placed ds) (placed_from before rest) ≡ bounds_from (class_named ds) (row_count before) rest
  file_bounds before [] = refl
  file_bounds before (d ∷ rest) =
      λ i. own_bounds before d i ++ (file_bounds (before ++ d ∷ []) rest ∙ ap (λ first. bounds_from (class_named ds) first rest) (more_rows before d)) i

module _ (all : List Row) where
  graph_of : Graph
  graph_of = map super_rows (map row_draft all)

  links_at : (rs : List Row) (row : ℕ) → row_or_none (slice_get (map super_rows (map row_draft rs)) row) ≡ map (λ s. s.class) (supers_at rs row)
  unfolding row_draft
  links_at [] row = refl
  links_at (r ∷ rs) zero = refl
  links_at (r ∷ rs) (suc row) = links_at rs row

  module _ (x : List ℕ) (n : ℕ) where
    own : Row → Bool
    own r = placed_declares x n r.declaration

    flags_at : (rs : List Row) (row : ℕ) → row_declares x n (slice_get rs row) ≡ flag (map own rs) row
    unfolding own
    flags_at [] row = refl
    flags_at (r ∷ rs) zero = refl
    flags_at (r ∷ rs) (suc row) = flags_at rs row

    any_above : (k : ℕ) → ((row : ℕ) → has_within all x n k row ≡ marked_within graph_of (map own all) k row) → (ss : List SuperForm) → list_any (λ s. has_within all x n k s.class) ss ≡ list_any (marked_within graph_of (map own all) k) (map (λ s. s.class) ss)
    any_above k same [] = refl
    any_above k same (s ∷ ss) = λ i. same s.class i || any_above k same ss i

    same_within : (k row : ℕ) → has_within all x n k row ≡ marked_within graph_of (map own all) k row
    unfolding has_within marked_within graph_of
    same_within zero row = refl
    same_within (suc k) row =
        λ i. flags_at all row i || (any_above k (same_within k) (supers_at all row) ∙ ap (list_any (marked_within graph_of (map own all) k)) (sym (links_at all row))) i

length_of : {A B : Type 0} (f : A → B) (xs : List A) → length (map f xs) ≡ length xs
length_of f [] = refl
length_of f (x ∷ xs) = ap suc (length_of f xs)

two_maps : {A B C : Type 0} (f : B → C) (g : A → B) (xs : List A) → map f (map g xs) ≡ map (λ x. f (g x)) xs
two_maps f g [] = refl
two_maps f g (x ∷ xs) = ap (λ ys. f (g x) ∷ ys) (two_maps f g xs)

module _ (all : List Row) where
  to_string_same : (row : ℕ) → marked (map super_rows (map row_draft all)) (map (λ c. c.has_to_string) (map row_draft all)) row ≡ has_function all (codes "toString") 0 row
  unfolding graph_of own row_draft
  to_string_same row =
      ap (λ flags. marked (map super_rows (map row_draft all)) flags row) (two_maps (λ c. c.has_to_string) row_draft all)
      ∙ (ap (λ k. marked_within (map super_rows (map row_draft all)) (map (λ r. placed_declares (codes "toString") 0 r.declaration) all) k row) (length_of super_rows (map row_draft all) ∙ length_of row_draft all)
      ∙ sym (same_within all (codes "toString") 0 (length all) row))

  equals_same : (row : ℕ) → marked (map super_rows (map row_draft all)) (map (λ c. c.has_equals) (map row_draft all)) row ≡ has_function all (codes "equals") 1 row
  unfolding graph_of own row_draft
  equals_same row =
      ap (λ flags. marked (map super_rows (map row_draft all)) flags row) (two_maps (λ c. c.has_equals) row_draft all)
      ∙ (ap (λ k. marked_within (map super_rows (map row_draft all)) (map (λ r. placed_declares (codes "equals") 1 r.declaration) all) k row) (length_of super_rows (map row_draft all) ∙ length_of row_draft all)
      ∙ sym (same_within all (codes "equals") 1 (length all) row))

  headers_same : (row : ℕ) (rs : List Row) → completed_from (map super_rows (map row_draft all)) (map (λ c. c.has_to_string) (map row_draft all)) (map (λ c. c.has_equals) (map row_draft all)) row (map row_draft rs) ≡ row_headers all row rs
  unfolding row_draft
  headers_same row [] = refl
  headers_same row (r ∷ rs) = λ i. with_flags (to_string_same row i) (equals_same row i) (row_draft r) ∷ headers_same (row + 1) rs i

rows_completed : (ds : List DeclarationTree) → (completed (draft (class_named ds) ds)).classes ≡ (hierarchy_of ds).classes
rows_completed ds =
    ap (λ hs. completed_from (map super_rows hs) (map (λ c. c.has_to_string) hs) (map (λ c. c.has_equals) hs) 0 hs) (sym (all_rows ds))
    ∙ headers_same (rows ds) 0 (rows ds)

whole : (ds : List DeclarationTree) → completed (draft (class_named ds) ds) ≡ hierarchy_of ds
whole ds = both (completed (draft (class_named ds) ds)) (hierarchy_of ds) (rows_completed ds) (file_bounds ds [] ds)
  where
    both : (a b : HierarchyForm) → a.classes ≡ b.classes → b.bounds ≡ a.bounds → a ≡ b
    both a b c d = let e = sym d in λ i. record { classes = c i; bounds = e i }

pub finished :
    (classes : Classes) (ds : List DeclarationTree) (h : HierarchyForm) (rows : List HeaderForm) →
    ((x : List ℕ) → classes x ≡ class_named ds x) →
    h ≡ draft classes ds →
    rows ≡ (completed h).classes →
    record { classes = rows; bounds = h.bounds } ≡ hierarchy_of ds
finished classes ds h rows known is e =
    (λ i. record { classes = e i; bounds = h.bounds })
    ∙ (ap completed is ∙ ((λ i. completed (draft (λ x. known x i) ds)) ∙ whole ds))
