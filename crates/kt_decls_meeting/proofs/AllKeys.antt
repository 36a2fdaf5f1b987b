-- What is so of each function that is declared above is so of each name and number of parameters.
use Rattle.std.specs.Prelude.{ℕ, zero, suc, Bool, true, false, List, [], ◌∷◌, ◌++◌, ◌==◌, ◌&&◌, ◌-◌, ◌≤◌, ◌≡◌, ◌⊎◌, ◌↔◌, Option, Some, None, option_map, IsTrue, find, length, map, refl, Result, Ok, Err, IfOk, if◌then◌else◌}
use Rattle.std.proofs.Common.{rules, arith, inl, inr, ap, sym, ◌∙◌, subst}
use Rattle.std.specs.Cmp.Lexicographic.{same_text}
use Rattle.std.proofs.lemmas.List.{length-map}
use Rattle.kt_base.specs.declared.errors.NoMemory.{NoMemory}
use Rattle.kt_tree.specs.Declarations.{DeclarationTree, FunctionTree}
use Rattle.kt_types_tree.specs.Hierarchy.{SuperForm, HierarchyForm, header_form, hierarchy_form, supers_of}
use Rattle.kt_decls_hierarchy.specs.Drafts.{Classes}
use Rattle.kt_decls_types.specs.Scopes.{class_named}
use Rattle.kt_decls_facts.specs.declared.facts.FileFacts.{FileFacts}
use Rattle.kt_decls_facts.specs.Facts.{Knows}
use Rattle.kt_decls_rules.specs.Names.{is_name}
use Rattle.kt_decls_rules.specs.Tables.{hierarchy_of, is_function, rows}
use Rattle.kt_decls_rules.specs.Members.{Member, functions_of, inherited}
use Rattle.kt_decls_rules.specs.ClassRules.{DoAllAgree, IsFineAbove, has_body_if_any}
use Rattle.kt_decls_inherited.specs.Sights.{SightForm, places, seen, sight_of}
use Rattle.kt_decls_inherited.specs.Rows.{all_up, declaration_in, first_in, one_or, own_in, row_sight, sight_if, sights_up}
use Rattle.kt_decls_inherited.proofs.AsRuled.{as_ruled, known_so, rows_long}
use Rattle.kt_decls_meeting.specs.Keys.{AreKeys, AreKeysOf, AreKeysBy, AreKeysUp}

same_number : (n m : ℕ) → (n == m) ≡ true → n ≡ m
same_number n m e = search rules

both_true : (a b : Bool) → (a && b) ≡ true → (a ≡ true) × (b ≡ true)
both_true true true e = (refl, refl)
both_true true false e = absurd cc
both_true false b e = absurd cc

module _ (Fine : List ℕ → ℕ → Type 0) where
  module _ (x : List ℕ) (n : ℕ) where
    this_key : (f : FunctionTree) → is_function x n f ≡ true → Fine f.name (length f.parameters) → Fine x n
    this_key f e k =
        let two = both_true (is_name f.name x) (length f.parameters == n) e in
        subst (λ (m : ℕ). Fine x m) (same_number (length f.parameters) n two.1)
        (subst (λ (y : List ℕ). Fine y (length f.parameters)) (same_text f.name x (sym two.0)) k)

    at_head : (f : FunctionTree) (fs : List FunctionTree) (b : Bool) → is_function x n f ≡ b → Fine f.name (length f.parameters) → (find (is_function x n) fs ≡ None) ⊎ Fine x n → ((if b then Some f else find (is_function x n) fs) ≡ None) ⊎ Fine x n
    at_head f fs true e k rest = inr (this_key f e k)
    at_head f fs false e k rest = rest

    -- no function has the key, or it is fine
    none_or_fine : (fs : List FunctionTree) → AreKeys Fine fs → (find (is_function x n) fs ≡ None) ⊎ Fine x n
    none_or_fine [] a = inl refl
    none_or_fine (f ∷ fs) a = at_head f fs (is_function x n f) refl a.0 (none_or_fine fs a.1)

    module _ (classes : Classes) (h : HierarchyForm) (ds : List DeclarationTree) (ps : List ℕ) where
      of_declaration : (first : ℕ) (o : Option DeclarationTree) → AreKeysOf Fine o → (sight_if classes first x n o ≡ None) ⊎ Fine x n
      of_declaration first None a = inl refl
      of_declaration first (Some d) a = elim (none_or_fine (functions_of d) a) [
        | inl e ↦ inl (ap (option_map (own_in classes first d)) e)
        | inr k ↦ inr k
      ]

      all_three : (s : SuperForm) (o : Option SightForm) (us rest : List SightForm) → (o ≡ None) ⊎ Fine x n → (us ≡ []) ⊎ Fine x n → (rest ≡ []) ⊎ Fine x n → (map (seen s) (one_or o us) ++ rest ≡ []) ⊎ Fine x n
      all_three s o us rest (inr k) q w = inr k
      all_three s o us rest (inl p) (inr k) w = inr k
      all_three s o us rest (inl p) (inl q) (inr k) = inr k
      all_three s o us rest (inl p) (inl q) (inl w) = inl (λ i. map (seen s) (one_or (p i) (q i)) ++ w i)

      by_ways : (k : ℕ) → ((row : ℕ) → AreKeysUp Fine h ds ps k row → (sights_up classes h ds ps x n k row ≡ []) ⊎ Fine x n) → (ss : List SuperForm) → AreKeysBy Fine h ds ps (AreKeysUp Fine h ds ps k) ss → (all_up classes h ds ps x n k ss ≡ []) ⊎ Fine x n
      by_ways k up [] a = inl refl
      by_ways k up (s ∷ ss) a =
          all_three s (row_sight classes h ds ps x n s.class) (sights_up classes h ds ps x n k s.class) (all_up classes h ds ps x n k ss)
          (of_declaration (first_in h s.class) (declaration_in ds ps s.class) a.0.0)
          (up s.class a.0.1)
          (by_ways k up ss a.1)

      nothing_or_fine : (k row : ℕ) → AreKeysUp Fine h ds ps k row → (sights_up classes h ds ps x n k row ≡ []) ⊎ Fine x n
      unfolding AreKeysUp sights_up
      nothing_or_fine zero row a = inl refl
      nothing_or_fine (suc k) row a = by_ways k (nothing_or_fine k) (supers_of h row) a

  -- what is so of all names is so of those
  module _ (all : (x : List ℕ) (n : ℕ) → Fine x n) where
    each_key : (fs : List FunctionTree) → AreKeys Fine fs
    each_key [] = tt
    each_key (f ∷ fs) = (all f.name (length f.parameters), each_key fs)

    each_of : (o : Option DeclarationTree) → AreKeysOf Fine o
    each_of None = tt
    each_of (Some d) = each_key (functions_of d)

    module _ (h : HierarchyForm) (ds : List DeclarationTree) (ps : List ℕ) where
      each_by : (Above : ℕ → Type 0) → ((row : ℕ) → Above row) → (ss : List SuperForm) → AreKeysBy Fine h ds ps Above ss
      each_by Above up [] = tt
      each_by Above up (s ∷ ss) = ((each_of (declaration_in ds ps s.class), up s.class), each_by Above up ss)

      each_up : (k row : ℕ) → AreKeysUp Fine h ds ps k row
      unfolding AreKeysUp
      each_up zero row = tt
      each_up (suc k) row = each_by (AreKeysUp Fine h ds ps k) (each_up k) (supers_of h row)

  -- One step up.
  module _ (h : HierarchyForm) (ds : List DeclarationTree) (ps : List ℕ) where
    none_up : (k row : ℕ) → k ≡ 0 → AreKeysUp Fine h ds ps k row
    unfolding AreKeysUp
    none_up zero row e = tt
    none_up (suc k) row e = absurd (omega arith)

    pub no_step : (k row : ℕ) → k ≡ 0 → IsTrue true ↔ AreKeysUp Fine h ds ps k row
    no_step k row e = ((λ _. none_up k row e), (λ _. refl))

    one_up : (k row : ℕ) → AreKeysBy Fine h ds ps (AreKeysUp Fine h ds ps k) (supers_of h row) ↔ AreKeysUp Fine h ds ps (suc k) row
    unfolding AreKeysUp
    one_up k row = ((λ a. a), (λ a. a))

    pub some_up : (k row : ℕ) (ss : List SuperForm) (r : Result Bool NoMemory) → 1 ≤ k → ss ≡ supers_of h row → IfOk r (λ yes. IsTrue yes ↔ AreKeysBy Fine h ds ps (AreKeysUp Fine h ds ps (k - 1)) ss) → IfOk r (λ yes. IsTrue yes ↔ AreKeysUp Fine h ds ps k row)
    some_up zero row ss r more same told = absurd (omega arith)
    some_up (suc k) row ss (Err z) more same told = tt
    some_up (suc k) row ss (Ok b) more same told =
        let one : suc k - 1 ≡ k = omega arith in
        let by : IsTrue b ↔ AreKeysBy Fine h ds ps (AreKeysUp Fine h ds ps k) (supers_of h row) =
        subst (λ (l : List SuperForm). IsTrue b ↔ AreKeysBy Fine h ds ps (AreKeysUp Fine h ds ps k) l) same
        (subst (λ (j : ℕ). IsTrue b ↔ AreKeysBy Fine h ds ps (AreKeysUp Fine h ds ps j) ss) one told) in
        ((λ t. (one_up k row).0 (by.0 t)), (λ a. by.1 ((one_up k row).1 a)))

no_member : (ms : List Member) → map sight_of ms ≡ [] → ms ≡ []
no_member [] e = refl
no_member (m ∷ ms) e = absurd cc

module _ (ds : List DeclarationTree) (row : ℕ) (needs is_data : Bool) (d : DeclarationTree) where
  nothing_meets : (x : List ℕ) (n : ℕ) → inherited ds x n row ≡ [] → IsFineAbove ds row needs is_data d x n
  nothing_meets x n e =
      record {
        agree = λ _. subst (DoAllAgree (hierarchy_of ds)) (sym e) tt;
        bodies = λ _ _. ap has_body_if_any e;
      }

  module _ (f : FileFacts) (known : Knows ds f) (ps : List ℕ) (ends : ps ≡ places ds) (k : ℕ) (steps : k ≡ length f.hierarchy.classes) where
    all_rows : k ≡ length (rows ds)
    all_rows =
        steps
        ∙ (sym (length-map f.hierarchy.classes header_form)
        ∙ (ap (λ (h : HierarchyForm). length h.classes) known.tree ∙ rows_long ds))

    each_name : AreKeysUp (IsFineAbove ds row needs is_data d) (hierarchy_form f.hierarchy) ds ps k row → (x : List ℕ) (n : ℕ) → IsFineAbove ds row needs is_data d x n
    each_name a x n = elim (nothing_or_fine (IsFineAbove ds row needs is_data d) x n (class_named f.classes) (hierarchy_form f.hierarchy) ds ps k row a) [
      | inl e ↦
          nothing_meets x n
          (no_member (inherited ds x n row)
          (sym (known_so ds x n (class_named f.classes) (hierarchy_form f.hierarchy) ps k row known.names known.tree ends all_rows ∙ as_ruled ds x n row) ∙ e))
      | inr fine ↦ fine
    ]

    pub all_told : (r : Result Bool NoMemory) → IfOk r (λ yes. IsTrue yes ↔ AreKeysUp (IsFineAbove ds row needs is_data d) (hierarchy_form f.hierarchy) ds ps k row) → IfOk r (λ yes. IsTrue yes ↔ ((x : List ℕ) (n : ℕ) → IsFineAbove ds row needs is_data d x n))
    all_told (Ok b) told = ((λ t. each_name (told.0 t)), (λ all. told.1 (each_up (IsFineAbove ds row needs is_data d) all (hierarchy_form f.hierarchy) ds ps k row)))
    all_told (Err z) told = tt
