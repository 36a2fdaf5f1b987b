-- Which declaration a function of a class overrides first.
use Rattle.std.specs.Prelude.{ℕ, zero, suc, Bool, true, false, List, [], ◌∷◌, ◌+◌, ◌==◌, ◌&&◌, Option, Some, None, codes, length, option_map, if◌then◌else◌}
use Rattle.kt_tree.specs.Declarations.{DeclarationTree, FunctionTree}
use Rattle.kt_types_tree.specs.Hierarchy.{SuperForm, HierarchyForm, supers_of}
use Rattle.kt_typed.specs.declared.headers.Overridden.{Overridden}
use Rattle.kt_typed.specs.declared.headers.Overridden.TheVariants as overridden
use Rattle.kt_decls_rules.specs.Names.{is_name}
use Rattle.kt_decls_rules.specs.Tables.{is_function}
use Rattle.kt_decls_rules.specs.Members.{functions_of}
use Rattle.kt_decls_inherited.specs.Rows.{declaration_in}

-- the place of the first function of that name with so many parameters
abbrev pub place_from : List ℕ → ℕ → ℕ → List FunctionTree → Option ℕ
place_from x n k [] = None
place_from x n k (f ∷ fs) = if is_function x n f then Some k else place_from x n (k + 1) fs

abbrev pub place_among : List ℕ → ℕ → Option DeclarationTree → Option ℕ
place_among x n None = None
place_among x n (Some d) = place_from x n 0 (functions_of d)

abbrev pub or_else : Option Overridden → Option Overridden → Option Overridden
or_else None o = o
or_else (Some f) o = Some f

-- a throwable declares no function
abbrev pub declared_at : List DeclarationTree → List ℕ → List ℕ → ℕ → ℕ → Option Overridden
declared_at ds places x n row = option_map (overridden.Function row) (place_among x n (declaration_in ds places row))

module _ (h : HierarchyForm) (ds : List DeclarationTree) (places : List ℕ) (x : List ℕ) (n : ℕ) where
  -- the first by way of several supertypes in text order
  abbrev pub first_by : (ℕ → Option Overridden) → List SuperForm → Option Overridden
  first_by above [] = None
  first_by above (s ∷ ss) = or_else (or_else (declared_at ds places x n s.class) (above s.class)) (first_by above ss)

  -- within so many steps
  unfoldable pub first_up : ℕ → ℕ → Option Overridden
  first_up zero row = None
  first_up (suc steps) row = first_by (first_up steps) (supers_of h row)

-- `toString` and `equals`, which every class has
abbrev pub of_any : List ℕ → ℕ → Option Overridden
of_any x n =
    if is_name x (codes "toString") && n == 0 then Some overridden.ToString
    else if is_name x (codes "equals") && n == 1 then Some overridden.Equals
    else None

-- what a function overrides first: that of the first supertype in text order that has one
abbrev pub overridden_by : HierarchyForm → List DeclarationTree → List ℕ → ℕ → FunctionTree → Option Overridden
overridden_by h ds places row f =
    or_else
    (first_up h ds places f.name (length f.parameters) (length h.classes) row)
    (of_any f.name (length f.parameters))
