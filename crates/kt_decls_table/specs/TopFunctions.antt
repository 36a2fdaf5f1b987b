-- The header of a function at top level, and the bounds of its type parameters.
use Rattle.std.specs.Prelude.{ℕ, Bool, List, ◌≡◌, Some}
use Rattle.kt_tree.specs.Declarations.{FunctionTree}
use Rattle.kt_types_tree.specs.Types.{TypeForm}
use Rattle.kt_typed.specs.Headers.{FunctionForm}
use Rattle.kt_decls_rules.specs.Names.{Taken}
use Rattle.kt_decls_rules.specs.Tables.{numbered}
use Rattle.kt_decls_table.specs.Classes.{Classes}
use Rattle.kt_decls_table.specs.Functions.{header_beside}
use Rattle.kt_decls_table.specs.TypeParameters.{AreTypeParameters}

-- Beside what is taken, and with the type parameters numbered from a row.
pub record IsTopFunction (classes : Classes) (taken : Taken → Bool) (row : ℕ) (f : FunctionTree) (h : FunctionForm)
    (bounds : List TypeForm) : Type 0 where
  pub parameters : AreTypeParameters classes row f.type_parameters (numbered row f.type_parameters) bounds
  pub header : header_beside classes taken (numbered row f.type_parameters) f ≡ Some h
