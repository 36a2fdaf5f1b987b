-- The entries of an enum, one behind the other.
use Rattle.std.specs.Prelude.{Bool, List, [], ◌∷◌, Option, Some, None, if◌then◌else◌}
use Rattle.kt_base.specs.declared.refusals.Pos.{Pos}
use Rattle.kt_tree.specs.declared.declarations.EnumEntry.{EnumEntry}
use Rattle.kt_decls_rules.specs.Names.{Taken, a_value, and_taken}

-- the place of the first entry whose name is taken
abbrev pub first_taken : (Taken → Bool) → List EnumEntry → Option Pos
first_taken taken [] = None
first_taken taken (e ∷ es) =
    if taken (a_value e.name) then Some e.at else first_taken (and_taken taken (a_value e.name)) es
