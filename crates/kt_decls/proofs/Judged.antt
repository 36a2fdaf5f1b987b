-- A file that is judged is well formed, or refused at a place.
use Rattle.std.specs.Prelude.{List, ◌≡◌, Some, refl}
use Rattle.kt_base.specs.declared.refusals.Pos.{Pos}
use Rattle.kt_tree.specs.Declarations.{DeclarationTree}
use Rattle.kt_decls_rules.specs.Headers.{AreRefusedAt, headers}
use Rattle.kt_decls_classes.specs.Faults.{IsFirstFault}

pub as_refused : (ds : List DeclarationTree) (p : Pos) → IsFirstFault ds (headers ds) p → AreRefusedAt ds p
as_refused ds p fault =
    record { number = fault.number; header = fault.header; stands = fault.stands; fails = fault.fails; before = fault.before; at = fault.at }
