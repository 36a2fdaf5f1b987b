use Rattle.std.specs.Prelude.{◌≡◌, ◌++◌, map, drop}
use Rattle.kt_tree.specs.Declarations.{declaration_tree}
use Rattle.kt_decls_inherited.specs.Sights.{places, places_from}
use Rattle.kt_decls_inherited.proofs.places.row_places.Given as goal

abbrev pub invariant-loop-declaration : goal.invariant-loop-declaration
invariant-loop-declaration l =
    (l.place ≡ l.declaration-index) × (l.done ++ places_from l.place (map declaration_tree (drop l.declaration-index l.file)) ≡ places (map declaration_tree l.file))
