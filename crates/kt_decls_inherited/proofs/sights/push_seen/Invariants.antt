use Rattle.std.specs.Prelude.{◌≡◌, ◌++◌, map, drop}
use Rattle.kt_types_tree.specs.Types.{forms_of, type_form}
use Rattle.kt_decls_inherited.specs.Sights.{seen_with, sight_form}
use Rattle.kt_decls_inherited.proofs.sights.push_seen.Given as goal

abbrev pub invariant-loop-sight : goal.invariant-loop-sight
invariant-loop-sight l =
    map sight_form l.done ++ map (seen_with (forms_of (map type_form l.arguments))) (map sight_form (drop l.sight-index l.sights)) ≡ map sight_form l.fn.done ++ map (seen_with (forms_of (map type_form l.arguments))) (map sight_form l.sights)
