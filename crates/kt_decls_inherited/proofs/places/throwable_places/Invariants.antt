use Rattle.std.specs.Prelude.{◌≡◌, ◌++◌, map, drop}
use Rattle.kt_decls_inherited.specs.Sights.{behind_all}
use Rattle.kt_decls_inherited.proofs.places.throwable_places.Given as goal

abbrev pub invariant-loop-throwable : goal.invariant-loop-throwable
invariant-loop-throwable l =
    l.done ++ map (behind_all l.behind) (drop l.throwable-index l.throwable-items) ≡ map (behind_all l.behind) l.throwable-items
