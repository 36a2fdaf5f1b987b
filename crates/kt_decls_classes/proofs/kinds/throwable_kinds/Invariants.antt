use Rattle.std.specs.Prelude.{◌≡◌, ◌++◌, map, drop}
use Rattle.kt_decls_classes.specs.Kinds.{always_open, kind_seen}
use Rattle.kt_decls_classes.proofs.kinds.throwable_kinds.Given as goal

abbrev pub invariant-loop-throwable : goal.invariant-loop-throwable
invariant-loop-throwable l =
    map kind_seen l.done ++ map always_open (drop l.throwable-index l.throwable-items) ≡ map always_open l.throwable-items
