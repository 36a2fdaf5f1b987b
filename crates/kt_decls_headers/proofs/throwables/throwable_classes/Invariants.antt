use Rattle.std.specs.Prelude.{◌≡◌, ◌++◌, map, drop}
use Rattle.kt_typed.specs.Headers.{class_form}
use Rattle.kt_types_builtins.specs.Throwables.{throwables}
use Rattle.kt_decls_headers.specs.Classes.{throwable_in}
use Rattle.kt_decls_headers.proofs.throwables.throwable_classes.Given as goal

abbrev pub invariant-loop-throwable : goal.invariant-loop-throwable
invariant-loop-throwable l =
    map class_form l.done ++ map throwable_in (drop l.throwable-index throwables) ≡ map throwable_in throwables
