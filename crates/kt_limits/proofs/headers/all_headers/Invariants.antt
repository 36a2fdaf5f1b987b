use Rattle.std.specs.Prelude.{◌≡◌, drop}
use Rattle.kt_typed.specs.Headers.{headers_form}
use Rattle.kt_limits.specs.Walking.{walk_headers}
use Rattle.kt_limits.proofs.headers.all_headers.Given as goal

abbrev pub invariant-loop-declaration : goal.invariant-loop-declaration
invariant-loop-declaration l =
    walk_headers (headers_form l.headers) l.count (drop l.declaration-index (headers_form l.headers).order)
    ≡ walk_headers (headers_form l.headers) 0 (headers_form l.headers).order
