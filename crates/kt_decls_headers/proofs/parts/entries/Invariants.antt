use Rattle.std.specs.Prelude.{◌≡◌, ◌++◌, map, drop}
use Rattle.kt_decls_headers.specs.Classes.{entry_of}
use Rattle.kt_decls_headers.proofs.parts.entries.Given as goal

abbrev pub invariant-loop-entry : goal.invariant-loop-entry
invariant-loop-entry l =
    l.done ++ map entry_of (drop l.entry-index l.written) ≡ map entry_of l.written
