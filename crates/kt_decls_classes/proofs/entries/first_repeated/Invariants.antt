use Rattle.std.specs.Prelude.{◌≡◌, drop}
use Rattle.kt_decls_names.specs.Taken.{is_taken}
use Rattle.kt_decls_rules.specs.Names.{none_taken}
use Rattle.kt_decls_classes.specs.Entries.{first_taken}
use Rattle.kt_decls_classes.proofs.entries.first_repeated.Given as goal

abbrev pub invariant-loop-entry : goal.invariant-loop-entry
invariant-loop-entry l = first_taken none_taken l.entries ≡ first_taken (is_taken l.taken) (drop l.entry-index l.entries)
