use Rattle.std.specs.Prelude.{◌≡◌, ◌++◌, drop}
use Rattle.kt_decls_table.proofs.constants.copies_of.Given as goal

abbrev pub invariant-loop-part : goal.invariant-loop-part
invariant-loop-part l = l.parts ≡ l.done ++ drop l.part-index l.parts
