use Rattle.std.specs.Prelude.{length}
use Rattle.kt_decls_inherited.proofs.comparing.+are_same.Given as goal

abbrev pub decreases-are_same : goal.decreases-are_same
decreases-are_same l = length l.all.now
