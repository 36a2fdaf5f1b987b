use Rattle.std.specs.Prelude.{map}
use Rattle.std.proofs.Common.{arith}
use Rattle.kt_tree.specs.Declarations.{declaration_tree}
use Rattle.kt_decls_methods.proofs.Groundless.{past_told}
use Rattle.kt_decls_methods.proofs.grounded.is_grounded.Goals as goal

pub returns-else-row-classes : goal.returns-else-row-classes
returns-else-row-classes c = past_told (map declaration_tree c.args.file.now) c.args.facts.now c.requires.known c.args.row c.len-classes.result c.len-classes.ensures (omega arith)
