use Rattle.std.specs.Prelude.{map}
use Rattle.kt_tree.specs.Declarations.{declaration_tree}
use Rattle.kt_decls_classes.proofs.Ending.{bound_ends, bound_back}
use Rattle.kt_decls_classes.proofs.cycles.does_bound_end.Goals as goal

pub returns-then-ends : goal.returns-then-ends
returns-then-ends c = bound_ends (map declaration_tree c.args.file.now) c.args.facts.now c.requires.known c.args.row c.if-ends.true

pub returns : goal.returns
returns c = bound_back (map declaration_tree c.args.file.now) c.args.facts.now c.requires.known c.args.row c.in_ok-back.back _ c.as_slice.ensures c.in_ok-back.ensures
