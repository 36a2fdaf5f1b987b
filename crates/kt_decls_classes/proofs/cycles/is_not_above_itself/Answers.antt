use Rattle.std.specs.Prelude.{map}
use Rattle.kt_tree.specs.Declarations.{declaration_tree}
use Rattle.kt_decls_classes.proofs.Ending.{class_ends, class_back}
use Rattle.kt_decls_classes.proofs.cycles.is_not_above_itself.Goals as goal

pub returns-then-ends : goal.returns-then-ends
returns-then-ends c = class_ends (map declaration_tree c.args.file.now) c.args.facts.now c.requires.known c.args.row c.if-ends.true

pub returns : goal.returns
returns c = class_back (map declaration_tree c.args.file.now) c.args.facts.now c.requires.known c.args.row c.in_ok-back.back _ c.as_slice.ensures c.in_ok-back.ensures
