use Rattle.std.specs.Prelude.{map}
use Rattle.kt_tree.specs.Declarations.{declaration_tree}
use Rattle.kt_decls_tops.proofs.Declared.{all_told, not_meant, not_named}
use Rattle.kt_decls_tops.proofs.declarations.is_fine_declaration.Goals as goal

pub returns-then-not-named : goal.returns-then-not-named
returns-then-not-named c = λ before same row free. not_named (map declaration_tree c.args.file.now) before (declaration_tree c.args.declaration.now) c.args.is_free c.in_ok-named.named free c.in_ok-named.ensures c.if-not-named.true

pub returns-then-not-meant : goal.returns-then-not-meant
returns-then-not-meant c = λ before same row free. not_meant (map declaration_tree c.args.file.now) before (declaration_tree c.args.declaration.now) c.args.is_free c.in_ok-named.named free c.in_ok-named.ensures c.args.scope.now same c.in_ok-meant.meant c.in_ok-meant.ensures c.if-not-meant.true

pub returns : goal.returns
returns c = all_told (map declaration_tree c.args.file.now) (declaration_tree c.args.declaration.now) c.args.is_free c.in_ok-named.named c.in_ok-meant.meant c.args.scope.now c.args.first c.in_ok-named.ensures c.in_ok-meant.ensures c.if-not-named.false c.if-not-meant.false c.do_bounds_end.result (rw c.type_parameters.ensures at c.do_bounds_end.ensures)
