use Rattle.std.specs.Prelude.{map}
use Rattle.kt_tree.specs.Declarations.{declaration_tree, function_tree}
use Rattle.kt_decls_members.proofs.FineMembers.{all_told, not_meant, not_named}
use Rattle.kt_decls_members.proofs.functions.is_fine_method.Goals as goal

pub returns-then-not-named : goal.returns-then-not-named
returns-then-not-named c = not_named (map declaration_tree c.args.file.now) c.args.row c.args.scope.now (function_tree c.args.function.now) c.args.is_free c.in_ok-apart.apart c.both-named.result (rw c.as_slice.ensures at c.in_ok-apart.ensures) c.both-named.ensures c.if-not-named.true

pub returns-then-not-meant : goal.returns-then-not-meant
returns-then-not-meant c = not_meant (map declaration_tree c.args.file.now) c.args.row c.args.scope.now (function_tree c.args.function.now) c.args.is_free c.in_ok-apart.apart c.both-named.result (rw c.as_slice.ensures at c.in_ok-apart.ensures) c.both-named.ensures c.in_ok-meant.meant c.in_ok-meant.ensures c.if-not-meant.true

pub returns : goal.returns
returns c = all_told (map declaration_tree c.args.file.now) c.args.row c.args.scope.now (function_tree c.args.function.now) c.args.is_free c.in_ok-apart.apart c.both-named.result (rw c.as_slice.ensures at c.in_ok-apart.ensures) c.both-named.ensures c.in_ok-meant.meant c.in_ok-meant.ensures c.if-not-named.false c.if-not-meant.false c.is_fine_override.result c.is_fine_override.ensures
