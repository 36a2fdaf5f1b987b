use Rattle.std.specs.Prelude.{map}
use Rattle.std.specs.List.{list_any}
use Rattle.std.proofs.Common.{subst, ap, ◌∙◌, sym}
use Rattle.kt_tree.specs.Declarations.{declaration_tree}
use Rattle.kt_decls_bounds.proofs.Deciding.{not_asked}
use Rattle.kt_decls_rules.specs.Members.{inherited_properties}
use Rattle.kt_decls_rules.specs.Names.{is_name}
use Rattle.kt_decls_members.proofs.FineMembers.{new_if}
use Rattle.kt_decls_members.proofs.properties.is_new.Goals as goal

pub returns-then-grounded : goal.returns-then-grounded
returns-then-grounded c = new_if _ c.is_inherited.result (list_any (is_name c.args.name.now) (inherited_properties (map declaration_tree c.args.file.now) c.args.row)) (rw c.as_bytes.ensures.value at c.is_inherited.ensures) (c.is_grounded-grounded.ensures.0 c.if-grounded.true)

pub returns-else-grounded : goal.returns-else-grounded
returns-else-grounded c = not_asked c.is_grounded-grounded.result c.is_grounded-grounded.ensures.1 c.if-grounded.false
