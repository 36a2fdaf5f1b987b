use Rattle.std.specs.Prelude.{map}
use Rattle.kt_tree.specs.Declarations.{declaration_tree, property_tree}
use Rattle.kt_decls_members.proofs.FineMembers.{property_told}
use Rattle.kt_decls_members.proofs.properties.is_fine_property.Goals as goal

pub returns : goal.returns
returns c = property_told (map declaration_tree c.args.file.now) c.args.row c.args.scope.now (property_tree c.args.property.now) c.args.is_free c.in_ok-meant.meant c.is_new-fresh.result c.all_three.result c.all_three.ensures c.in_ok-meant.ensures c.is_new-fresh.ensures
