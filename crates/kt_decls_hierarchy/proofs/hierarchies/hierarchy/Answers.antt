use Rattle.std.specs.Prelude.{map}
use Rattle.kt_tree.specs.Declarations.{declaration_tree}
use Rattle.kt_types_tree.specs.Hierarchy.{header_form, hierarchy_form}
use Rattle.kt_decls_types.specs.Scopes.{class_named}
use Rattle.kt_decls_hierarchy.proofs.Completed.{finished}
use Rattle.kt_decls_hierarchy.proofs.hierarchies.hierarchy.Goals as goal

pub returns : goal.returns
returns c =
    finished (class_named c.args.classes.now) (map declaration_tree c.args.declarations.now) (hierarchy_form c.in_ok-h.h) (map header_form c.in_ok-classes.classes) c.requires c.in_ok-h.ensures c.in_ok-classes.ensures
