use Rattle.std.specs.Prelude.{map}
use Rattle.std.proofs.Common.{ap, ◌∙◌}
use Rattle.kt_tree.specs.Declarations.{declaration_tree}
use Rattle.kt_tree.specs.Types.{type_tree}
use Rattle.kt_decls_types.specs.Scopes.{class_named}
use Rattle.kt_decls_rules.specs.Tables.{meant, super_meant}
use Rattle.kt_decls_hierarchy.proofs.Known.{super_known}
use Rattle.kt_decls_classes.specs.Kinds.{named_kind}
use Rattle.kt_decls_classes.proofs.RowKinds.{known_kind}
use Rattle.kt_decls_classes.proofs.supertypes.kind_of_written.Goals as goal

pub returns : goal.returns
returns c =
    c.kind_named.ensures
    ∙ (ap (named_kind c.args.kinds.now) (c.in_ok-found.ensures ∙ super_known (class_named c.args.facts.now.classes) (map declaration_tree c.args.file.now) c.requires.known.names c.args.scope.now (type_tree c.args.written.now))
    ∙ known_kind (map declaration_tree c.args.file.now) c.args.kinds.now c.requires.kinds (super_meant (meant (map declaration_tree c.args.file.now) c.args.scope.now (type_tree c.args.written.now))))
