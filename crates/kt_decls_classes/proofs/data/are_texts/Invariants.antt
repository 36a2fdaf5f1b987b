use Rattle.std.specs.Prelude.{◌↔◌, map, drop}
use Rattle.kt_tree.specs.Declarations.{constructor_parameter_tree, declaration_tree}
use Rattle.kt_decls_rules.specs.ClassRules.{HaveText}
use Rattle.kt_decls_classes.proofs.data.are_texts.Given as goal

abbrev pub invariant-loop-parameter : goal.invariant-loop-parameter
invariant-loop-parameter l =
    HaveText (map declaration_tree l.file) l.scope (map constructor_parameter_tree l.parameters) ↔ HaveText (map declaration_tree l.file) l.scope (map constructor_parameter_tree (drop l.parameter-index l.parameters))
