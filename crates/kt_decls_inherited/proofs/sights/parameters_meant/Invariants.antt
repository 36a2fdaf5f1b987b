use Rattle.std.specs.Prelude.{◌≡◌, map, drop}
use Rattle.kt_tree.specs.Declarations.{typed_parameter_tree}
use Rattle.kt_types_tree.specs.Types.{type_form}
use Rattle.kt_decls_types.specs.Scopes.{class_named}
use Rattle.kt_decls_inherited.specs.Known.{all_meant}
use Rattle.kt_decls_inherited.proofs.Meant.{behind}
use Rattle.kt_decls_inherited.proofs.sights.parameters_meant.Given as goal

abbrev pub invariant-loop-parameter : goal.invariant-loop-parameter
invariant-loop-parameter l =
    all_meant (class_named l.classes) l.scope (map (λ p. p.annotation) (map typed_parameter_tree l.parameters)) ≡ behind (map type_form l.done) (all_meant (class_named l.classes) l.scope (map (λ p. p.annotation) (map typed_parameter_tree (drop l.parameter-index l.parameters))))
