use Rattle.std.specs.Prelude.{◌≡◌, map, drop}
use Rattle.std.specs.List.{list_all}
use Rattle.kt_tree.specs.Declarations.{declaration_tree, supertype_tree}
use Rattle.kt_decls_rules.specs.ClassRules.{may_extend}
use Rattle.kt_decls_classes.proofs.supertypes.may_extend_all.Given as goal

abbrev pub invariant-loop-each : goal.invariant-loop-each
invariant-loop-each l =
    list_all (may_extend (map declaration_tree l.file) l.scope) (map supertype_tree l.written) ≡ list_all (may_extend (map declaration_tree l.file) l.scope) (map supertype_tree (drop l.each-index l.written))
