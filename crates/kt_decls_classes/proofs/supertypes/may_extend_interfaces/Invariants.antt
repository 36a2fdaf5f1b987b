use Rattle.std.specs.Prelude.{◌≡◌, map, drop}
use Rattle.std.specs.List.{list_all}
use Rattle.kt_tree.specs.Types.{type_tree}
use Rattle.kt_tree.specs.Declarations.{declaration_tree}
use Rattle.kt_decls_rules.specs.ClassRules.{may_extend_interface}
use Rattle.kt_decls_classes.proofs.supertypes.may_extend_interfaces.Given as goal

abbrev pub invariant-loop-each : goal.invariant-loop-each
invariant-loop-each l =
    list_all (may_extend_interface (map declaration_tree l.file) l.scope) (map type_tree l.written) ≡ list_all (may_extend_interface (map declaration_tree l.file) l.scope) (map type_tree (drop l.each-index l.written))
