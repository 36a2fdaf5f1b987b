use Rattle.std.specs.Prelude.{◌↔◌, map, option_map, drop}
use Rattle.kt_types_tree.specs.Hierarchy.{hierarchy_form}
use Rattle.kt_decls_inherited.specs.Sights.{sight_form, types_form}
use Rattle.kt_decls_methods.specs.Overriding.{OverridesSights}
use Rattle.kt_decls_methods.proofs.overriding.overrides_all.Given as goal

abbrev pub invariant-loop-each : goal.invariant-loop-each
invariant-loop-each l =
    OverridesSights (hierarchy_form l.h) l.is_suspend (option_map types_form l.types) (map sight_form l.above) ↔ OverridesSights (hierarchy_form l.h) l.is_suspend (option_map types_form l.types) (map sight_form (drop l.each-index l.above))
