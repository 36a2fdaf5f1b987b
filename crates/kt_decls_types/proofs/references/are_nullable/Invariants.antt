use Rattle.std.specs.Prelude.{◌≡◌, map, drop}
use Rattle.kt_types_tree.specs.Types.{type_form}
use Rattle.kt_decls_types.specs.References.{all_nullable}
use Rattle.kt_decls_types.proofs.references.are_nullable.Given as goal

abbrev pub invariant-loop-each : goal.invariant-loop-each
invariant-loop-each l = all_nullable (map type_form l.types) ≡ all_nullable (map type_form (drop l.each-index l.types))
