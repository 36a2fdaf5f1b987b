use Rattle.std.specs.Prelude.{◌≡◌, [], map, drop}
use Rattle.kt_tree.specs.Types.{type_tree, types_of}
use Rattle.kt_types_tree.specs.Types.{type_form}
use Rattle.kt_decls_types.specs.References.{resolved_all}
use Rattle.kt_decls_types.specs.Scopes.{class_named}
use Rattle.kt_decls_types.proofs.references.+resolved.Given as goal

abbrev pub invariant-resolved_all-loop-each : goal.invariant-resolved_all-loop-each
invariant-resolved_all-loop-each l =
    resolved_all (class_named l.classes) l.parameters [] (types_of (map type_tree l.written)) ≡ resolved_all (class_named l.classes) l.parameters (map type_form l.done) (types_of (map type_tree (drop l.each-index l.written)))
