use Rattle.std.specs.Prelude.{◌≡◌, map, drop}
use Rattle.kt_decls_types.specs.Scopes.{class_named}
use Rattle.kt_tree.specs.Declarations.{supertype_tree}
use Rattle.kt_decls_headers.specs.Classes.{superclass_of}
use Rattle.kt_decls_headers.proofs.parts.superclass.Given as goal

abbrev pub invariant-loop-each : goal.invariant-loop-each
invariant-loop-each l =
    superclass_of (class_named l.classes) l.scope (map supertype_tree l.written) ≡ superclass_of (class_named l.classes) l.scope (map supertype_tree (drop l.each-index l.written))
