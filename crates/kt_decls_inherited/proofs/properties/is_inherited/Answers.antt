use Rattle.std.specs.Prelude.{map}
use Rattle.kt_tree.specs.Declarations.{declaration_tree}
use Rattle.kt_decls_inherited.proofs.Told.{properties_told}
use Rattle.kt_decls_inherited.proofs.properties.is_inherited.Goals as goal

pub returns : goal.returns
returns c = properties_told (map declaration_tree c.args.file.now) c.args.facts.now c.requires.known c.args.places.now c.requires.places c.len.result c.args.row c.len.ensures c.args.name.now c.is_above.result c.is_above.ensures
