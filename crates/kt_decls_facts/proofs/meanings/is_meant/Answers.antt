use Rattle.std.specs.Prelude.{map, option_map}
use Rattle.std.proofs.Common.{ap}
use Rattle.kt_tree.specs.Declarations.{declaration_tree}
use Rattle.kt_tree.specs.Types.{type_tree}
use Rattle.kt_types_tree.specs.Types.{type_form}
use Rattle.kt_decls_facts.proofs.MeantSo.{none_meant, some_meant}
use Rattle.kt_decls_facts.proofs.meanings.is_meant.Goals as goal

pub is_within_bounds-requires : goal.is_within_bounds-requires
is_within_bounds-requires c = c.requires.known.leads.ending

pub returns-in-None : goal.returns-in-None
returns-in-None c = none_meant (map declaration_tree c.args.file.now) c.args.facts.now c.requires.known c.args.scope.now (type_tree c.args.written.now) (option_map type_form c.in_ok-found.found) c.in_ok-found.ensures (ap (option_map type_form) c.in-None.is)

pub returns-in-Some : goal.returns-in-Some
returns-in-Some c = some_meant (map declaration_tree c.args.file.now) c.args.facts.now c.requires.known c.args.scope.now (type_tree c.args.written.now) (option_map type_form c.in_ok-found.found) c.in_ok-found.ensures (type_form c.in-Some.meant) c.is_within_bounds.result (ap (option_map type_form) c.in-Some.is) c.is_within_bounds.ensures
