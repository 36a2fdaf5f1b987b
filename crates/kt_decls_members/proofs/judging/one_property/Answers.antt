use Rattle.std.specs.Prelude.{map}
use Rattle.kt_tree.specs.Declarations.{declaration_tree, property_tree}
use Rattle.kt_decls_names.specs.Taken.{is_taken}
use Rattle.kt_decls_rules.specs.Names.{a_value}
use Rattle.kt_decls_rules.specs.ClassRules.{IsFineProperty}
use Rattle.kt_decls_members.proofs.MembersJudged.{placed}
use Rattle.kt_decls_members.proofs.judging.one_property.Goals as goal

pub returns-clause-fine : goal.returns-clause-fine
returns-clause-fine c = placed (λ row scope earlier. IsFineProperty (map declaration_tree c.args.file.now) row scope earlier (property_tree c.args.property.now)) c.args.row c.args.scope.now c.in_ok-is_free.is_free (is_taken c.args.taken.now) (a_value c.args.property.now.name) c.in_ok-is_free.ensures.free c.is_fine_property.result c.is_fine_property.ensures
