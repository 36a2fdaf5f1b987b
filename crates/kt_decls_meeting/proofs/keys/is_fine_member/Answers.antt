use Rattle.std.specs.Prelude.{map}
use Rattle.kt_tree.specs.Declarations.{declaration_tree, function_tree}
use Rattle.kt_decls_bounds.proofs.Deciding.{always}
use Rattle.kt_decls_rules.specs.ClassRules.{IsFineAbove}
use Rattle.kt_decls_meeting.proofs.KeysParted.{one_key}
use Rattle.kt_decls_meeting.proofs.keys.is_fine_member.Goals as goal

pub returns-in-Method : goal.returns-in-Method
returns-in-Method c = rw c.in-Method.is (one_key (IsFineAbove (map declaration_tree c.args.file.now) c.args.row c.args.needs_bodies c.args.is_data (declaration_tree c.args.declaration.now)) (function_tree c.in-Method.function) c.is_fine_key.result c.is_fine_key.ensures)

pub returns-in-Property : goal.returns-in-Property
returns-in-Property c = rw c.in-Property.is (always tt)
