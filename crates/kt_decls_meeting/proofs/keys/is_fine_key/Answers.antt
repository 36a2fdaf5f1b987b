use Rattle.std.specs.Prelude.{map}
use Rattle.std.proofs.Common.{sym, ◌∙◌}
use Rattle.std.proofs.lemmas.List.{length-map}
use Rattle.kt_tree.specs.Declarations.{declaration_tree, typed_parameter_tree}
use Rattle.kt_decls_meeting.proofs.KeysParted.{renamed}
use Rattle.kt_decls_rules.specs.ClassRules.{IsFineAbove}
use Rattle.kt_decls_meeting.proofs.keys.is_fine_key.Goals as goal

pub returns : goal.returns
returns c = renamed (IsFineAbove (map declaration_tree c.args.file.now) c.args.row c.args.needs_bodies c.args.is_data (declaration_tree c.args.declaration.now)) c.as_bytes-name.ensures.value (c.len-count.ensures ∙ sym (length-map c.args.function.now.parameters typed_parameter_tree)) c.is_fine_above.result c.is_fine_above.ensures
