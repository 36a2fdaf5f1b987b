use Rattle.std.specs.Prelude.{map}
use Rattle.std.proofs.Common.{◌∙◌}
use Rattle.kt_tree.specs.Declarations.{declaration_tree}
use Rattle.kt_typed.specs.Headers.{class_form, constant_form, function_form}
use Rattle.kt_decls_headers.proofs.Whole.{whole}
use Rattle.kt_decls_headers.proofs.files.headers.Goals as goal

pub returns-clause-headers : goal.returns-clause-headers
returns-clause-headers c = whole (map declaration_tree c.args.file.now) c.args.facts c.requires.known c.as_slice.result.now (c.as_slice.ensures ∙ c.in_ok-places.ensures) (map class_form c.in_ok-classes.classes) (map function_form c.in_ok-functions.functions) (map constant_form c.in_ok-constants.constants) c.in_ok-order.order c.in_ok-classes.ensures c.in_ok-functions.ensures c.in_ok-constants.ensures c.in_ok-order.ensures
