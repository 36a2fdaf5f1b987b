use Rattle.std.specs.Prelude.{map}
use Rattle.kt_types_tree.specs.Types.{type_form}
use Rattle.kt_decls_methods.proofs.Forms.{forms_told}
use Rattle.kt_decls_methods.proofs.overriding.have_same_known_parameters.Goals as goal

pub returns : goal.returns
returns c = forms_told c.are_same.result (map type_form c.args.a.now.parameters) (map type_form c.args.b.now.parameters) (rw c.as_slice.ensures at (rw c.as_slice-2.ensures at c.are_same.ensures))
