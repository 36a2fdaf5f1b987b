use Rattle.std.proofs.Common.{map}
use Rattle.kt_types_tree.specs.Types.{type_form, shape_form, forms_of}
use Rattle.kt_types_tree.specs.Sizes.{shape_size, forms_size}
use Rattle.kt_types_tree.proofs.equality.+equality.Given as goal

abbrev pub decreases-is_same_shape : goal.decreases-is_same_shape
decreases-is_same_shape l = shape_size (shape_form l.a.now)

abbrev pub decreases-are_same : goal.decreases-are_same
decreases-are_same l = forms_size (forms_of (map type_form l.all.now))
