use Rattle.std.proofs.Common.{map}
use Rattle.kt_types_tree.specs.Types.{forms_of, type_form}
use Rattle.kt_types_tree.specs.Sizes.{type_size, forms_size}
use Rattle.kt_types_climbing.specs.Reading.{layers, read_all, read_of}
use Rattle.kt_types_climbing.proofs.reading.+reading.Given as goal

abbrev pub decreases-are_read_alike : goal.decreases-are_read_alike
decreases-are_read_alike l = forms_size (read_all (layers l.environment.now) (forms_of (map type_form l.all.now)))

abbrev pub decreases-is_read_alike : goal.decreases-is_read_alike
decreases-is_read_alike l = type_size (read_of l.a.now)
