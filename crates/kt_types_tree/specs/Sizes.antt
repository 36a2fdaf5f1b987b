-- How many nodes a type has.
use Rattle.std.specs.Prelude.{ℕ, ◌+◌}
use Rattle.kt_types_tree.specs.Types.{TypeForm, TypeForms, ShapeForm, typed, nothing, any, parameter, of, forms_end, form_then}

abbrev mutual
  pub type_size : TypeForm → ℕ
  type_size (typed n s) = shape_size s + 1

  pub shape_size : ShapeForm → ℕ
  shape_size nothing = 1
  shape_size any = 1
  shape_size (parameter row place) = 1
  shape_size (of c ts) = forms_size ts + 1

  pub forms_size : TypeForms → ℕ
  forms_size forms_end = 1
  forms_size (form_then t ts) = type_size t + forms_size ts + 1
