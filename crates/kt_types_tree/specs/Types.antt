-- Types as definitions match on them.
use Rattle.std.specs.Prelude.{ℕ, zero, suc, Bool, false, List, [], ◌∷◌, ◌||◌}
use Rattle.kt_types_tree.specs.declared.types.TypeConstructor.{TypeConstructor}
use Rattle.kt_types_tree.specs.declared.types.KtType.{KtType}
use Rattle.kt_types_tree.specs.declared.types.TypeShape.{TypeShape}
use Rattle.kt_types_tree.specs.declared.types.TypeShape.TheOpen.{TypeShape-F, KtType-F}
use Rattle.kt_types_tree.specs.declared.types.TypeShape.TheFolds.{fold-TypeShape, fold-KtType}

mutual
  -- whether `?` stands behind it, and what stands before
  pub data TypeForm : Type 0 where
    typed : Bool → ShapeForm → TypeForm

  pub data ShapeForm : Type 0 where
    nothing : ShapeForm
    any : ShapeForm
    parameter : (row place : ℕ) → ShapeForm
    of : TypeConstructor → TypeForms → ShapeForm

  pub data TypeForms : Type 0 where
    forms_end : TypeForms
    form_then : TypeForm → TypeForms → TypeForms

abbrev pub forms_of : List TypeForm → TypeForms
forms_of [] = forms_end
forms_of (t ∷ ts) = form_then t (forms_of ts)

-- one node, with each child already seen as its form
abbrev pub shape_seen : TypeShape-F ShapeForm TypeForm → ShapeForm
shape_seen TypeShape-F.Nothing = nothing
shape_seen TypeShape-F.Any = any
shape_seen (TypeShape-F.Parameter row place) = parameter row place
shape_seen (TypeShape-F.Of c ts) = of c (forms_of ts)

abbrev pub type_seen : KtType-F ShapeForm TypeForm → TypeForm
type_seen t = typed t.nullable t.shape

abbrev pub shape_form : TypeShape → ShapeForm
shape_form = fold-TypeShape ShapeForm TypeForm shape_seen type_seen

abbrev pub type_form : KtType → TypeForm
type_form = fold-KtType ShapeForm TypeForm shape_seen type_seen

-- the type, and null where so
abbrev pub or_null : Bool → TypeForm → TypeForm
or_null n (typed m s) = typed (m || n) s

-- the argument at a place; a parameter for which there is none stands for itself
abbrev pub argument_at : TypeForms → ℕ → ShapeForm → TypeForm
argument_at forms_end place s = typed false s
argument_at (form_then t ts) zero s = t
argument_at (form_then t ts) (suc place) s = argument_at ts place s

-- with an argument for each parameter
abbrev mutual
  pub substituted : TypeForms → TypeForm → TypeForm
  substituted with (typed n s) = or_null n (substituted_shape with s)

  pub substituted_shape : TypeForms → ShapeForm → TypeForm
  substituted_shape with nothing = typed false nothing
  substituted_shape with any = typed false any
  substituted_shape with (parameter row place) = argument_at with place (parameter row place)
  substituted_shape with (of c ts) = typed false (of c (substituted_all with ts))

  pub substituted_all : TypeForms → TypeForms → TypeForms
  substituted_all with forms_end = forms_end
  substituted_all with (form_then t ts) = form_then (substituted with t) (substituted_all with ts)
