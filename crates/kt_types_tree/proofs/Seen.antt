-- The form of each shape.
use Rattle.std.proofs.Common.{◌≡◌, ℕ, List, Some, None, map, ap, sym, refl, ◌∙◌}
use Rattle.std.specs.Prelude.{slice_get}
use Rattle.std.proofs.lemmas.Option.{slice_get-map}
use Rattle.kt_types_tree.specs.Types.{ShapeForm, TypeForm, typed, nothing, any, parameter, of, forms_of, shape_form, type_form, shape_seen, type_seen}
use Rattle.kt_types_tree.specs.declared.types.TypeConstructor.{TypeConstructor}
use Rattle.kt_types_tree.specs.declared.types.KtType.{KtType}
use Rattle.kt_types_tree.specs.declared.types.TypeShape.TheVariants as s
use Rattle.kt_types_tree.specs.declared.types.TypeShape.TheOpen.{TypeShape-F}
use Rattle.kt_types_tree.specs.declared.types.TypeShape.TheFolds.{fold-roll-TypeShape, fold-roll-KtType}

pub seen_type : (t : KtType) → type_form t ≡ typed t.nullable (shape_form t.shape)
seen_type t = fold-roll-KtType ShapeForm TypeForm shape_seen type_seen (record { nullable = t.nullable; shape = t.shape })

pub seen_nothing : shape_form s.Nothing ≡ nothing
seen_nothing = ap shape_form (sym s.rolls-Nothing) ∙ fold-roll-TypeShape ShapeForm TypeForm shape_seen type_seen TypeShape-F.Nothing

pub seen_any : shape_form s.Any ≡ any
seen_any = ap shape_form (sym s.rolls-Any) ∙ fold-roll-TypeShape ShapeForm TypeForm shape_seen type_seen TypeShape-F.Any

pub seen_parameter : (row place : ℕ) → shape_form (s.Parameter row place) ≡ parameter row place
seen_parameter row place = ap shape_form (sym (s.rolls-Parameter row place)) ∙ fold-roll-TypeShape ShapeForm TypeForm shape_seen type_seen (TypeShape-F.Parameter row place)

pub seen_of : (c : TypeConstructor) (ts : List KtType) → shape_form (s.Of c ts) ≡ of c (forms_of (map type_form ts))
seen_of c ts = ap shape_form (sym (s.rolls-Of c ts)) ∙ fold-roll-TypeShape ShapeForm TypeForm shape_seen type_seen (TypeShape-F.Of c ts)

-- the bound in a row, as the code meets it
pub seen_bound : (items bounds : List KtType) (row : ℕ) (t : KtType) → items ≡ bounds → slice_get items row ≡ Some t → slice_get (map type_form bounds) row ≡ Some (typed t.nullable (shape_form t.shape))
seen_bound items bounds row t e h = rw (← e, slice_get-map type_form items row, h) (ap Some (seen_type t))

pub seen_no_bound : (items bounds : List KtType) (row : ℕ) → items ≡ bounds → slice_get items row ≡ None → slice_get (map type_form bounds) row ≡ None
seen_no_bound items bounds row e h = rw (← e, slice_get-map type_form items row, h) refl
