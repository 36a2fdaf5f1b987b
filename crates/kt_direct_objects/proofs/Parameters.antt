-- The first properties of a class.
use Rattle.std.proofs.Common.{◌≡◌, ◌≤◌, ℕ, List, length, sym, ap, ◌∙◌}
use Rattle.std.specs.Prelude.{map, take}
use Rattle.std.proofs.lemmas.List.{length-map, take-map, take_all}
use Rattle.kt_typed.specs.declared.headers.ClassParameter.{ClassParameter}
use Rattle.kt_typed.specs.declared.headers.DeclaredProperty.{DeclaredProperty}
use Rattle.kt_typed.specs.Headers.{class_parameter_form, property_form}

pub taken_first : (ps : List ClassParameter) (all : List DeclaredProperty)
    → map property_form (take (length ps) all) ≡ take (length (map class_parameter_form ps)) (map property_form all)
taken_first ps all =
    sym (take-map property_form (length ps) all)
    ∙ ap (λ n. take n (map property_form all)) (sym (length-map ps class_parameter_form))

pub taken_all : (ps : List ClassParameter) (all : List DeclaredProperty) → length all ≤ length ps
    → map property_form all ≡ take (length (map class_parameter_form ps)) (map property_form all)
taken_all ps all le =
    ap (map property_form) (sym (take_all (length ps) all le)) ∙ taken_first ps all
