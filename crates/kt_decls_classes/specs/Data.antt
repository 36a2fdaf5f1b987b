-- What is told of a data class without its types.
use Rattle.std.specs.Prelude.{Bool, ◌&&◌, not, nat_le, length}
use Rattle.std.specs.List.{list_all}
use Rattle.kt_tree.specs.Declarations.{ClassTree}
use Rattle.kt_decls_rules.specs.ClassRules.{is_property}

abbrev pub is_data_shape : ClassTree → Bool
is_data_shape c =
    not c.modifiers.is_open
    && (not c.modifiers.is_abstract
    && (nat_le 1 (length c.parameters) && list_all (λ p. is_property p.kind) c.parameters))
