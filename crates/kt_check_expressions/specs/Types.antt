-- Choices among types, which choose among expressions that differ in their types.
use Rattle.std.specs.Prelude.{Bool, true, false, List, Option, Some, None, find, option_map}
use Rattle.kt_types_tree.specs.Types.{TypeForm}
use Rattle.kt_types_tree.specs.Hierarchy.{HierarchyForm}
use Rattle.kt_tree.specs.declared.bodies.BinaryOperator.{BinaryOperator}
use Rattle.kt_typed.specs.declared.operators.Width.{Width}
use Rattle.kt_check_rules.specs.Choices.{first_of}
use Rattle.kt_check_rules.specs.Kinds.{width_of}
use Rattle.kt_check_rules.specs.States.{Context, hierarchy}
use Rattle.kt_check_rules.specs.Typings.{Use, unused, as_value, meeting}
use Rattle.kt_check_rules.specs.Operators as rules
use Rattle.kt_check_deciding.specs.Subtypes.{is_below}

-- the type that counts for a use
abbrev pub taken_type : Context → Use → List TypeForm → Option TypeForm
taken_type K (meeting t) ts = find (λ s. is_below (hierarchy K) s t) ts
taken_type K as_value ts = first_of ts
taken_type K unused ts = first_of ts

-- a number, with its width
pub record NumberForm : Type 0 where
  pub shown : TypeForm
  pub width : Width

abbrev pub with_width : TypeForm → Width → NumberForm
with_width t w = record { shown = t; width = w }

abbrev pub as_number : TypeForm → Option NumberForm
as_number t = option_map (with_width t) (width_of t)

-- an operation between two types
pub record OperandTypes : Type 0 where
  pub left : TypeForm
  pub right : TypeForm
  pub operation : rules.Operation

abbrev pub operands : TypeForm → TypeForm → rules.Operation → OperandTypes
operands s t o = record { left = s; right = t; operation = o }

abbrev pub operated : HierarchyForm → BinaryOperator → TypeForm → TypeForm → Option OperandTypes
operated h k s t = option_map (operands s t) (rules.operation h k s t)

abbrev pub operated_pair : HierarchyForm → BinaryOperator → (TypeForm × TypeForm) → Option OperandTypes
operated_pair h k (s, t) = operated h k s t
