-- Literals with their types, as they are seen.
use Rattle.kt_types_tree.specs.Types.{type_form}
use Rattle.kt_typed.specs.Bodies.{ExpressionForm, literal}
use Rattle.kt_check_expressions.specs.declared.literals.LiteralType.{LiteralType}

abbrev pub literal_form : LiteralType → ExpressionForm
literal_form l = literal (type_form l.shown) l.literal
