-- The typed unit of a file as definitions match on it.
use Rattle.std.specs.Prelude.{List, Option, Some, None, map}
use Rattle.kt_typed.specs.declared.bodies.TypedFun.{TypedFun}
use Rattle.kt_typed.specs.declared.units.TypedClass.{TypedClass}
use Rattle.kt_typed.specs.declared.units.TypedUnit.{TypedUnit}
use Rattle.kt_typed.specs.Bodies.{FunForm, fun_form}
use Rattle.kt_typed.specs.Headers.{HeadersForm, headers_form}

abbrev pub maybe_fun : Option TypedFun → Option FunForm
maybe_fun None = None
maybe_fun (Some f) = Some (fun_form f)

-- the bodies of a class
pub record ClassBodies : Type 0 where
  pub constructor : Option FunForm
  pub functions : List (Option FunForm)

abbrev pub class_bodies : TypedClass → ClassBodies
class_bodies c = record { constructor = maybe_fun c.constructor; functions = map maybe_fun c.functions }

-- the headers, and the bodies of functions and of classes
pub record UnitForm : Type 0 where
  pub headers : HeadersForm
  pub functions : List FunForm
  pub classes : List ClassBodies

abbrev pub unit_form : TypedUnit → UnitForm
unit_form u =
    record {
      headers = headers_form u.headers;
      functions = map fun_form u.functions;
      classes = map class_bodies u.classes;
    }
