-- What can be called, as the rules speak of it.
use Rattle.std.specs.Prelude.{List, map}
use Rattle.kt_types_tree.specs.Types.{type_form}
use Rattle.kt_typed.specs.Bodies.{callee_form}
use Rattle.kt_check_rules.specs.Calls as rules
use Rattle.kt_check_rules.specs.Calls.{Callable}
use Rattle.kt_check_calls.specs.declared.targets.Wanted.{Wanted}
use Rattle.kt_check_calls.specs.declared.targets.Wanted.TheVariants as wanted
use Rattle.kt_check_calls.specs.declared.targets.CallTarget.{CallTarget}
use Rattle.kt_check_calls.specs.declared.functions.NumberedFunction.{NumberedFunction}
use Rattle.kt_check_calls.specs.Lists.{NumberedForm, numbered}
use Rattle.kt_typed.specs.Headers.{function_form}

abbrev pub wanted_form : Wanted → rules.Wanted
wanted_form (wanted.OfType t) = rules.of_type (type_form t)
wanted_form wanted.Printed = rules.printed

abbrev pub target_form : CallTarget → Callable
target_form c =
    record {
      callee = callee_form c.callee;
      type_arguments = map type_form c.type_arguments;
      wanted = map wanted_form c.wanted;
      result = type_form c.gives;
      suspends = c.suspends;
    }

abbrev pub numbered_form : NumberedFunction → NumberedForm
numbered_form f = numbered f.number (function_form f.function.now)
