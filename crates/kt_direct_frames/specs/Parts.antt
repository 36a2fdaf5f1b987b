-- What a part means: a run with a value.
use Rattle.std.specs.Prelude.{false, map}
use Rattle.kt_typed.specs.Bodies.{block_form, catch_form, catches_of, expression_form, statement_form, statements_of}
use Rattle.kt_values.specs.Values.{Value}
use Rattle.kt_values.specs.Runs.{Run}
use Rattle.kt_meaning.specs.Activations.{Activation}
use Rattle.kt_meaning.specs.Equality.{compared}
use Rattle.kt_meaning.specs.Eval.{act, act_all, value_of, value_of_block, value_of_catches}
use Rattle.kt_meaning.specs.Exceptions.{caught_by}
use Rattle.kt_meaning.specs.Operators.{applied}
use Rattle.kt_meaning.specs.Printing.{text_of}
use Rattle.kt_direct_values.specs.Forms.{value_form}
use Rattle.kt_direct_frames.specs.declared.parts.Part.{Part}
use Rattle.kt_direct_frames.specs.declared.parts.Part.TheVariants as part
use Rattle.kt_direct_frames.specs.Calls.{called_form}
use Rattle.kt_direct_frames.specs.Choices.{rest_of_when}
use Rattle.kt_direct_frames.specs.Results.{as_text_value, as_truth_value, as_unit}

abbrev pub part_run : Activation → Part → Run Value
part_run here (part.Expression e) = value_of here (expression_form e.now)
part_run here (part.Block b) = value_of_block here (block_form b.now)
part_run here (part.Statements ss) = as_unit (act_all here (statements_of (map statement_form ss.now)))
part_run here (part.Statement s) = as_unit (act here (statement_form s.now))
part_run here (part.Try b cs) =
    caught_by (value_of_block here (block_form b.now)) (value_of_catches here (catches_of (map catch_form cs.now)))
part_run here (part.Conditions w) = rest_of_when here w
part_run here (part.Call c arguments) = here.call (called_form c) (map value_form arguments.items)
part_run here (part.Text x) = as_text_value (text_of here (value_form x))
part_run here (part.Comparison is_null x y) = as_truth_value (compared here is_null (value_form x) (value_form y))
part_run here (part.Operation o x y) = applied here o false (value_form x) (value_form y)
