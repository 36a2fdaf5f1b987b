-- What a stack of frames means: what is made of the end of the part that runs.
use Rattle.std.specs.Prelude.{◌≡◌, List, [], ◌∷◌, map}
use Rattle.kt_typed.specs.Bodies.{block_form, catch_form, catches_of}
use Rattle.kt_values.specs.Values as v
use Rattle.kt_values.specs.Values.{Value}
use Rattle.kt_values.specs.Runs.{Run, Gives, Store, then_do, give}
use Rattle.kt_meaning.specs.Activations.{Activation}
use Rattle.kt_meaning.specs.Eval.{value_of_block, value_of_catches}
use Rattle.kt_meaning.specs.Exceptions.{and_last, or_caught}
use Rattle.kt_meaning.specs.Loops.{turned}
use Rattle.kt_meaning.specs.Units.{finished}
use Rattle.kt_direct_values.specs.Agree.{AgreesValue}
use Rattle.kt_direct_values.specs.Forms.{value_form}
use Rattle.kt_direct_scope.specs.Activation.{here_form}
use Rattle.kt_direct_frames.specs.declared.frames.Awaiting.{Awaiting}
use Rattle.kt_direct_frames.specs.declared.frames.Awaiting.TheVariants as awaiting
use Rattle.kt_direct_frames.specs.declared.frames.Frame.{Frame}
use Rattle.kt_direct_frames.specs.declared.frames.Frame.TheVariants as frame
use Rattle.kt_direct_frames.specs.declared.frames.Level.{Level}
use Rattle.kt_direct_frames.specs.declared.frames.Level.TheVariants as level
use Rattle.kt_direct_frames.specs.declared.frames.Next.{Next}
use Rattle.kt_direct_frames.specs.declared.frames.Next.TheVariants as next
use Rattle.kt_direct_frames.specs.Calls.{after_argument}
use Rattle.kt_direct_frames.specs.Choices.{after_choice}
use Rattle.kt_direct_frames.specs.Loops.{after_test, again}
use Rattle.kt_direct_frames.specs.Operands.{after_operand}
use Rattle.kt_direct_frames.specs.Parts.{part_run}
use Rattle.kt_direct_frames.specs.Results.{without_value}
use Rattle.kt_direct_frames.specs.Statements.{after_statement}
use Rattle.kt_direct_frames.specs.Texts.{after_comparison, after_text}

-- what is done with a value that is awaited
abbrev pub with_value : Activation → Awaiting → Value → Run Value
with_value here (awaiting.Operand a) = after_operand here a
with_value here (awaiting.Text a) = after_text here a
with_value here (awaiting.Comparison a) = after_comparison here a
with_value here (awaiting.Choice a) = after_choice here a
with_value here (awaiting.Test a) = after_test here a
with_value here (awaiting.Statement a) = after_statement here a
with_value here (awaiting.Argument a) = after_argument here a

abbrev pub unit_given : Gives (Unit {0}) → Gives Value
unit_given g = then_do g (λ u. give v.unit)

-- what a frame makes of the end of its part
abbrev pub after : Activation → Frame → Gives Value → Gives Value
after here (frame.Value a) g = then_do g (with_value here a)
after here (frame.Catches cs) g = or_caught g (value_of_catches here (catches_of (map catch_form cs.now)))
after here (frame.Last b) g = and_last g (value_of_block here (block_form b.now))
after here (frame.Turn t) g = unit_given (turned g (again here t))

-- what the levels of a stack, the top first, make of the end of the part on top
unfoldable pub resumed : Activation → List Level → Gives Value → Gives Value
resumed here [] g = g
resumed here (level.Frame f ∷ below) g = resumed here below (after here f g)
resumed here (level.Return caller variables ∷ below) g =
    resumed (here_form caller) below (finished (map value_form variables.items) (without_value g))
resumed here (level.Generated caller ∷ below) g = resumed (here_form caller) below g

-- what a step leads to, on the store behind it, ends so
abbrev pub Leads : Activation → Next → Store → Gives Value → Type 0
Leads here (next.Ended r) s g = AgreesValue r s g
Leads here (next.Part p) s g = g ≡ part_run here p s
Leads here (next.First p f) s g = g ≡ after here f (part_run here p s)

-- what is left of a machine, with its stack, ends as the whole does
pub record Stands (here : Activation) (levels : List Level) (n : Next) (s : Store) (whole : Gives Value) : Type 0 where
  pub ends : Gives Value
  pub leads : Leads here n s ends
  pub is : whole ≡ resumed here levels ends
