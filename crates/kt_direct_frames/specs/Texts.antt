-- What is done with texts, and with the outcome of comparisons.
use Rattle.std.specs.Prelude.{Bool, false, not, cond, codes, map}
use Rattle.kt_typed.specs.Bodies.{part_form, parts_of}
use Rattle.kt_typed.specs.Headers.{property_form}
use Rattle.kt_values.specs.Values as v
use Rattle.kt_values.specs.Values.{Value, as_text, as_truth}
use Rattle.kt_values.specs.Runs.{Run, ◌>>=◌, give, or_unfit}
use Rattle.kt_meaning.specs.Activations.{Activation}
use Rattle.kt_meaning.specs.BuiltIns.{printed}
use Rattle.kt_meaning.specs.Equality.{properties_equal}
use Rattle.kt_meaning.specs.Eval.{text_of_parts}
use Rattle.kt_meaning.specs.Printing.{joined, put_properties, text_of}
use Rattle.kt_direct_values.specs.Forms.{value_form}
use Rattle.kt_direct_frames.specs.declared.texts.AfterComparison.{AfterComparison}
use Rattle.kt_direct_frames.specs.declared.texts.AfterComparison.TheVariants as compared
use Rattle.kt_direct_frames.specs.declared.texts.AfterText.{AfterText}
use Rattle.kt_direct_frames.specs.declared.texts.AfterText.TheVariants as after
use Rattle.kt_direct_frames.specs.Results.{as_text_value, as_truth_value}

abbrev pub after_text : Activation → AfterText → Value → Run Value
after_text here after.Answer x = as_text_value (or_unfit (as_text x))
after_text here (after.Printed done ps) x =
    text_of here x >>= λ t. joined done t >>= λ more. text_of_parts here more (parts_of (map part_form ps.now))
after_text here (after.Part done ps) x =
    or_unfit (as_text x) >>= λ t. joined done t >>= λ more. text_of_parts here more (parts_of (map part_form ps.now))
after_text here after.Print x = or_unfit (as_text x) >>= printed
after_text here (after.Left y) x =
    or_unfit (as_text x) >>= λ t. text_of here (value_form y) >>= λ u. as_text_value (joined t u)
after_text here (after.Right t) x = or_unfit (as_text x) >>= λ u. as_text_value (joined t u)
after_text here (after.Property object named slot ps) x =
    or_unfit (as_text x) >>= λ t. joined named t >>= λ more.
    as_text_value (put_properties here (value_form object) more (codes ", ") slot (map property_form ps.now))

abbrev pub after_comparison : Activation → AfterComparison → Value → Run Value
after_comparison here compared.Answer x = as_truth_value (or_unfit (as_truth x))
after_comparison here compared.Not x = or_unfit (as_truth x) >>= λ b. give (v.truth (not b))
after_comparison here (compared.Properties a b slot ps) x =
    or_unfit (as_truth x) >>= λ same.
    as_truth_value (cond same (properties_equal here (value_form a) (value_form b) slot (map property_form ps.now)) (give false))
