-- What the code holds of what leaves.
use Rattle.std.specs.Prelude.{◌++◌, option_to_list}
use Rattle.mach_value.specs.declared.exporting.Opening.{Opening}
use Rattle.mach_value.specs.Exports.{Opened}

abbrev pub opening : Opening → Opened
opening o = record { node = o.node; fields = option_to_list o.message ++ o.fields.now }
