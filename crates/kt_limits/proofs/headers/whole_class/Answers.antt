use Rattle.std.proofs.Common.{map}
use Rattle.std.specs.List.{flat_map}
use Rattle.kt_typed.specs.Headers.{class_form}
use Rattle.kt_limits.specs.Parts.{entry_header, member_headers, class_header}
use Rattle.kt_limits.specs.Walking.{step}
use Rattle.kt_limits.proofs.Walks.{exits}
use Rattle.kt_limits.proofs.Steps.{class_on, class_stops}
use Rattle.kt_limits.proofs.headers.whole_class.Goals as goal

pub returns-in_err-with_entries : goal.returns-in_err-with_entries
returns-in_err-with_entries c =
    exits c.from_residual-in_err-with_entries.result c.in_err-with_entries.field-0.0 _ c.from_residual-in_err-with_entries.ensures.1
    (class_stops (step 0 (class_header c.args.supertypes (class_form c.args.class.now))) (map entry_header c.args.class.now.entries)
    (flat_map (member_headers (class_form c.args.class.now)) c.args.class.now.members) c.in_ok-with_class.with_class
    c.in_err-with_entries.field-0.0 c.in_ok-with_class.ensures (rw c.as_slice.ensures at c.in_err-with_entries.ensures))

pub returns : goal.returns
returns c =
    class_on (step 0 (class_header c.args.supertypes (class_form c.args.class.now))) (map entry_header c.args.class.now.entries)
    (flat_map (member_headers (class_form c.args.class.now)) c.args.class.now.members) c.in_ok-with_class.with_class
    c.in_ok-with_entries.with_entries c.member_headers.result c.in_ok-with_class.ensures (rw c.as_slice.ensures at c.in_ok-with_entries.ensures) c.member_headers.ensures
