use Rattle.kt_base.proofs.RoundTrip.{round_trip}
use Rattle.kt_base.proofs.laws.utf8_of_utf16.Goals as goal

pub returns : goal.returns
returns c = round_trip
