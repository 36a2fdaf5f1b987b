-- Why a file wasn't run, by what the calls below answered.
use Rattle.kt_outside.specs.declared.outside.FileErr.{FileErr}
use Rattle.kt_outside.specs.declared.outside.FileErr.TheVariants as file
use Rattle.kt_base.specs.declared.refusals.FrontErr.{FrontErr}
use Rattle.kt_base.specs.declared.refusals.FrontErr.TheVariants as front
use Rattle.kt_first.specs.declared.reading.FirstErr.{FirstErr}
use Rattle.kt_first.specs.declared.reading.FirstErr.TheVariants as text
use Rattle.ktrun.specs.declared.running.Stop.{Stop}
use Rattle.ktrun.specs.declared.running.Stop.TheVariants as stop

abbrev pub stop_of_file : FileErr → Stop
stop_of_file file.Failed = stop.ReadFault
stop_of_file file.NoMemory = stop.NoMemory

abbrev pub stop_of_text : FirstErr → Stop
stop_of_text text.NotBuilt = stop.NotBuilt
stop_of_text text.NoMemory = stop.NoMemory

abbrev pub stop_of_source : FrontErr → Stop
stop_of_source (front.Refused r) = stop.Refused r
stop_of_source front.NoMemory = stop.NoMemory
