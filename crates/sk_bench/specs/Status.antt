-- The statuses and their numbers.
use Rattle.std.specs.Prelude.{ℕ}
use Rattle.sk_base.specs.declared.errors.FileFault.{FileFault}
use Rattle.sk_base.specs.declared.errors.FileFault.TheVariants as fault
use Rattle.sk_bench.specs.declared.status.Status.{Status}
use Rattle.sk_bench.specs.declared.status.Status.TheVariants as status
use Rattle.sk_bench.specs.declared.status.Ending.{Ending}
use Rattle.sk_bench.specs.declared.status.Ending.TheVariants as ending
use Rattle.sk_bench.specs.declared.status.Stop.{Stop}
use Rattle.sk_bench.specs.declared.status.Stop.TheVariants as stop

-- the status of a command that wrote its text
abbrev pub status_of : Ending → Status
status_of ending.Done = status.Done
status_of ending.No = status.No
status_of ending.Definition = status.Definition
status_of ending.Job = status.Job
status_of ending.Table = status.Table

-- the status of a command that had nothing to write
abbrev pub stop_status : Stop → Status
stop_status stop.ReadFault = status.ReadFault
stop_status stop.TooLong = status.TooLong
stop_status stop.NoMemory = status.NoMemory

-- why a command stops where a file was not read
abbrev pub stop_of : FileFault → Stop
stop_of fault.Failed = stop.ReadFault
stop_of fault.TooLong = stop.TooLong
stop_of fault.NoMemory = stop.NoMemory

-- the number that the process ends with
abbrev pub number_of : Status → ℕ
number_of status.Done = 0
number_of status.No = 1
number_of status.Usage = 2
number_of status.Definition = 3
number_of status.Job = 4
number_of status.Table = 5
number_of status.ReadFault = 6
number_of status.WriteFault = 7
number_of status.NoMemory = 8
number_of status.TooLong = 9
