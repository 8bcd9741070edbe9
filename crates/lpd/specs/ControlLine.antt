-- The records for the code's lines of a control file and for its results.
use Rattle.std.specs.Prelude.{◌≡◌, Result, Ok, Err}
use Rattle.lpd.specs.declared.control.ControlFault.{ControlFault}
use Rattle.lpd.specs.declared.control.ControlError.{ControlError}
use Rattle.lpd.specs.declared.control.ControlError.TheVariants.{Fault, OutOfMemory}
use Rattle.lpd.specs.declared.control_line.ControlLine.{ControlLine}
use Rattle.lpd.specs.declared.control_line.ControlLine.TheVariants as line
use Rattle.lpd.specs.Control.{LineRecord, Host, User, JobName, SourceName, Prints, Ignored}

abbrev pub line_record : ControlLine → LineRecord
line_record (line.Host name) = Host name
line_record (line.User name) = User name
line_record (line.JobName name) = JobName name
line_record (line.SourceName name) = SourceName name
line_record (line.Prints print) = Prints print
line_record line.Ignored = Ignored

abbrev pub parsed_line : Result ControlLine ControlFault → Result LineRecord ControlFault
parsed_line (Ok parsed) = Ok (line_record parsed)
parsed_line (Err fault) = Err fault

-- a result is what the definition reads, unless memory ran out
abbrev pub Refuses : {X : Type 0} → ControlError → Result X ControlFault → Type 0
Refuses (Fault fault) read = read ≡ Err fault
Refuses OutOfMemory read = Unit {0}

abbrev pub Gives : {X : Type 0} → Result X ControlError → Result X ControlFault → Type 0
Gives (Ok value) read = read ≡ Ok value
Gives (Err error) read = Refuses error read
