-- The text and the exit status for settings that are refused.
use Rattle.std.specs.Prelude.{ℕ, ◌≡◌, ◌⊎◌, List, take, Option, Some}
use Rattle.std.specs.Io.KnownBytes.{Appends}
use Rattle.settings_file.specs.Fault.{Fault, fault_words}
use Rattle.settings_file.specs.Reading.{IsFaultOf}
use Rattle.program.specs.Output.{ProgramOutput, refused_as}
use Rattle.program.specs.declared.exit_status.ExitStatus.{ExitStatus}
use Rattle.program.specs.declared.exit_status.ExitStatus.TheVariants as Ends

-- the text and the status for settings with a fault
abbrev pub settings_refused : Fault → ProgramOutput
settings_refused fault = refused_as (fault_words fault)

-- the line is written as a whole, with the status; or the writer failed, and a prefix of the line was written
abbrev pub WritesLine : List ℕ → Option (List ℕ) → Option (List ℕ) → ExitStatus → Type 0
WritesLine line held holds status = ((status ≡ Ends.Refused) × Appends held holds line) ⊎ ((status ≡ Ends.Failed) × (n : ℕ) × Appends held holds (take n line))

-- the line of a fault is written; or memory was refused, and nothing was written
abbrev pub RefusesAs : Option Fault → Option (List ℕ) → Option (List ℕ) → ExitStatus → Type 0
RefusesAs named held holds status =
    ((fault : Fault) × (named ≡ Some fault) × WritesLine (settings_refused fault).text held holds status) ⊎ ((status ≡ Ends.Failed) × (holds ≡ held))

-- the bytes have a fault, and its line is written; or memory was refused, and nothing was written
abbrev pub Refuses : List ℕ → Option (List ℕ) → Option (List ℕ) → ExitStatus → Type 0
Refuses bytes held holds status =
    ((fault : Fault) × IsFaultOf bytes fault × WritesLine (settings_refused fault).text held holds status) ⊎ ((status ≡ Ends.Failed) × (holds ≡ held))
