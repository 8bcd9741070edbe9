-- The output and the exit status of `printd replay`, for each trace.
use Rattle.std.specs.Prelude.{ℕ, suc, ◌≡◌, ◌⊎◌, Bool, List, [], ◌++◌, Option, Ok, MatchResult, codes, take}
use Rattle.std.specs.Str.{IsUtf8}
use Rattle.std.specs.Io.KnownBytes.{Appends}
use Rattle.base_types.specs.declared.limits.TheConstants.Limits.{INPUT_BYTES}
use Rattle.settings_file.specs.Settings.{ServerSettings, device_names}
use Rattle.settings_file.specs.Fault.{not_toml}
use Rattle.settings_file.specs.Reading.{settings_of}
use Rattle.print_room.specs.Opening.{opening}
use Rattle.server.specs.Ledger.{Ledger, opening_ledger}
use Rattle.server.specs.Turn.{Trace, Allows}
use Rattle.program.specs.declared.exit_status.ExitStatus.{ExitStatus}
use Rattle.program.specs.declared.exit_status.ExitStatus.TheVariants as Ends
use Rattle.program.specs.Input.{IsWhole, GaveMore}
use Rattle.program.specs.Output.{ProgramOutput, refused_as}
use Rattle.program.specs.RefusedSettings.{settings_refused}
use Rattle.traces.specs.Lines.{lines_of, IsSplit, HasNoStop}
use Rattle.replay.specs.Playing.{Standing, LinesPlay}

-- ---- the lines

-- a server that starts at moment 0, without connections
abbrev pub start : Standing
start = record { moment = 0; connections = []; peers = [] }

-- The text and the status of lines, of which the first has this number: those of the actions that a server with these settings takes for them from its start on.
pub record LinesGive (texts : Bool) (settings : ServerSettings) (number : ℕ) (lines : List (List ℕ)) (output : ProgramOutput) : Type 0 where
  pub actions : Trace
  pub ledger : Ledger
  pub plays : LinesPlay texts (device_names settings) number lines start actions output
  pub runs : Allows actions (opening_ledger (opening settings 1)) ledger

-- ---- a trace

-- the text and the status of settings, with the lines after the first `count` lines
abbrev pub SettingsGive : Bool → List ℕ → List ℕ → ℕ → ProgramOutput → Type 0
SettingsGive texts settings rest count output =
    (¬ (IsUtf8 settings) × (output ≡ settings_refused not_toml))
    ⊎ (IsUtf8 settings × MatchResult (settings_of settings)
    (λ read. LinesGive texts read (suc count) (lines_of rest) output)
    (λ fault. output ≡ settings_refused fault))

-- the text and the status of a trace; without the line that ends the settings it is refused
abbrev pub TraceGives : Bool → List ℕ → ProgramOutput → Type 0
TraceGives texts trace output =
    (HasNoStop trace × (output ≡ settings_refused not_toml))
    ⊎ ((settings : List ℕ) × (rest : List ℕ) × (count : ℕ) × IsSplit trace settings rest count × SettingsGive texts settings rest count output)

-- the text where memory was refused: that of a prefix of the lines
pub record FirstGive (texts : Bool) (settings rest : List ℕ) (count : ℕ) (left : List ℕ) : Type 0 where
  pub read : ServerSettings
  pub reads : settings_of settings ≡ Ok read
  pub first : List (List ℕ)
  pub others : List (List ℕ)
  pub lines : lines_of rest ≡ first ++ others
  pub gives : LinesGive texts read (suc count) first (record { text = left; status = Ends.Done })

abbrev pub SettingsLeave : Bool → List ℕ → List ℕ → ℕ → List ℕ → Type 0
SettingsLeave texts settings rest count left = (left ≡ []) ⊎ FirstGive texts settings rest count left

abbrev pub TraceLeaves : Bool → List ℕ → List ℕ → Type 0
TraceLeaves texts trace left =
    (left ≡ [])
    ⊎ ((settings : List ℕ) × (rest : List ℕ) × (count : ℕ) × IsSplit trace settings rest count × SettingsLeave texts settings rest count left)

-- ---- the program

-- the text and the status of an input, which is a whole trace or has too many bytes
abbrev pub InputGives : Bool → Option (List ℕ) → Option (List ℕ) → ProgramOutput → Type 0
InputGives texts before after output =
    ((trace : List ℕ) × IsWhole INPUT_BYTES before after trace × TraceGives texts trace output)
    ⊎ (GaveMore INPUT_BYTES before after × (output ≡ refused_as (codes "size")))

-- the text that is left to write if the program fails: none, that of a prefix of the lines, or all
abbrev pub InputLeaves : Bool → Option (List ℕ) → Option (List ℕ) → List ℕ → Type 0
InputLeaves texts before after left =
    (left ≡ [])
    ⊎ ((trace : List ℕ) × IsWhole INPUT_BYTES before after trace × TraceLeaves texts trace left)
    ⊎ ((output : ProgramOutput) × InputGives texts before after output × (left ≡ output.text))

-- The text of the input was written as a whole; or memory, the reader or the writer failed, and a prefix of the text so far was written.
abbrev pub Replays : Bool → Option (List ℕ) → Option (List ℕ) → Option (List ℕ) → Option (List ℕ) → ExitStatus → Type 0
Replays texts before after held holds status =
    ((output : ProgramOutput) × InputGives texts before after output × Appends held holds output.text × (status ≡ output.status))
    ⊎ ((status ≡ Ends.Failed) × (left : List ℕ) × (n : ℕ) × InputLeaves texts before after left × Appends held holds (take n left))
