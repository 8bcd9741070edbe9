-- The content of a trace's line after the settings.
use Rattle.std.specs.Prelude.{ℕ, ◌≡◌, ◌≢◌, ◌^◌, ◌-◌, List, [], ◌++◌, codes, position, Option, Some, None}
use Rattle.std.specs.Str.{bytes_eq}
use Rattle.hex.specs.Hex.{encode_lower, IsBytes}
use Rattle.base_types.specs.declared.limits.TheConstants.Limits.{LAST_MOMENT}
use Rattle.base_types.specs.declared.report.Report.{Report}
use Rattle.base_types.specs.Report.{report_of}
use Rattle.text.specs.Digits.{number_up_to}
use Rattle.text.specs.Parts.{IsCut}
use Rattle.device_link.specs.Line.{reported_by}
use Rattle.traces.specs.declared.line.Line.{Line}
use Rattle.wires.specs.declared.wire.Door.{Door}
use Rattle.wires.specs.Door.{IsWordOf}
use Rattle.traces.specs.declared.line.Line.TheVariants.{At, Ipp, Device, Tick, Open, In, End}

-- the digits are a moment up to LAST_MOMENT in decimal
abbrev pub IsMomentIn : List ℕ → ℕ → Type 0
IsMomentIn digits moment = number_up_to LAST_MOMENT digits ≡ Some moment

-- the digits are a body that isn't empty, in lower-case hexadecimal
pub record IsBodyIn (digits body : List ℕ) : Type 0 where
  pub some : body ≢ []
  pub bytes : IsBytes body
  pub written : digits ≡ encode_lower body

-- the line is a report that a device may send once it has given its name
abbrev pub IsReportIn : List ℕ → Report → Type 0
IsReportIn line report = reported_by line ≡ Some (report_of report)

-- the text is the name of the device at this place, and of none before it, a space and such a line
pub record IsDeviceIn (names : List (List ℕ)) (text : List ℕ) (place : ℕ) (report : Report) : Type 0 where
  pub name : List ℕ
  pub line : List ℕ
  pub cut : IsCut 32 text name line
  pub known : position (λ device. bytes_eq device name) names ≡ Some place
  pub is_report : IsReportIn line report

-- the digits are the number of a connection, below 2^31, in decimal
abbrev pub IsNumberIn : List ℕ → ℕ → Type 0
IsNumberIn digits number = number_up_to (2 ^ 31 - 1) digits ≡ Some number

-- the text is a number, a space and the word of a door
pub record IsOpeningIn (text : List ℕ) (number : ℕ) (door : Door) : Type 0 where
  pub digits : List ℕ
  pub word : List ℕ
  pub cut : IsCut 32 text digits word
  pub numbered : IsNumberIn digits number
  pub named : IsWordOf word door

-- the text is a number, a space and bytes
pub record IsInputIn (text : List ℕ) (number : ℕ) (bytes : List ℕ) : Type 0 where
  pub digits : List ℕ
  pub written : List ℕ
  pub cut : IsCut 32 text digits written
  pub numbered : IsNumberIn digits number
  pub body : IsBodyIn written bytes

-- the text is a line with this content, where the devices have these names
abbrev pub IsLine : List (List ℕ) → List ℕ → Line → Type 0
IsLine names text (At moment) = (digits : List ℕ) × (text ≡ codes "at " ++ digits) × IsMomentIn digits moment
IsLine names text (Ipp body) = (digits : List ℕ) × (text ≡ codes "ipp " ++ digits) × IsBodyIn digits body.items
IsLine names text (Device place report) = (operands : List ℕ) × (text ≡ codes "dev " ++ operands) × IsDeviceIn names operands place report
IsLine names text Tick = text ≡ codes "tick"
IsLine names text (Open opening) = (operands : List ℕ) × (text ≡ codes "open " ++ operands) × IsOpeningIn operands opening.number opening.door
IsLine names text (In input) = (operands : List ℕ) × (text ≡ codes "in " ++ operands) × IsInputIn operands input.number input.bytes.items
IsLine names text (End number) = (digits : List ℕ) × (text ≡ codes "end " ++ digits) × IsNumberIn digits number

-- the result has the property; without a result nothing has it
abbrev pub Finds : {A : Type 0} → (A → Type 0) → Option A → Type 0
Finds Is (Some it) = Is it
Finds Is None = (it : _) → Is it → ⊥
