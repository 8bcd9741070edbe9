-- The reports in the whole lines of a device's stream, and then a fault or an unfinished line.
use Rattle.std.specs.Prelude.{ℕ, ◌≡◌, ◌+◌, Bool, true, false, if◌then◌else◌, List, [], ◌∷◌, ◌++◌, length, take, drop, Option, Some, None, Result, Ok, Err}
use Rattle.text.specs.Parts.{texts_of}
use Rattle.text.specs.FirstLine.{first_line_of}
use Rattle.text.specs.declared.line.FirstLine.TheVariants.{Whole}
use Rattle.base_types.specs.declared.limits.TheConstants.Limits.{DEVICE_LINE_BYTES}
use Rattle.base_types.specs.declared.report.Report.{Report}
use Rattle.base_types.specs.Report.{ReportRecord, report_of}
use Rattle.device_link.specs.declared.fault.LinkFault.{LinkFault}
use Rattle.device_link.specs.declared.fault.LinkFault.TheVariants.{BadLine, LineTooLong}
use Rattle.device_link.specs.declared.fault.LinkError.{LinkError}
use Rattle.device_link.specs.declared.fault.LinkError.TheVariants.{Fault, OutOfMemory}
use Rattle.device_link.specs.Line.{fits, report_in}

pub data Ending : Type 0 where
  Unfinished : Ending
  Faulty : LinkFault → Ending

pub record ParsedLines : Type 0 where
  pub reports : List ReportRecord
  pub ending : Ending

abbrev pub silence : Ending → ParsedLines
silence ending = record { reports = []; ending = ending }

-- these reports, before the later reports
abbrev pub with_prefix : List ReportRecord → ParsedLines → ParsedLines
with_prefix reports later = record { reports = reports ++ later.reports; ending = later.ending }

-- the report of a line, before the later reports; a line that isn't a report is a fault, and the end
abbrev pub parsed_after : Option ReportRecord → ParsedLines → ParsedLines
parsed_after None later = silence (Faulty BadLine)
parsed_after (Some report) later = with_prefix (report ∷ []) later

-- the reports in the texts between line feeds; the last text isn't a whole line yet
abbrev pub parsed_in : Bool → List (List ℕ) → ParsedLines
parsed_in greeted [] = silence Unfinished
parsed_in greeted (rest ∷ []) = if fits rest then silence Unfinished else silence (Faulty LineTooLong)
parsed_in greeted (line ∷ next ∷ more) =
    if fits line then parsed_after (report_in greeted line) (parsed_in true (next ∷ more)) else silence (Faulty LineTooLong)

-- the reports of a whole stream of bytes
abbrev pub device_reports : List ℕ → ParsedLines
device_reports stream = parsed_in false (texts_of stream)

-- a whole line at the beginning is a report, and these bytes are after it
pub record ParsesAtPrefix (greeted : Bool) (bytes : List ℕ) (report : ReportRecord) (rest : List ℕ) : Type 0 where
  pub count : ℕ
  pub line : first_line_of DEVICE_LINE_BYTES bytes ≡ Whole count
  pub parses : report_in greeted (take count bytes) ≡ Some report
  pub rest_is : rest ≡ drop (count + 1) bytes

-- the bytes parse as these reports, with these bytes left; `next` is whether the device has given its name then
abbrev pub Leads : Bool → List ℕ → List ReportRecord → Bool → List ℕ → Type 0
Leads greeted bytes [] next left = (next ≡ greeted) × (left ≡ bytes)
Leads greeted bytes (report ∷ reports) next left = (rest : List ℕ) × ParsesAtPrefix greeted bytes report rest × Leads true rest reports next left

-- these are the first reports of the stream, whatever bytes follow
pub record ParsesFirst (stream : List ℕ) (reports : List ReportRecord) : Type 0 where
  pub next : Bool
  pub left : List ℕ
  pub leads : Leads false stream reports next left

-- the state of a reader: the bytes that are no report yet, whether the device has given its name, and the fault, if there was a fault
pub record LinkState : Type 0 where
  pub rest : List ℕ
  pub greeted : Bool
  pub fault : Option LinkFault

abbrev pub parsed_on : Option LinkFault → Bool → List ℕ → ParsedLines
parsed_on (Some fault) greeted bytes = silence (Faulty fault)
parsed_on None greeted bytes = parsed_in greeted (texts_of bytes)

-- the reports that a reader's state parses from its bytes and these after them
abbrev pub ahead : LinkState → List ℕ → ParsedLines
ahead reader coming = parsed_on reader.fault reader.greeted (reader.rest ++ coming)

-- the bytes that are left of a stream: those that the reader hasn't read. After a fault the reader keeps none, and the bytes that are left begin with that fault
abbrev pub IsLeft : Option LinkFault → Bool → List ℕ → List ℕ → Type 0
IsLeft (Some fault) greeted rest left = parsed_in greeted (texts_of left) ≡ silence (Faulty fault)
IsLeft None greeted rest left = left ≡ rest

-- The reader was fed this stream and has given these reports. They are the first of the stream, and lead to the state of the reader, with the bytes that are left.
pub record HasRead (stream : List ℕ) (given : List ReportRecord) (reader : LinkState) : Type 0 where
  pub left : List ℕ
  pub leads : Leads false stream given reader.greeted left
  pub kept : IsLeft reader.fault reader.greeted reader.rest left

-- an upper bound on the reports that a reader can still give
abbrev pub work : LinkState → ℕ
work reader = length reader.rest

-- the answer of a reader, and its state then: the next report of the stream; or no report, and then the stream contains no more; or a fault; or refused memory
abbrev pub Answers : LinkState → Result (Option Report) LinkError → LinkState → Type 0
Answers old (Ok (Some report)) new =
    (stream : List ℕ) (given : List ReportRecord) → HasRead stream given old → HasRead stream (given ++ report_of report ∷ []) new
Answers old (Ok None) new =
    (new ≡ old) × ((stream : List ℕ) (given : List ReportRecord) → HasRead stream given old → device_reports stream ≡ record { reports = given; ending = Unfinished })
Answers old (Err (Fault fault)) new =
    (new ≡ record old { fault = Some fault })
    × ((stream : List ℕ) (given : List ReportRecord) → HasRead stream given old → (device_reports stream ≡ record { reports = given; ending = Faulty fault }) × HasRead stream given new)
Answers old (Err OutOfMemory) new = new ≡ old

-- ---- laws

-- the first reports of a stream are a prefix of the reports of the stream with more bytes after it
abbrev pub FirstStays : Type 0
FirstStays = (stream more : List ℕ) (first : List ReportRecord) → ParsesFirst stream first → (later : ParsedLines) × (device_reports (stream ++ more) ≡ with_prefix first later)

-- two prefixes of a stream's reports are equal if their lengths are equal
abbrev pub FirstIsOne : Type 0
FirstIsOne = (stream : List ℕ) (one other : List ReportRecord) → ParsesFirst stream one → ParsesFirst stream other → length one ≡ length other → one ≡ other

-- a stream contains no report after all of its reports
abbrev pub NoneFollows : Type 0
NoneFollows = (stream : List ℕ) (reports : List ReportRecord) (parsed : ReportRecord) (ending : Ending) → ParsesFirst stream (reports ++ parsed ∷ []) → device_reports stream ≡ record { reports = reports; ending = ending } → ⊥

-- the reports of a whole stream are those that a reader has given, and then those that the reader's state parses from its bytes and the bytes that follow
abbrev pub ParsesTheRest : Type 0
ParsesTheRest = (stream coming : List ℕ) (given : List ReportRecord) (reader : LinkState) → HasRead stream given reader → device_reports (stream ++ coming) ≡ with_prefix given (ahead reader coming)
