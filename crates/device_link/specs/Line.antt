-- The report in a line of a device. A line is a word and its operands after single spaces; a carriage return at its end is dropped.
use Rattle.std.specs.Prelude.{ℕ, nat_lt, Bool, true, false, if◌then◌else◌, List, [], ◌∷◌, length, Option, Some, None, option_map, codes}
use Rattle.std.specs.Option.{option_and_then}
use Rattle.std.specs.List.{list_all}
use Rattle.std.specs.Str.{bytes_eq}
use Rattle.std.specs.Str.Lines.{strip_carriage_return}
use Rattle.base_types.specs.declared.limits.TheConstants.Limits.{BUSY, LAST_JOB_ID, DEVICE_LINE_BYTES}
use Rattle.device_link.specs.declared.number.TheConstants.{MOST_PRINTED}
use Rattle.text.specs.Digits.{number_up_to}
use Rattle.text.specs.Parts.{parts_at, words_of}
use Rattle.base_types.specs.Forms.{is_name, is_media}
use Rattle.base_types.specs.Report.{ReportRecord, HelloReport, MediaReport, ReadyReport, StopReport, BusyReport, PagesReport, DoneReport, FailReport}

-- the id of a job, up to LAST_JOB_ID
abbrev pub job_in : List ℕ → Option ℕ
job_in word = number_up_to LAST_JOB_ID word

-- a number of impressions, up to MOST_PRINTED
abbrev pub printed_in : List ℕ → Option ℕ
printed_in word = number_up_to MOST_PRINTED word

-- a time in ms, up to BUSY
abbrev pub time_in : List ℕ → Option ℕ
time_in word = number_up_to BUSY word

-- the names of media, with commas between them
unfoldable pub media_in : List ℕ → Option (List (List ℕ))
media_in operand = if list_all is_media (parts_at 44 operand) then Some (parts_at 44 operand) else None

unfoldable pub name_in : List ℕ → Option (List ℕ)
name_in operand = if is_name operand then Some operand else None

-- a word without operands
unfoldable pub parsed_alone : List ℕ → Option ReportRecord
parsed_alone word =
    if bytes_eq word (codes "READY") then Some ReadyReport
    else if bytes_eq word (codes "STOP") then Some StopReport
    else if bytes_eq word (codes "MEDIA") then Some (MediaReport [])
    else None

-- a word and its one operand
unfoldable pub parsed_of_one : List ℕ → List ℕ → Option ReportRecord
parsed_of_one word operand =
    if bytes_eq word (codes "HELLO") then option_map HelloReport (name_in operand)
    else if bytes_eq word (codes "MEDIA") then option_map MediaReport (media_in operand)
    else if bytes_eq word (codes "BUSY") then option_map BusyReport (time_in operand)
    else if bytes_eq word (codes "DONE") then option_map DoneReport (job_in operand)
    else if bytes_eq word (codes "FAIL") then option_map FailReport (job_in operand)
    else None

-- a word and its two operands
unfoldable pub parsed_of_two : List ℕ → List ℕ → List ℕ → Option ReportRecord
parsed_of_two word job printed =
    if bytes_eq word (codes "PAGES") then option_and_then (λ id. option_map (PagesReport id) (printed_in printed)) (job_in job)
    else None

abbrev pub parsed : List (List ℕ) → Option ReportRecord
parsed [] = None
parsed (word ∷ []) = parsed_alone word
parsed (word ∷ operand ∷ []) = parsed_of_one word operand
parsed (word ∷ job ∷ printed ∷ []) = parsed_of_two word job printed
parsed (word ∷ first ∷ second ∷ third ∷ more) = None

-- the first report is the device's name, and no later report is
abbrev pub in_turn : Bool → Option ReportRecord → Option ReportRecord
in_turn greeted None = None
in_turn true (Some (HelloReport name)) = None
in_turn true (Some report) = Some report
in_turn false (Some (HelloReport name)) = Some (HelloReport name)
in_turn false (Some report) = None

-- the report in a line, if a device may send it now
abbrev pub report_in : Bool → List ℕ → Option ReportRecord
report_in greeted line = in_turn greeted (parsed (words_of (strip_carriage_return line)))

-- a line and its line feed together have at most DEVICE_LINE_BYTES bytes
abbrev pub fits : List ℕ → Bool
fits line = nat_lt (length line) DEVICE_LINE_BYTES

-- the report in a line of a device that has given its name
abbrev pub reported_by : List ℕ → Option ReportRecord
reported_by line = if fits line then report_in true line else None
