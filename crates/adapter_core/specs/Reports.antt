-- The lines that a device sends.
use Rattle.std.specs.Prelude.{ℕ, ◌≡◌, ◌≤◌, All, IsTrue, List, [], ◌∷◌, ◌++◌, Some, codes}
use Rattle.std.specs.Fmt.{decimal}
use Rattle.base_types.specs.declared.limits.TheConstants.Limits.{LAST_JOB_ID, BUSY}
use Rattle.base_types.specs.Forms.{is_name, is_media}
use Rattle.base_types.specs.Report.{ReportRecord, HelloReport, MediaReport, ReadyReport, StopReport, BusyReport, PagesReport, DoneReport, FailReport, GoneReport}
use Rattle.device_link.specs.declared.number.TheConstants.{MOST_PRINTED}
use Rattle.device_link.specs.Line.{parsed}
use Rattle.text.specs.Parts.{words_of}

abbrev pub hello_line : List ℕ → List ℕ
hello_line name = codes "HELLO " ++ (name ++ codes "\n")

-- the names, the first after the separator and each other after a comma
abbrev pub listed : ℕ → List (List ℕ) → List ℕ
listed separator [] = []
listed separator (name ∷ names) = (separator ∷ name) ++ listed 44 names

abbrev pub media_line : List (List ℕ) → List ℕ
media_line names = codes "MEDIA" ++ (listed 32 names ++ codes "\n")

abbrev pub number_line : List ℕ → ℕ → List ℕ
number_line word number = word ++ (codes " " ++ (decimal number ++ codes "\n"))

abbrev pub pages_line : ℕ → ℕ → List ℕ
pages_line job printed = codes "PAGES " ++ (decimal job ++ (codes " " ++ (decimal printed ++ codes "\n")))

-- the line of a report; the end of the connection has none
abbrev pub report_line : ReportRecord → List ℕ
report_line (HelloReport name) = hello_line name
report_line (MediaReport names) = media_line names
report_line ReadyReport = codes "READY\n"
report_line StopReport = codes "STOP\n"
report_line (BusyReport time) = number_line (codes "BUSY") time
report_line (PagesReport job printed) = pages_line job printed
report_line (DoneReport job) = number_line (codes "DONE") job
report_line (FailReport job) = number_line (codes "FAIL") job
report_line GoneReport = []

-- the report has a line: names are names, and numbers are in range
abbrev pub HasLine : ReportRecord → Type 0
HasLine (HelloReport name) = IsTrue (is_name name)
HasLine (MediaReport names) = All (λ name. IsTrue (is_media name)) names
HasLine ReadyReport = Unit {0}
HasLine StopReport = Unit {0}
HasLine (BusyReport time) = time ≤ BUSY
HasLine (PagesReport job printed) = (job ≤ LAST_JOB_ID) × (printed ≤ MOST_PRINTED)
HasLine (DoneReport job) = job ≤ LAST_JOB_ID
HasLine (FailReport job) = job ≤ LAST_JOB_ID
HasLine GoneReport = ⊥

-- the line of a report, without its line feed, is read as exactly that report
abbrev pub ReadAsMeant : Type 0
ReadAsMeant = (report : ReportRecord) → HasLine report → (line : List ℕ) × (report_line report ≡ line ++ codes "\n") × (parsed (words_of line) ≡ Some report)
