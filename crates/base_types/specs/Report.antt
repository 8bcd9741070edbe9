-- The reports of a device, as plain data.
use Rattle.std.specs.Prelude.{ℕ, List}
use Rattle.base_types.specs.declared.report.Report.{Report}
use Rattle.base_types.specs.declared.report.Report.TheVariants as reported

pub data ReportRecord : Type 0 where
  HelloReport : (name : List ℕ) → ReportRecord
  MediaReport : (names : List (List ℕ)) → ReportRecord
  ReadyReport : ReportRecord
  StopReport : ReportRecord
  BusyReport : (time : ℕ) → ReportRecord
  PagesReport : (job printed : ℕ) → ReportRecord
  DoneReport : (job : ℕ) → ReportRecord
  FailReport : (job : ℕ) → ReportRecord
  GoneReport : ReportRecord

-- the record of a report
abbrev pub report_of : Report → ReportRecord
report_of (reported.Hello name) = HelloReport name
report_of (reported.Media names) = MediaReport names.items
report_of reported.Ready = ReadyReport
report_of reported.Stop = StopReport
report_of (reported.Busy time) = BusyReport time
report_of (reported.Pages job printed) = PagesReport job printed
report_of (reported.Done job) = DoneReport job
report_of (reported.Fail job) = FailReport job
report_of reported.Gone = GoneReport
