-- Properties of two events with the same content, by the kind of content.
use Rattle.std.specs.Prelude.{ℕ, ◌≡◌, Bool, true, false, List, []}
use Rattle.std.specs.Global.{Vec}
use Rattle.std.proofs.Common.{refl, sym, ap, subst}
use Rattle.std.proofs.lemmas.Bool.{true≢false}
use Rattle.base_types.specs.declared.report.Report.{Report}
use Rattle.base_types.specs.declared.report.Report.TheVariants as reported
use Rattle.base_types.specs.Report.{ReportRecord, HelloReport, MediaReport, ReadyReport, StopReport, BusyReport, PagesReport, DoneReport, FailReport, GoneReport, report_of}
use Rattle.events.specs.declared.event.Event.{Event}
use Rattle.events.specs.declared.event.Event.TheVariants as Is
use Rattle.events.specs.declared.event.SubmitFiles.{SubmitFiles}
use Rattle.events.specs.declared.queue.ListQueue.{ListQueue}
use Rattle.events.specs.declared.queue.RemoveJobs.{RemoveJobs}
use Rattle.events.specs.SameEvent.{SameFiles, SameList, SameRemoval, SameEvent}

-- ---- reports

-- the report of this record, where it has no list
abbrev plain_report : ReportRecord → Report
plain_report (HelloReport name) = reported.Hello name
plain_report (MediaReport names) = reported.Gone
plain_report ReadyReport = reported.Ready
plain_report StopReport = reported.Stop
plain_report (BusyReport time) = reported.Busy time
plain_report (PagesReport job printed) = reported.Pages job printed
plain_report (DoneReport job) = reported.Done job
plain_report (FailReport job) = reported.Fail job
plain_report GoneReport = reported.Gone

abbrev is_media : ReportRecord → Bool
is_media (MediaReport names) = true
is_media _ = false

abbrev names_reported : ReportRecord → List (List ℕ)
names_reported (MediaReport names) = names
names_reported _ = []

-- two reports of the same record are equal, or both name these media
pub by_report : (P : Report → Report → Type 0) → ((report : Report) → P report report) → ((one other : Vec (List ℕ)) → one.items ≡ other.items → P (reported.Media one) (reported.Media other)) → (one other : Report) → report_of one ≡ report_of other → P one other
by_report P equal media (reported.Media one) (reported.Media other) is = media one other (ap names_reported is)
by_report P equal media (reported.Media one) other is = absurd (true≢false (ap is_media is))
by_report P equal media one (reported.Media other) is = absurd (true≢false (sym (ap is_media is)))
by_report P equal media one other is = let same : one ≡ other = ap plain_report is in subst (λ (r : Report). P one r) same (equal one)

-- ---- events

-- the property to be shown of two events with the same content
pub record OfEach (P : Event → Event → Type 0) : Type 0 where
  pub equal : (event : Event) → P event event
  pub files : (one other : SubmitFiles) → SameFiles one other → P (Is.SubmitFiles one) (Is.SubmitFiles other)
  pub lists : (one other : ListQueue) → SameList one other → P (Is.ListQueue one) (Is.ListQueue other)
  pub removes : (one other : RemoveJobs) → SameRemoval one other → P (Is.RemoveJobs one) (Is.RemoveJobs other)
  pub reports : (device : ℕ) (one other : Report) → report_of one ≡ report_of other → P (Is.Report device one) (Is.Report device other)

pub by_same : (P : Event → Event → Type 0) → OfEach P → (one other : Event) → SameEvent one other → P one other
by_same P each (Is.SubmitFiles one) (Is.SubmitFiles other) same = each.files one other same
by_same P each (Is.ListQueue one) (Is.ListQueue other) same = each.lists one other same
by_same P each (Is.RemoveJobs one) (Is.RemoveJobs other) same = each.removes one other same
by_same P each (Is.Report device one) (Is.Report place other) same =
    subst (λ (d : ℕ). P (Is.Report device one) (Is.Report d other)) same.0 (each.reports device one other same.1)
by_same P each one other same = subst (λ (x : Event). P one x) same (each.equal one)

-- an event is the same as itself
pub same_self : (event : Event) → SameEvent event event
same_self (Is.SubmitFiles request) = record { queue = refl; owner = refl; name = refl; documents = refl }
same_self (Is.ListQueue request) = record { queue = refl; form = refl; operands = refl }
same_self (Is.RemoveJobs request) = record { queue = refl; agent = refl; operands = refl }
same_self (Is.Report device report) = (refl, refl)
same_self event = refl
