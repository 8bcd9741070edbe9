-- The events that an adapter's life allows.
use Rattle.std.specs.Prelude.{ℕ, ◌≡◌, ◌==◌, ◌+◌, ◌<◌, ◌≤◌, nat_lt, Bool, true, false, if◌then◌else◌, List, [], ◌∷◌, ◌++◌, length, take, drop, Option, Some, None, option_map, Result, Ok, Err, OnOk}
use Rattle.std.proofs.Common.{arith, refl, subst, sym, ap, ◌∙◌}
use Rattle.std.proofs.lemmas.Bool.{and_parts}
use Rattle.std.proofs.lemmas.List.{append_assoc, append-nil, length-append, length-take-le}
use Rattle.std.specs.declared.alloc.AllocError.{AllocError}
use Rattle.base_types.specs.declared.report.Report.{Report}
use Rattle.base_types.specs.Report.{ReportRecord, report_of, ReadyReport, StopReport, PagesReport, DoneReport, FailReport}
use Rattle.adapter_core.specs.declared.printer_state.PrinterState.{PrinterState}
use Rattle.adapter_core.specs.declared.printer_state.PrinterState.TheVariants.{Running, Stopped}
use Rattle.adapter_core.specs.Life.{Event, Links, Ordered, Came, Canceled, Sent, EndsCopy, Restarts, Printed, Is, Reported, Leads}
use Rattle.adapter_core.specs.Promises.{AnswersOnce, SendsTheJob, ObeysCancel, ReportsState}
use Rattle.adapter_core.specs.AdapterState.{WorkRecord, AdapterStateRecord, id_of, sending_of, cancel_state_of, reported_of, IsAfter, Lives, unreported, due_of, due_in, copy_sent_in, HasRoom, reported_events, end_report, fail_report, pages_report, state_report, begun, with_came, with_sent, with_copy, with_restart, with_cancel, changed}

-- ---- one event more

leads_then : {P : Type 0} (step : P → Event → P → Type 0) (at : P) (life : List Event) (mid : P) (event : Event) (end : P) → Leads step at life mid → step mid event end → Leads step at (life ++ event ∷ []) end
leads_then step at [] mid event end x s = (end, subst (λ p. step p event end) x s, refl)
leads_then step at (first ∷ life) mid event end x s = (x.0, x.1, leads_then step x.0 life mid event end x.2 s)

-- the condition of each promise on an event
record Allows (old : AdapterStateRecord) (event : Event) (new : AdapterStateRecord) : Type 0 where
  answers : AnswersOnce (option_map id_of old.work) event (option_map id_of new.work)
  sends : SendsTheJob (option_map sending_of old.work) event (option_map sending_of new.work)
  obeys : ObeysCancel (option_map cancel_state_of old.work) event (option_map cancel_state_of new.work)
  reports : ReportsState (reported_of old) event (reported_of new)

lives_by : (old : AdapterStateRecord) (event : Event) (new : AdapterStateRecord) → Allows old event new → Lives old (event ∷ []) new
lives_by old event new allows life reaches = record {
  answers = leads_then AnswersOnce None life (option_map id_of old.work) event (option_map id_of new.work) reaches.answers allows.answers;
  sends = leads_then SendsTheJob None life (option_map sending_of old.work) event (option_map sending_of new.work) reaches.sends allows.sends;
  obeys = leads_then ObeysCancel None life (option_map cancel_state_of old.work) event (option_map cancel_state_of new.work) reaches.obeys allows.obeys;
  reports = leads_then ReportsState unreported life (reported_of old) event (reported_of new) reaches.reports allows.reports;
}

lives_still : (at : AdapterStateRecord) → Lives at [] at
lives_still at life reaches = subst (λ l. IsAfter l at) (sym (append-nil life)) reaches

-- ---- the server

links_by : (work : Option WorkRecord) (printer : PrinterState) (reported : Option PrinterState) → Allows (record { work = work; printer = printer; reported = reported }) Links (record { work = None; printer = printer; reported = None })
links_by None printer reported = record { answers = refl; sends = refl; obeys = refl; reports = refl }
links_by (Some work) printer reported = record { answers = refl; sends = refl; obeys = refl; reports = refl }

pub lives_linked : (old : AdapterStateRecord) → Lives old (Links ∷ []) (record old { work = None; reported = None })
lives_linked old = lives_by old Links _ (links_by old.work old.printer old.reported)

orders_by : (work : Option WorkRecord) (printer : PrinterState) (reported : Option PrinterState) (job octets times : ℕ) → work ≡ None → Allows (record { work = work; printer = printer; reported = reported }) (Ordered job octets times) (record { work = Some (begun job octets times); printer = printer; reported = reported })
orders_by None printer reported job octets times none = record { answers = (refl, refl); sends = refl; obeys = refl; reports = refl }
orders_by (Some work) printer reported job octets times none = absurd (cc none)

pub lives_ordered : (old : AdapterStateRecord) (job octets times : ℕ) → old.work ≡ None → Lives old (Ordered job octets times ∷ []) (record old { work = Some (begun job octets times) })
lives_ordered old job octets times none = lives_by old (Ordered job octets times) _ (orders_by old.work old.printer old.reported job octets times none)

came_by : (work : Option WorkRecord) (printer : PrinterState) (reported : Option PrinterState) (octets : List ℕ) → HasRoom work (length octets) → Allows (record { work = work; printer = printer; reported = reported }) (Came octets) (record { work = option_map (with_came octets) work; printer = printer; reported = reported })
came_by None printer reported octets room = absurd room
came_by (Some work) printer reported octets room = record { answers = refl; sends = (rw (length-append work.came octets) room, refl); obeys = refl; reports = refl }

lives_came : (old : AdapterStateRecord) (octets : List ℕ) → HasRoom old.work (length octets) → Lives old (Came octets ∷ []) (changed (with_came octets) old)
lives_came old octets room = lives_by old (Came octets) _ (came_by old.work old.printer old.reported octets room)

pub lives_taken : (old new : AdapterStateRecord) (octets : List ℕ) (answer : Result (Unit {0}) AllocError) → HasRoom old.work (length octets) → OnOk answer (new ≡ changed (with_came octets) old) → OnOk answer (Lives old (Came octets ∷ []) new)
lives_taken old new octets (Ok done) room is = subst (λ n. Lives old (Came octets ∷ []) n) (sym is) (lives_came old octets room)
lives_taken old new octets (Err error) room is = tt

abbrev marked : ℕ → WorkRecord → Bool → WorkRecord
marked job work test = if test then record work { canceled = true } else work

marked_id : (job : ℕ) (work : WorkRecord) (test : Bool) → Some (marked job work test).job ≡ Some work.job
marked_id job work true = refl
marked_id job work false = refl

marked_sending : (job : ℕ) (work : WorkRecord) (test : Bool) → Some (sending_of (marked job work test)) ≡ Some (sending_of work)
marked_sending job work true = refl
marked_sending job work false = refl

marked_canceled : (job : ℕ) (work : WorkRecord) (test : Bool) → Some (cancel_state_of (marked job work test)) ≡ Some (if test then record { job = work.job; canceled = true } else cancel_state_of work)
marked_canceled job work true = refl
marked_canceled job work false = refl

canceled_by : (work : Option WorkRecord) (printer : PrinterState) (reported : Option PrinterState) (job : ℕ) → Allows (record { work = work; printer = printer; reported = reported }) (Canceled job) (record { work = option_map (with_cancel job) work; printer = printer; reported = reported })
canceled_by None printer reported job = record { answers = refl; sends = refl; obeys = refl; reports = refl }
canceled_by (Some work) printer reported job = record { answers = marked_id job work (work.job == job); sends = marked_sending job work (work.job == job); obeys = marked_canceled job work (work.job == job); reports = refl }

pub lives_canceled : (old : AdapterStateRecord) (job : ℕ) → Lives old (Canceled job ∷ []) (changed (with_cancel job) old)
lives_canceled old job = lives_by old (Canceled job) _ (canceled_by old.work old.printer old.reported job)

restarts_by : (work : Option WorkRecord) (printer : PrinterState) (reported : Option PrinterState) → Allows (record { work = work; printer = printer; reported = reported }) Restarts (record { work = option_map with_restart work; printer = printer; reported = reported })
restarts_by None printer reported = record { answers = refl; sends = refl; obeys = refl; reports = refl }
restarts_by (Some work) printer reported = record { answers = refl; sends = refl; obeys = refl; reports = refl }

pub lives_restarted : (old : AdapterStateRecord) → Lives old (Restarts ∷ []) (changed with_restart old)
lives_restarted old = lives_by old Restarts _ (restarts_by old.work old.printer old.reported)

-- ---- the printer

-- octets are due only of a job that isn't canceled and is still to be sent
record IsDue (work : WorkRecord) (count : ℕ) : Type 0 where
  goes : work.canceled ≡ false
  again : work.copies < work.times
  octets : due_of work ≡ drop work.sent work.came

due_by : (work : WorkRecord) (count : ℕ) (canceled again : Bool) → work.canceled ≡ canceled → nat_lt work.copies work.times ≡ again → 0 < count → count ≤ length (due_of work) → IsDue work count
due_by work count true again c a some few = absurd (let none : due_of work ≡ [] = rw c refl in omega (arith, some, few, ap length none))
due_by work count false false c a some few = absurd (let none : due_of work ≡ [] = rw (c, a) refl in omega (arith, some, few, ap length none))
due_by work count false true c a some few = record { goes = c; again = grind (arith, a); octets = rw (c, a) refl }

sent_work : (work : WorkRecord) (printer : PrinterState) (reported : Option PrinterState) (count : ℕ) → count ≤ length (due_of work) → IsDue work count → Allows (record { work = Some work; printer = printer; reported = reported }) (Sent (take count (due_of work))) (record { work = Some (with_sent count work); printer = printer; reported = reported })
sent_work work printer reported count few due =
    let next = due_of work in
    let size : length (take count next) ≡ count = length-take-le count next few in
    let same : take (length (take count next)) (drop work.sent work.came) ≡ take count next = ap (λ (n : ℕ). take n (drop work.sent work.came)) size ∙ ap (λ (d : List ℕ). take count d) (sym due.octets) in
    record {
      answers = refl;
      sends = (due.again, same, ap (λ (n : ℕ). Some (record { octets = work.octets; times = work.times; came = work.came; sent = work.sent + n; copies = work.copies; printed = false })) (sym size));
      obeys = (due.goes, refl);
      reports = refl;
    }

sent_by : (work : Option WorkRecord) (printer : PrinterState) (reported : Option PrinterState) (count : ℕ) → 0 < count → count ≤ length (due_in work) → Allows (record { work = work; printer = printer; reported = reported }) (Sent (take count (due_in work))) (record { work = option_map (with_sent count) work; printer = printer; reported = reported })
sent_by None printer reported count some few = absurd (omega (arith, some, few))
sent_by (Some work) printer reported count some few = sent_work work printer reported count few (due_by work count work.canceled (nat_lt work.copies work.times) refl refl some few)

pub lives_sent : (old : AdapterStateRecord) (count : ℕ) → 0 < count → count ≤ length (due_in old.work) → Lives old (Sent (take count (due_in old.work)) ∷ []) (changed (with_sent count) old)
lives_sent old count some few = lives_by old (Sent (take count (due_in old.work))) _ (sent_by old.work old.printer old.reported count some few)

copy_by : (work : Option WorkRecord) (printer : PrinterState) (reported : Option PrinterState) → copy_sent_in work ≡ true → Allows (record { work = work; printer = printer; reported = reported }) EndsCopy (record { work = option_map with_copy work; printer = printer; reported = reported })
copy_by None printer reported is = absurd (cc is)
copy_by (Some work) printer reported is =
    let parts : (nat_lt work.copies work.times ≡ true) × ((work.sent == work.octets) ≡ true) = and_parts (nat_lt work.copies work.times) (work.sent == work.octets) is in
    let again : work.copies < work.times = grind (arith, parts.0) in
    let all : work.sent ≡ work.octets = grind (arith, parts.1) in
    record { answers = refl; sends = (again, all, refl); obeys = refl; reports = refl }

pub lives_copied : (old : AdapterStateRecord) → copy_sent_in old.work ≡ true → Lives old (EndsCopy ∷ []) (changed with_copy old)
lives_copied old is = lives_by old EndsCopy _ (copy_by old.work old.printer old.reported is)

set_by : (work : Option WorkRecord) (was : PrinterState) (reported : Option PrinterState) (printer : PrinterState) → Allows (record { work = work; printer = was; reported = reported }) (Is printer) (record { work = work; printer = printer; reported = reported })
set_by None was reported printer = record { answers = refl; sends = refl; obeys = refl; reports = refl }
set_by (Some work) was reported printer = record { answers = refl; sends = refl; obeys = refl; reports = refl }

pub lives_set : (old : AdapterStateRecord) (printer : PrinterState) → Lives old (Is printer ∷ []) (record old { printer = printer })
lives_set old printer = lives_by old (Is printer) _ (set_by old.work old.printer old.reported printer)

-- ---- reports

abbrev events_of : Option ReportRecord → List Event
events_of None = []
events_of (Some report) = Reported report ∷ []

parsed_events : (report : Option Report) (parsed : Option ReportRecord) → option_map report_of report ≡ parsed → reported_events report ≡ events_of parsed
parsed_events None parsed is = ap events_of is
parsed_events (Some report) parsed is = ap events_of is

pages_by : (work : Option WorkRecord) (printer : PrinterState) (reported : Option PrinterState) (printed : ℕ) → Lives (record { work = work; printer = printer; reported = reported }) (events_of (option_map (pages_report printed) work)) (record { work = work; printer = printer; reported = reported })
pages_by None printer reported printed = lives_still (record { work = None; printer = printer; reported = reported })
pages_by (Some work) printer reported printed = lives_by (record { work = Some work; printer = printer; reported = reported }) (Reported (PagesReport work.job printed)) _ (record { answers = (refl, refl); sends = refl; obeys = refl; reports = refl })

pub lives_pages : (at : AdapterStateRecord) (report : Option Report) (printed : ℕ) → option_map report_of report ≡ option_map (pages_report printed) at.work → Lives at (reported_events report) at
lives_pages at report printed is = subst (λ (e : List Event). Lives at e at) (sym (parsed_events report (option_map (pages_report printed) at.work) is)) (pages_by at.work at.printer at.reported printed)

fail_by : (work : Option WorkRecord) (printer : PrinterState) (reported : Option PrinterState) → Lives (record { work = work; printer = printer; reported = reported }) (events_of (option_map fail_report work)) (record { work = None; printer = printer; reported = reported })
fail_by None printer reported = lives_still (record { work = None; printer = printer; reported = reported })
fail_by (Some work) printer reported = lives_by (record { work = Some work; printer = printer; reported = reported }) (Reported (FailReport work.job)) _ (record { answers = (refl, refl); sends = refl; obeys = refl; reports = refl })

pub lives_failed : (old : AdapterStateRecord) (report : Option Report) → option_map report_of report ≡ option_map fail_report old.work → Lives old (reported_events report) (record old { work = None })
lives_failed old report is = subst (λ (e : List Event). Lives old e (record old { work = None })) (sym (parsed_events report (option_map fail_report old.work) is)) (fail_by old.work old.printer old.reported)

-- the state after the printer has printed a job, and before the report about the job
record IsPrinted (life : List Event) (work : WorkRecord) (printer : PrinterState) (reported : Option PrinterState) : Type 0 where
  answers : Leads AnswersOnce None life (Some work.job)
  sends : Leads SendsTheJob None life (Some (record (sending_of work) { printed = true }))
  obeys : Leads ObeysCancel None life (Some (cancel_state_of work))
  reports : Leads ReportsState unreported life (record { printer = printer; reported = reported })

printed_by : (life : List Event) (work : WorkRecord) (printer : PrinterState) (reported : Option PrinterState) → IsAfter life (record { work = Some work; printer = printer; reported = reported }) → IsPrinted (life ++ Printed ∷ []) work printer reported
printed_by life work printer reported reaches = record {
  answers = leads_then AnswersOnce None life _ Printed (Some work.job) reaches.answers refl;
  sends = leads_then SendsTheJob None life _ Printed _ reaches.sends refl;
  obeys = leads_then ObeysCancel None life _ Printed _ reaches.obeys refl;
  reports = leads_then ReportsState unreported life _ Printed _ reaches.reports refl;
}

ended_by : (life : List Event) (work : WorkRecord) (printer : PrinterState) (reported : Option PrinterState) (all : Bool) → (work.copies == work.times) ≡ all → IsPrinted life work printer reported → IsAfter (life ++ Reported (if all then DoneReport work.job else FailReport work.job) ∷ []) (record { work = None; printer = printer; reported = reported })
ended_by life work printer reported true is at =
    let done : work.copies ≡ work.times = grind (arith, is) in
    record {
      answers = leads_then AnswersOnce None life _ (Reported (DoneReport work.job)) None at.answers (refl, refl);
      sends = leads_then SendsTheJob None life _ (Reported (DoneReport work.job)) None at.sends (done, refl, refl);
      obeys = leads_then ObeysCancel None life _ (Reported (DoneReport work.job)) None at.obeys refl;
      reports = leads_then ReportsState unreported life _ (Reported (DoneReport work.job)) _ at.reports refl;
    }
ended_by life work printer reported false is at = record {
  answers = leads_then AnswersOnce None life _ (Reported (FailReport work.job)) None at.answers (refl, refl);
  sends = leads_then SendsTheJob None life _ (Reported (FailReport work.job)) None at.sends refl;
  obeys = leads_then ObeysCancel None life _ (Reported (FailReport work.job)) None at.obeys refl;
  reports = leads_then ReportsState unreported life _ (Reported (FailReport work.job)) _ at.reports refl;
}

nothing_printed : (printer : PrinterState) (reported : Option PrinterState) → Lives (record { work = None; printer = printer; reported = reported }) (Printed ∷ []) (record { work = None; printer = printer; reported = reported })
nothing_printed printer reported = lives_by (record { work = None; printer = printer; reported = reported }) Printed _ (record { answers = refl; sends = refl; obeys = refl; reports = refl })

finish_by : (work : Option WorkRecord) (printer : PrinterState) (reported : Option PrinterState) → Lives (record { work = work; printer = printer; reported = reported }) (Printed ∷ events_of (option_map end_report work)) (record { work = None; printer = printer; reported = reported })
finish_by None printer reported = nothing_printed printer reported
finish_by (Some work) printer reported = λ life reaches.
    let new : AdapterStateRecord = record { work = None; printer = printer; reported = reported } in
    subst (λ l. IsAfter l new) (append_assoc life (Printed ∷ []) (Reported (end_report work) ∷ [])) (ended_by (life ++ Printed ∷ []) work printer reported (work.copies == work.times) refl (printed_by life work printer reported reaches))

pub lives_finished : (old : AdapterStateRecord) (report : Option Report) → option_map report_of report ≡ option_map end_report old.work → Lives old (Printed ∷ reported_events report) (record old { work = None })
lives_finished old report is = subst (λ (e : List Event). Lives old (Printed ∷ e) (record old { work = None })) (sym (parsed_events report (option_map end_report old.work) is)) (finish_by old.work old.printer old.reported)

abbrev IsState : ReportRecord → Type 0
IsState ReadyReport = Unit {0}
IsState StopReport = Unit {0}
IsState report = ⊥

reports_state : (work : Option WorkRecord) (printer : PrinterState) (reported new : Option PrinterState) (report : ReportRecord) → ReportsState (record { printer = printer; reported = reported }) (Reported report) (record { printer = printer; reported = new }) → IsState report → Lives (record { work = work; printer = printer; reported = reported }) (Reported report ∷ []) (record { work = work; printer = printer; reported = new })
reports_state None printer reported new ReadyReport reports is = lives_by _ (Reported ReadyReport) _ (record { answers = refl; sends = refl; obeys = refl; reports = reports })
reports_state None printer reported new StopReport reports is = lives_by _ (Reported StopReport) _ (record { answers = refl; sends = refl; obeys = refl; reports = reports })
reports_state (Some work) printer reported new ReadyReport reports is = lives_by _ (Reported ReadyReport) _ (record { answers = refl; sends = refl; obeys = refl; reports = reports })
reports_state (Some work) printer reported new StopReport reports is = lives_by _ (Reported StopReport) _ (record { answers = refl; sends = refl; obeys = refl; reports = reports })
reports_state work printer reported new report reports is = absurd is

report_by : (work : Option WorkRecord) (printer : PrinterState) (reported : Option PrinterState) → Lives (record { work = work; printer = printer; reported = reported }) (events_of (state_report printer reported)) (record { work = work; printer = printer; reported = Some printer })
report_by work Running (Some Running) = lives_still _
report_by work Running (Some Stopped) = reports_state work Running (Some Stopped) (Some Running) ReadyReport (refl, (λ is. cc is), refl) tt
report_by work Running None = reports_state work Running None (Some Running) ReadyReport (refl, (λ is. cc is), refl) tt
report_by work Stopped (Some Stopped) = lives_still _
report_by work Stopped (Some Running) = reports_state work Stopped (Some Running) (Some Stopped) StopReport (refl, (λ is. cc is), refl) tt
report_by work Stopped None = reports_state work Stopped None (Some Stopped) StopReport (refl, (λ is. cc is), refl) tt

pub lives_reported : (old : AdapterStateRecord) (report : Option Report) → option_map report_of report ≡ state_report old.printer old.reported → Lives old (reported_events report) (record old { reported = Some old.printer })
lives_reported old report is = subst (λ (e : List Event). Lives old e (record old { reported = Some old.printer })) (sym (parsed_events report (state_report old.printer old.reported) is)) (report_by old.work old.printer old.reported)
