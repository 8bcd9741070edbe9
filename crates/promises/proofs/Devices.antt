-- The next item of a stream, for the core: a device gives its name, or sends a report; or neither.
use Rattle.std.proofs.Common.{◌≡◌, ℕ, false, List, [], ◌∷◌, ◌++◌, refl, sym, ◌∙◌, ap, subst, Option, Some, None, ◌⊎◌, inl, inr}
use Rattle.base_types.specs.declared.report.Report.{Report}
use Rattle.base_types.specs.Report.{ReportRecord, HelloReport, MediaReport, ReadyReport, StopReport, BusyReport, PagesReport, DoneReport, FailReport, GoneReport, report_of}
use Rattle.std.specs.Prelude.{slice_get, position, map, get_or, ◌<◌}
use Rattle.std.specs.Str.{bytes_eq}
use Rattle.std.proofs.lemmas.Option.{slice_get-get_or}
use Rattle.std.proofs.lemmas.List.{length-map, get_or-map}
use Rattle.std.proofs.lemmas.List.Quantifiers.{position-Some}
use Rattle.std.proofs.lemmas.Slice.Eq.{bytes_eq-Decides}
use Rattle.settings_file.specs.Settings.{ServerSettings, DeviceEntry, device_names, device_named}
use Rattle.device_link.specs.Stream.{ParsesFirst}
use Rattle.connections.specs.declared.ask.Ask.{Ask}
use Rattle.connections.specs.declared.ask.Ask.TheVariants as ask
use Rattle.connections.specs.declared.ask.AllocFailure.TheVariants as growth
use Rattle.connections.specs.declared.step.Step.{Step}
use Rattle.connections.specs.declared.step.Step.TheVariants as step
use Rattle.connections.specs.Entry.{PeerRecord, Http, Queue, Link, Entry, device_of, with_progress, finishing, broken}
use Rattle.connections.specs.Asking.{ItemComes, StepsTo}
use Rattle.connections.specs.Steps.{StepsHello, StepsDevice}
use Rattle.promises.specs.Answers.{ClientTalk}
use Rattle.promises.specs.Delivered.{reports_given, IsRead}
use Rattle.promises.proofs.AnswerKinds.{EventOf}
use Rattle.promises.proofs.SentToDevices.{no_true}
use Rattle.promises.proofs.StreamSteps.{IsClientAsk, IsClientStep}
use Rattle.promises.proofs.DeviceReports.{Grows, grows_as, first_read, none_read, no_both}

-- ---- the asks of a connection

-- the ask is neither a device's name nor a report
abbrev pub IsFine : Ask → Type 0
IsFine ask.Nothing = Unit {0}
IsFine (ask.Broke growth) = Unit {0}
IsFine (ask.Event who event) = EventOf who event
IsFine (ask.Unread request) = Unit {0}
IsFine (ask.Lost part) = Unit {0}
IsFine (ask.Hello device name) = ⊥
IsFine (ask.Report device report) = ⊥
IsFine (ask.UnknownDevice name) = Unit {0}
IsFine (ask.Fault device) = Unit {0}

-- ---- steps of a client

pub client_fine : (what : Ask) → IsClientAsk what → IsFine what
client_fine ask.Nothing is = absurd is
client_fine (ask.Broke growth) is = absurd is
client_fine (ask.Event who event) is = is
client_fine (ask.Unread request) is = tt
client_fine (ask.Lost part) is = tt
client_fine (ask.Hello device name) is = absurd is
client_fine (ask.Report device it) is = absurd is
client_fine (ask.UnknownDevice name) is = absurd is
client_fine (ask.Fault device) is = absurd is

pub step_fine : (comes : Step) (mid : Entry) (what : Ask) (new : Entry) → IsClientStep comes → StepsTo comes mid what new → IsFine what
step_fine (step.Due due last) mid what new is (inl it) = subst IsFine (sym it.0) tt
step_fine (step.Due due last) mid what new is (inr it) = subst IsFine (sym it.0) tt
step_fine (step.Asks it last) mid what new is steps = subst IsFine (sym steps.0) (client_fine it is)
step_fine (step.Breaks it) mid what new is steps = subst IsFine (sym (steps.0 ∙ is)) tt

pub step_progress : (comes : Step) (mid : Entry) (what : Ask) (new : Entry) → StepsTo comes mid what new → new.progress ≡ mid.progress
step_progress (step.Due due last) mid what new (inl it) = ap (λ (x : Entry). x.progress) it.1
step_progress (step.Due due last) mid what new (inr it) = ap (λ (x : Entry). x.progress) it.2
step_progress (step.Asks it last) mid what new steps = ap (λ (x : Entry). x.progress) steps.1
step_progress (step.Breaks it) mid what new steps = ap (λ (x : Entry). x.progress) steps.1

pub client_nameless : (progress : PeerRecord) → ClientTalk progress → device_of progress ≡ None
client_nameless (Http parsed closes body) client = refl
client_nameless (Queue items session) client = refl
client_nameless (Link reports device) client = absurd client

pub client_reports_none : (progress : PeerRecord) → ClientTalk progress → reports_given progress ≡ []
client_reports_none (Http parsed closes body) client = refl
client_reports_none (Queue items session) client = refl
client_reports_none (Link reports device) client = absurd client

pub client_grows : (d e : Entry) → d.broken ≡ false → ClientTalk d.progress → ClientTalk e.progress → Grows d e
client_grows d e sound before after = record {
  progress = inr (record { sound = sound; before = client_nameless d.progress before; after = client_nameless e.progress after; fresh = λ reports progress unbroken. absurd (subst ClientTalk progress after) });
  broken = λ is. absurd (no_true d.broken is sound);
  reads = λ is. none_read e (client_reports_none e.progress after);
}

-- ---- steps of a device

-- the device of a name bears it in the settings
pub place_named : (settings : ServerSettings) (name : List ℕ) (device : ℕ) → device_named settings name ≡ Some device → slice_get (device_names settings) device ≡ Some name
place_named settings name device is = by settings.devices is
  where
    by : (entries : List DeviceEntry) → position (λ entry. bytes_eq name entry.name) entries ≡ Some device → slice_get (map (λ entry. entry.name) entries) device ≡ Some name
    by [] found = let never : None ≡ Some device = found in absurd (no_both None device refl never)
    by (first ∷ entries) found =
        let it = position-Some (λ (entry : DeviceEntry). bytes_eq name entry.name) (first ∷ entries) device first found in
        slice_get-get_or (map (λ (entry : DeviceEntry). entry.name) (first ∷ entries)) device [] (subst (λ (n : ℕ). device < n) (sym (length-map (first ∷ entries) (λ (entry : DeviceEntry). entry.name))) it.0)
        ∙ ap (λ (x : List ℕ). Some x) (get_or-map (λ (entry : DeviceEntry). entry.name) (first ∷ entries) device first [] it.0 ∙ sym ((bytes_eq-Decides name (get_or (first ∷ entries) device first).name).0 it.1))

-- a device gives its name
pub record StepsAsDevice (settings : ServerSettings) (what : Ask) (e new : Entry) : Type 0 where
  pub device : ℕ
  pub name : List ℕ
  pub place : slice_get (device_names settings) device ≡ Some name
  pub asks : what ≡ ask.Hello device name
  pub reports : List ReportRecord
  pub before : e.progress ≡ Link reports None
  pub after : new.progress ≡ Link (reports ++ HelloReport name ∷ []) (Some device)
  pub read : IsRead new

-- a device that has given its name reports
pub record ReportsIt (what : Ask) (e new : Entry) : Type 0 where
  pub device : ℕ
  pub it : Report
  pub asks : what ≡ ask.Report device it
  pub reports : List ReportRecord
  pub before : e.progress ≡ Link reports (Some device)
  pub after : new.progress ≡ Link (reports ++ report_of it ∷ []) (Some device)
  pub read : IsRead new

abbrev pub DeviceStep : ServerSettings → Ask → Entry → Entry → Type 0
DeviceStep settings what e new = (IsFine what × Grows e new) ⊎ (StepsAsDevice settings what e new ⊎ ReportsIt what e new)

pub breaks_grows : (e mid new : Entry) → new ≡ broken mid → mid ≡ e → Grows e new
breaks_grows e mid new after same = grows_as e new (ap (λ (x : Entry). x.progress) whole) (ap (λ (x : Entry). x.read) whole) (λ is. ap (λ (x : Entry). x.broken) whole)
  where
    whole : new ≡ broken e
    whole = after ∙ ap broken same

-- a unknown_device's connection breaks
pub stranger_grows : (e new : Entry) (reports more : List ReportRecord) → e.progress ≡ Link reports None → e.broken ≡ false → ParsesFirst e.read more → new ≡ broken (with_progress (Link more None) e) → Grows e new
stranger_grows e new reports more progress sound reads_as whole = record {
  progress = inr (record { sound = sound; before = ap device_of progress; after = ap (λ (x : Entry). device_of x.progress) whole; fresh = λ its is unbroken. absurd (no_true new.broken (ap (λ (x : Entry). x.broken) whole) unbroken) });
  broken = λ is. ap (λ (x : Entry). x.broken) whole;
  reads = λ is. first_read new e.read more reads_as (ap (λ (x : Entry). x.read) whole) (ap (λ (x : Entry). reports_given x.progress) whole);
}

pub named_step : (settings : ServerSettings) (name : List ℕ) (place device_after : Option ℕ) (reports : List ReportRecord) (e : Entry) (comes : Step) (mid : Entry) (what : Ask) (new : Entry) → device_named settings name ≡ place → e.progress ≡ Link reports None → e.broken ≡ false → ParsesFirst e.read (reports ++ HelloReport name ∷ [])
    → StepsHello name place comes device_after → mid ≡ with_progress (Link (reports ++ HelloReport name ∷ []) device_after) e → StepsTo comes mid what new → DeviceStep settings what e new
named_step settings name None device_after reports e comes mid what new placed progress sound reads_as is after steps =
    let breaks : (what ≡ ask.UnknownDevice name) × (new ≡ broken mid) = subst (λ (s : Step). StepsTo s mid what new) is.0 steps in
    let whole : new ≡ broken (with_progress (Link (reports ++ HelloReport name ∷ []) None) e) = breaks.1 ∙ ap broken (after ∙ ap (λ (d : Option ℕ). with_progress (Link (reports ++ HelloReport name ∷ []) d) e) is.1) in
    inl (subst IsFine (sym breaks.0) tt, stranger_grows e new reports (reports ++ HelloReport name ∷ []) progress sound reads_as whole)
named_step settings name (Some device) device_after reports e comes mid what new placed progress sound reads_as is after steps =
    let asks : (what ≡ ask.Hello device name) × (new ≡ finishing false mid) = subst (λ (s : Step). StepsTo s mid what new) is.0 steps in
    let whole : new ≡ finishing false (with_progress (Link (reports ++ HelloReport name ∷ []) (Some device)) e) = asks.1 ∙ ap (finishing false) (after ∙ ap (λ (d : Option ℕ). with_progress (Link (reports ++ HelloReport name ∷ []) d) e) is.1) in
    inr (inl (record {
      device = device;
      name = name;
      place = place_named settings name device placed;
      asks = asks.0;
      reports = reports;
      before = progress;
      after = ap (λ (x : Entry). x.progress) whole;
      read = first_read new e.read (reports ++ HelloReport name ∷ []) reads_as (ap (λ (x : Entry). x.read) whole) (ap (λ (x : Entry). reports_given x.progress) whole);
    }))

pub step_reported : (settings : ServerSettings) (reports : List ReportRecord) (device : Option ℕ) (parsed : ReportRecord) (device_after : Option ℕ) (e : Entry) (comes : Step) (mid : Entry) (what : Ask) (new : Entry) → e.progress ≡ Link reports device → e.broken ≡ false → ParsesFirst e.read (reports ++ parsed ∷ [])
    → StepsDevice (device_named settings) device parsed comes device_after → mid ≡ with_progress (Link (reports ++ parsed ∷ []) device_after) e → StepsTo comes mid what new → DeviceStep settings what e new
step_reported settings reports None (HelloReport name) device_after e comes mid what new progress sound reads_as is after steps = named_step settings name (device_named settings name) device_after reports e comes mid what new refl progress sound reads_as is after steps
step_reported settings reports None (MediaReport names) device_after e comes mid what new progress sound reads_as is after steps = absurd is
step_reported settings reports None ReadyReport device_after e comes mid what new progress sound reads_as is after steps = absurd is
step_reported settings reports None StopReport device_after e comes mid what new progress sound reads_as is after steps = absurd is
step_reported settings reports None (BusyReport time) device_after e comes mid what new progress sound reads_as is after steps = absurd is
step_reported settings reports None (PagesReport job printed) device_after e comes mid what new progress sound reads_as is after steps = absurd is
step_reported settings reports None (DoneReport job) device_after e comes mid what new progress sound reads_as is after steps = absurd is
step_reported settings reports None (FailReport job) device_after e comes mid what new progress sound reads_as is after steps = absurd is
step_reported settings reports None GoneReport device_after e comes mid what new progress sound reads_as is after steps = absurd is
step_reported settings reports (Some device) parsed device_after e comes mid what new progress sound reads_as ((it, same, is), named) after steps =
    let asks : (what ≡ ask.Report device it) × (new ≡ finishing false mid) = subst (λ (s : Step). StepsTo s mid what new) is steps in
    let whole : new ≡ finishing false (with_progress (Link (reports ++ parsed ∷ []) (Some device)) e) = asks.1 ∙ ap (finishing false) (after ∙ ap (λ (d : Option ℕ). with_progress (Link (reports ++ parsed ∷ []) d) e) named) in
    inr (inr (record {
      device = device;
      it = it;
      asks = asks.0;
      reports = reports;
      before = progress;
      after = ap (λ (x : Entry). x.progress) whole ∙ ap (λ (r : ReportRecord). Link (reports ++ r ∷ []) (Some device)) (sym same);
      read = first_read new e.read (reports ++ parsed ∷ []) reads_as (ap (λ (x : Entry). x.read) whole) (ap (λ (x : Entry). reports_given x.progress) whole);
    }))

pub device_step : (settings : ServerSettings) (reports : List ReportRecord) (device : Option ℕ) (e : Entry) (comes : Step) (mid : Entry) (what : Ask) (new : Entry) → e.progress ≡ Link reports device → e.broken ≡ false → ItemComes settings (Link reports device) e comes mid → StepsTo comes mid what new → DeviceStep settings what e new
device_step settings reports device e comes mid what new progress sound (inl next) steps = step_reported settings reports device next.parsed next.device_after e comes mid what new progress sound next.next next.comes next.after steps
device_step settings reports device e comes mid what new progress sound (inr (inl next)) steps =
    let breaks : (what ≡ ask.Fault device) × (new ≡ broken mid) = subst (λ (s : Step). StepsTo s mid what new) next.comes steps in
    inl (subst IsFine (sym breaks.0) tt, breaks_grows e mid new breaks.1 next.after)
device_step settings reports device e comes mid what new progress sound (inr (inr next)) steps =
    let breaks : (what ≡ ask.Broke growth.Input) × (new ≡ broken mid) = subst (λ (s : Step). StepsTo s mid what new) next.0 steps in
    inl (subst IsFine (sym breaks.0) tt, breaks_grows e mid new breaks.1 next.1)
