-- Connections are closed, and devices give their names, in one way, if that is seen alike and no memory is refused.
use Rattle.std.proofs.Common.{◌≡◌, ℕ, Bool, true, false, List, [], ◌∷◌, ◌++◌, refl, sym, ◌∙◌, ap, subst, Option, Some, None, inl, inr}
use Rattle.base_types.specs.declared.report.Report.{Report}
use Rattle.base_types.specs.declared.report.Report.TheVariants as report
use Rattle.base_types.specs.Report.{ReportRecord, report_of}
use Rattle.events.specs.declared.event.Event.{Event}
use Rattle.events.specs.declared.event.Event.TheVariants as Is
use Rattle.events.specs.SameEvent.{SameEvent}
use Rattle.dispatcher.specs.declared.observer.AllocationSite.TheVariants as At
use Rattle.dispatcher.specs.declared.observer.DeviceRefusal.TheVariants as why
use Rattle.dispatcher.specs.Notes.{DeviceRefused, Refused}
use Rattle.events.specs.declared.status.Status.TheVariants.{TemporaryError}
use Rattle.connections.specs.declared.ask.Ask.{Ask}
use Rattle.connections.specs.declared.ask.Ask.TheVariants as ask
use Rattle.connections.specs.declared.ask.Client.{Client}
use Rattle.connections.specs.Choice.{SameAsk}
use Rattle.connections.specs.Entry.{Entry, device_of, superseded_entry}
use Rattle.server.specs.Polls.{Happening}
use Rattle.server.specs.Ledger.{Ledger, Fate, Broken}
use Rattle.server.specs.Rel.{Notifies, Then}
use Rattle.server.specs.Happening.{Unanswered}
use Rattle.server.specs.Closing.{Leaves, IsGone, ClosesAs, ClosesFirst, NoneBroken, ClosesBroken}
use Rattle.server.specs.Hello.{ReportComes, IsAlone, HasOther, IsSupersededAt, IsSuperseded, TakesOver, HandlesHello}
use Rattle.server.specs.Acting.{place_of, place_of_part, ActsOn}
use Rattle.promises.specs.Keyed.{keyed}
use Rattle.promises.specs.OneLedger.{StepsOnce, SameQueries}
use Rattle.promises.proofs.Lowest.{as_device, other_one, one_ending}
use Rattle.promises.proofs.SeenAlike.{Calm, Same, One, same_nothing, same_notifies, same_then, same_until}
use Rattle.promises.proofs.SameEvents.{same_sets, same_status, same_enqueues, unanswered_same, one_report, same_answered}
use Rattle.promises.proofs.UniqueActs.{same_entry, same_number, broken_there, same_self}

same_leaves : (fate : Fate) (key : ℕ) (e : Entry) → One (Leaves fate key e)
same_leaves fate key e = record { one = λ l hs rest a ks more b same c d p q. (ap keyed (p.0 ∙ sym q.0), p.2 ∙ sym q.2) }

module _ (steps : StepsOnce) (queries : SameQueries) where
  same_gone : (moment : ℕ) (device : Option ℕ) → One (IsGone moment device)
  same_gone moment None = same_nothing
  same_gone moment (Some device) = one_report steps moment device report.Gone

  pub same_closes_as : (moment : ℕ) (fate : Fate) (key : ℕ) (e : Entry) → One (ClosesAs moment fate key e)
  same_closes_as moment fate key e = same_then (same_leaves fate key e) (same_gone moment (device_of e.progress))

  closes_first : (moment : ℕ) (l : Ledger) (hs rest : List Happening) (a : Ledger) (ks more : List Happening) (b : Ledger) → keyed hs ++ rest ≡ keyed ks ++ more → Calm hs → Calm ks → ClosesFirst moment l hs a → ClosesFirst moment l ks b → (keyed hs ≡ keyed ks) × (a ≡ b)
  closes_first moment l hs rest a ks more b e c d p q =
      let key : p.key ≡ q.key = same_number p.key q.key (λ less. q.first p.key less (broken_there l p.key p.entry p.there p.is_broken)) (λ less. p.first q.key less (broken_there l q.key q.entry q.there q.is_broken)) in
      let entry : p.entry ≡ q.entry = same_entry (l.entries q.key) p.entry q.entry (subst (λ (k : ℕ). l.entries k ≡ Some p.entry) key p.there) q.there in
      let closes : ClosesAs moment Broken p.key p.entry l ks b = subst (λ (k : ℕ). ClosesAs moment Broken k p.entry l ks b) (sym key) (subst (λ (x : Entry). ClosesAs moment Broken q.key x l ks b) (sym entry) q.closes) in
      (same_closes_as moment Broken p.key p.entry).one l hs rest a ks more b e c d p.closes closes

  pub none_closes : (moment : ℕ) (l : Ledger) (hs : List Happening) (a : Ledger) → NoneBroken l → ClosesFirst moment l hs a → ⊥
  none_closes moment l hs a none it = none it.key (broken_there l it.key it.entry it.there it.is_broken)

  pub same_closes_broken : (moment : ℕ) → One (ClosesBroken moment)
  same_closes_broken moment = same_until (ClosesFirst moment) NoneBroken (record { one = closes_first moment }) (none_closes moment)

  -- ---- devices that give their names

  gives_way_at : (key : ℕ) (o : Option Entry) → One (IsSupersededAt key o)
  gives_way_at key None = same_nothing
  gives_way_at key (Some e) = same_sets key (superseded_entry e)

  same_gives_way : (key : ℕ) → One (IsSuperseded key)
  same_gives_way key = record { one = λ l hs rest a ks more b e c d p q. (gives_way_at key (l.entries key)).one l hs rest a ks more b e c d p q }

  same_takes_over : (moment old device : ℕ) (name : List ℕ) → One (TakesOver moment old device name)
  same_takes_over moment old device name = same_then (same_gives_way old) (same_then (same_gone moment (Some device)) (one_report steps moment device (report.Hello name)))

  turned_away : (key id device : ℕ) → One (Then (IsSuperseded key) (Notifies (DeviceRefused id (why.Connected device))))
  turned_away key id device = same_then (same_gives_way key) (same_notifies (DeviceRefused id (why.Connected device)))

  not_alone : {A : Type 0} → (ended : Bool) (device key other : ℕ) (l : Ledger) → IsAlone device key l → HasOther ended device key other l → A
  not_alone ended device key other l alone it = absurd (alone other it.0 (as_device ended device (l.entries other) it.1))

  greets : (moment key id device : ℕ) (name : List ℕ) (l : Ledger) (hs rest : List Happening) (a : Ledger) (ks more : List Happening) (b : Ledger) → keyed hs ++ rest ≡ keyed ks ++ more → Calm hs → Calm ks → HandlesHello moment key id device name l hs a → HandlesHello moment key id device name l ks b → (keyed hs ≡ keyed ks) × (a ≡ b)
  greets moment key id device name l hs rest a ks more b e c d (inl (alone, p)) (inl (lone, q)) = (one_report steps moment device (report.Hello name)).one l hs rest a ks more b e c d p q
  greets moment key id device name l hs rest a ks more b e c d (inl (alone, p)) (inr (inl (other, is, q))) = not_alone true device key other l alone is
  greets moment key id device name l hs rest a ks more b e c d (inl (alone, p)) (inr (inr (other, is, q))) = not_alone false device key other l alone is
  greets moment key id device name l hs rest a ks more b e c d (inr (inl (other, is, p))) (inl (alone, q)) = not_alone true device key other l alone is
  greets moment key id device name l hs rest a ks more b e c d (inr (inr (other, is, p))) (inl (alone, q)) = not_alone false device key other l alone is
  greets moment key id device name l hs rest a ks more b e c d (inr (inl (old, is, p))) (inr (inl (other, its, q))) =
      let same : old ≡ other = other_one true true device key old other l is its in
      (same_takes_over moment old device name).one l hs rest a ks more b e c d p (subst (λ (k : ℕ). TakesOver moment k device name l ks b) (sym same) q)
  greets moment key id device name l hs rest a ks more b e c d (inr (inl (old, is, p))) (inr (inr (other, its, q))) = one_ending device key old other l is its
  greets moment key id device name l hs rest a ks more b e c d (inr (inr (old, is, p))) (inr (inl (other, its, q))) = one_ending device key other old l its is
  greets moment key id device name l hs rest a ks more b e c d (inr (inr (old, is, p))) (inr (inr (other, its, q))) = (turned_away key id device).one l hs rest a ks more b e c d p q

  same_report : (moment device other : ℕ) (one parsed : Report) → device ≡ other → report_of one ≡ report_of parsed → Same (Unanswered moment (Is.Report device one)) (Unanswered moment (Is.Report other parsed))
  same_report moment device other one parsed same reads_as = unanswered_same steps moment (Is.Report device one) (Is.Report other parsed) (same, reads_as) refl (λ s. tt) (λ s. tt)

  pub same_reports : (moment device : ℕ) (parsed : ReportRecord) → One (ReportComes moment device parsed)
  same_reports moment device parsed = record { one = λ l hs rest a ks more b e c d (one, is, p) (other, its, q). (same_report moment device device one other refl (is ∙ sym its)).one l hs rest a ks more b e c d p q }

  -- ---- what a connection asks

  same_events : (moment key id : ℕ) (who other : Client) (event parsed : Event) → who ≡ other → SameEvent event parsed → Same (ActsOn moment key id (ask.Event who event)) (ActsOn moment key id (ask.Event other parsed))
  same_events moment key id who other event parsed same reads_as =
      subst (λ (k : Client). Same (ActsOn moment key id (ask.Event who event)) (ActsOn moment key id (ask.Event k parsed))) same (same_answered steps moment key id who event parsed reads_as (queries event parsed reads_as))

  does_one : (moment key id : ℕ) (what : Ask) → One (ActsOn moment key id what)
  does_one moment key id ask.Nothing = same_nothing
  does_one moment key id (ask.Broke growth) = same_notifies (Refused (place_of growth) (Some id))
  does_one moment key id (ask.Event who event) = same_events moment key id who who event event refl (same_self event)
  does_one moment key id (ask.Unread request) = same_then (same_notifies (Refused At.Event (Some id))) (same_status key TemporaryError request)
  does_one moment key id (ask.Lost which) = same_then (same_notifies (Refused (place_of_part which) (Some id))) (same_enqueues key (1 ∷ []))
  does_one moment key id (ask.Hello device name) = record { one = greets moment key id device name }
  does_one moment key id (ask.Report device parsed) = one_report steps moment device parsed
  does_one moment key id (ask.UnknownDevice name) = same_notifies (DeviceRefused id (why.UnknownName name))
  does_one moment key id (ask.Fault device) = same_notifies (DeviceRefused id (why.Fault device))

  as_one : (moment key id : ℕ) (what parsed : Ask) → what ≡ parsed → Same (ActsOn moment key id what) (ActsOn moment key id parsed)
  as_one moment key id what parsed same = subst (λ (x : Ask). Same (ActsOn moment key id what) (ActsOn moment key id x)) same (does_one moment key id what)

  pub same_does : (moment key id : ℕ) (what parsed : Ask) → SameAsk what parsed → Same (ActsOn moment key id what) (ActsOn moment key id parsed)
  same_does moment key id (ask.Event who event) (ask.Event other acted_on) same = same_events moment key id who other event acted_on same.0 same.1
  same_does moment key id (ask.Report device one) (ask.Report other acted_on) same = same_report moment device other one acted_on same.0 same.1
  same_does moment key id what parsed same = as_one moment key id what parsed same
