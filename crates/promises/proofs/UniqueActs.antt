-- Connections are closed, and their asks come about, in one way.
use Rattle.std.proofs.Common.{◌≡◌, ◌<◌, arith, ℕ, zero, suc, Bool, true, false, List, [], ◌∷◌, ◌++◌, refl, sym, ◌∙◌, ap, subst, Option, Some, None, inl, inr}
use Rattle.base_types.specs.declared.report.Report.{Report}
use Rattle.base_types.specs.declared.report.Report.TheVariants as report
use Rattle.base_types.specs.Report.{ReportRecord, report_of}
use Rattle.settings_file.specs.Settings.{ServerSettings}
use Rattle.events.specs.declared.event.Event.{Event}
use Rattle.events.specs.declared.event.Event.TheVariants as Is
use Rattle.dispatcher.specs.declared.observer.DeviceRefusal.TheVariants as why
use Rattle.dispatcher.specs.Notes.{DeviceRefused, Refused}
use Rattle.connections.specs.declared.ask.Ask.{Ask}
use Rattle.connections.specs.declared.ask.Ask.TheVariants as ask
use Rattle.connections.specs.declared.ask.Client.{Client}
use Rattle.connections.specs.Entry.{Entry, device_of, superseded_entry}
use Rattle.connections.specs.Asking.{AsksNext}
use Rattle.events.specs.SameEvent.{SameEvent}
use Rattle.connections.specs.Choice.{Loss, part_of, lost_of, SameAsk, AsksOne}
use Rattle.server.specs.Polls.{Happening, Polled, Notified, Choice, Rested, Chosen}
use Rattle.server.specs.Polls as As
use Rattle.server.specs.Ledger.{Ledger, Fate, Broken, with_entry}
use Rattle.server.specs.Rel.{Notifies, Then}
use Rattle.server.specs.Happening.{Unanswered}
use Rattle.server.specs.Closing.{Leaves, IsGone, ClosesAs, IsBroken, ClosesFirst, NoneBroken, ClosesBroken}
use Rattle.server.specs.Hello.{ReportComes, IsAlone, HasOther, IsSupersededAt, IsSuperseded, TakesOver, HandlesHello}
use Rattle.server.specs.Acting.{place_of, place_of_part, Asks, ActsOn, ActsNext}
use Rattle.promises.specs.OneLedger.{StepsOnce, SameQueries}
use Rattle.promises.proofs.Lowest.{as_device, other_one, one_ending}
use Rattle.promises.proofs.Determined.{Alike, Fixed, fixed_nothing, fixed_notifies, alike_then, first_one, same_choice, then_one, begins_just, Begins, is_choice, fixed_until}
use Rattle.promises.proofs.UniqueDue.{fixed_sets}
use Rattle.promises.proofs.UniqueEvents.{unanswered_alike, fixed_report}
use Rattle.promises.proofs.UniqueAnswers.{fixed_dropped, fixed_declines, same_answered}

-- ---- closings

pub same_entry : (o : Option Entry) (e d : Entry) → o ≡ Some e → o ≡ Some d → e ≡ d
same_entry o e d p q = cc

pub same_number : (n m : ℕ) → (n < m → ⊥) → (m < n → ⊥) → n ≡ m
same_number zero zero a b = refl
same_number zero (suc m) a b = absurd (a (omega arith))
same_number (suc n) zero a b = absurd (b (omega arith))
same_number (suc n) (suc m) a b = ap suc (same_number n m (λ less. a (omega (arith, less))) (λ less. b (omega (arith, less))))

fixed_leaves : (fate : Fate) (key : ℕ) (e : Entry) → Fixed (Leaves fate key e)
fixed_leaves fate key e = record { one = λ l hs rest a ks more b same p q. (p.0 ∙ sym q.0, p.2 ∙ sym q.2) }

pub broken_there : (l : Ledger) (key : ℕ) (e : Entry) → l.entries key ≡ Some e → e.broken ≡ true → IsBroken (l.entries key)
broken_there l key e there is = subst (λ (o : Option Entry). IsBroken o) (sym there) is

-- an event has the same content as itself
pub same_self : (event : Event) → SameEvent event event
same_self (Is.SubmitFiles request) = record { queue = refl; owner = refl; name = refl; documents = refl }
same_self (Is.ListQueue request) = record { queue = refl; form = refl; operands = refl }
same_self (Is.RemoveJobs request) = record { queue = refl; agent = refl; operands = refl }
same_self (Is.Report device report) = (refl, refl)
same_self event = refl

module _ (steps : StepsOnce) (queries : SameQueries) (asks : AsksOne) where
  fixed_gone : (moment : ℕ) (device : Option ℕ) → Fixed (IsGone moment device)
  fixed_gone moment None = fixed_nothing
  fixed_gone moment (Some device) = fixed_report steps moment device report.Gone

  pub fixed_closes_as : (moment : ℕ) (fate : Fate) (key : ℕ) (e : Entry) → Fixed (ClosesAs moment fate key e)
  fixed_closes_as moment fate key e = alike_then (fixed_leaves fate key e) (fixed_gone moment (device_of e.progress))

  closes_first : (moment : ℕ) (l : Ledger) (hs rest : List Happening) (a : Ledger) (ks more : List Happening) (b : Ledger) → hs ++ rest ≡ ks ++ more → ClosesFirst moment l hs a → ClosesFirst moment l ks b → (hs ≡ ks) × (a ≡ b)
  closes_first moment l hs rest a ks more b e p q =
      let key : p.key ≡ q.key = same_number p.key q.key (λ less. q.first p.key less (broken_there l p.key p.entry p.there p.is_broken)) (λ less. p.first q.key less (broken_there l q.key q.entry q.there q.is_broken)) in
      let entry : p.entry ≡ q.entry = same_entry (l.entries q.key) p.entry q.entry (subst (λ (k : ℕ). l.entries k ≡ Some p.entry) key p.there) q.there in
      let closes : ClosesAs moment Broken p.key p.entry l ks b = subst (λ (k : ℕ). ClosesAs moment Broken k p.entry l ks b) (sym key) (subst (λ (x : Entry). ClosesAs moment Broken q.key x l ks b) (sym entry) q.closes) in
      (fixed_closes_as moment Broken p.key p.entry).one l hs rest a ks more b e p.closes closes

  none_closes : (moment : ℕ) (l : Ledger) (hs : List Happening) (a : Ledger) → NoneBroken l → ClosesFirst moment l hs a → ⊥
  none_closes moment l hs a none it = none it.key (broken_there l it.key it.entry it.there it.is_broken)

  pub fixed_closes_broken : (moment : ℕ) → Fixed (ClosesBroken moment)
  fixed_closes_broken moment = fixed_until (ClosesFirst moment) NoneBroken (record { one = closes_first moment }) (none_closes moment)

  -- ---- devices that say their names

  gives_way_at : (key : ℕ) (o : Option Entry) → Fixed (IsSupersededAt key o)
  gives_way_at key None = fixed_nothing
  gives_way_at key (Some e) = fixed_sets key (superseded_entry e)

  fixed_gives_way : (key : ℕ) → Fixed (IsSuperseded key)
  fixed_gives_way key = record { one = λ l hs rest a ks more b e p q. (gives_way_at key (l.entries key)).one l hs rest a ks more b e p q }

  fixed_takes_over : (moment old device : ℕ) (name : List ℕ) → Fixed (TakesOver moment old device name)
  fixed_takes_over moment old device name = alike_then (fixed_gives_way old) (alike_then (fixed_gone moment (Some device)) (fixed_report steps moment device (report.Hello name)))

  turned_away : (key id device : ℕ) → Fixed (Then (IsSuperseded key) (Notifies (DeviceRefused id (why.Connected device))))
  turned_away key id device = alike_then (fixed_gives_way key) (fixed_notifies (DeviceRefused id (why.Connected device)))

  not_alone : {A : Type 0} → (ended : Bool) (device key other : ℕ) (l : Ledger) → IsAlone device key l → HasOther ended device key other l → A
  not_alone ended device key other l alone it = absurd (alone other it.0 (as_device ended device (l.entries other) it.1))

  greets : (moment key id device : ℕ) (name : List ℕ) (l : Ledger) (hs rest : List Happening) (a : Ledger) (ks more : List Happening) (b : Ledger) → hs ++ rest ≡ ks ++ more → HandlesHello moment key id device name l hs a → HandlesHello moment key id device name l ks b → (hs ≡ ks) × (a ≡ b)
  greets moment key id device name l hs rest a ks more b e (inl (alone, p)) (inl (lone, q)) = (fixed_report steps moment device (report.Hello name)).one l hs rest a ks more b e p q
  greets moment key id device name l hs rest a ks more b e (inl (alone, p)) (inr (inl (other, is, q))) = not_alone true device key other l alone is
  greets moment key id device name l hs rest a ks more b e (inl (alone, p)) (inr (inr (other, is, q))) = not_alone false device key other l alone is
  greets moment key id device name l hs rest a ks more b e (inr (inl (other, is, p))) (inl (alone, q)) = not_alone true device key other l alone is
  greets moment key id device name l hs rest a ks more b e (inr (inr (other, is, p))) (inl (alone, q)) = not_alone false device key other l alone is
  greets moment key id device name l hs rest a ks more b e (inr (inl (old, is, p))) (inr (inl (other, its, q))) =
      let same : old ≡ other = other_one true true device key old other l is its in
      (fixed_takes_over moment old device name).one l hs rest a ks more b e p (subst (λ (k : ℕ). TakesOver moment k device name l ks b) (sym same) q)
  greets moment key id device name l hs rest a ks more b e (inr (inl (old, is, p))) (inr (inr (other, its, q))) = one_ending device key old other l is its
  greets moment key id device name l hs rest a ks more b e (inr (inr (old, is, p))) (inr (inl (other, its, q))) = one_ending device key other old l its is
  greets moment key id device name l hs rest a ks more b e (inr (inr (old, is, p))) (inr (inr (other, its, q))) = (turned_away key id device).one l hs rest a ks more b e p q

  pub same_report : (moment device other : ℕ) (one parsed : Report) → device ≡ other → report_of one ≡ report_of parsed → Alike (Unanswered moment (Is.Report device one)) (Unanswered moment (Is.Report other parsed))
  same_report moment device other one parsed same same_ask = unanswered_alike steps moment (Is.Report device one) (Is.Report other parsed) (same, same_ask) refl (λ s. tt) (λ s. tt)

  pub fixed_reports : (moment device : ℕ) (parsed : ReportRecord) → Fixed (ReportComes moment device parsed)
  fixed_reports moment device parsed = record { one = λ l hs rest a ks more b e (one, is, p) (other, its, q). (same_report moment device device one other refl (is ∙ sym its)).one l hs rest a ks more b e p q }

  -- ---- the asks of a connection

  same_events : (moment key id : ℕ) (who other : Client) (event parsed : Event) → who ≡ other → SameEvent event parsed → Alike (ActsOn moment key id (ask.Event who event)) (ActsOn moment key id (ask.Event other parsed))
  same_events moment key id who other event parsed same same_ask =
      subst (λ (c : Client). Alike (ActsOn moment key id (ask.Event who event)) (ActsOn moment key id (ask.Event c parsed))) same (same_answered steps moment key id who event parsed same_ask (queries event parsed same_ask))

  fixed_does : (moment key id : ℕ) (what : Ask) → Fixed (ActsOn moment key id what)
  fixed_does moment key id ask.Nothing = fixed_nothing
  fixed_does moment key id (ask.Broke growth) = fixed_notifies (Refused (place_of growth) (Some id))
  fixed_does moment key id (ask.Event who event) = same_events moment key id who who event event refl (same_self event)
  fixed_does moment key id (ask.Unread request) = fixed_dropped key id request
  fixed_does moment key id (ask.Lost part) = fixed_declines (place_of_part part) key id
  fixed_does moment key id (ask.Hello device name) = record { one = greets moment key id device name }
  fixed_does moment key id (ask.Report device parsed) = fixed_report steps moment device parsed
  fixed_does moment key id (ask.UnknownDevice name) = fixed_notifies (DeviceRefused id (why.UnknownName name))
  fixed_does moment key id (ask.Fault device) = fixed_notifies (DeviceRefused id (why.Fault device))

  as_one : (moment key id : ℕ) (what parsed : Ask) → what ≡ parsed → Alike (ActsOn moment key id what) (ActsOn moment key id parsed)
  as_one moment key id what parsed same = subst (λ (x : Ask). Alike (ActsOn moment key id what) (ActsOn moment key id x)) same (fixed_does moment key id what)

  same_does : (moment key id : ℕ) (what parsed : Ask) → SameAsk what parsed → Alike (ActsOn moment key id what) (ActsOn moment key id parsed)
  same_does moment key id (ask.Event who event) (ask.Event other acted_on) same = same_events moment key id who other event acted_on same.0 same.1
  same_does moment key id (ask.Report device one) (ask.Report other acted_on) same = same_report moment device other one acted_on same.0 same.1
  same_does moment key id ask.Nothing parsed same = as_one moment key id ask.Nothing parsed same
  same_does moment key id (ask.Broke growth) parsed same = as_one moment key id (ask.Broke growth) parsed same
  same_does moment key id (ask.Unread request) parsed same = as_one moment key id (ask.Unread request) parsed same
  same_does moment key id (ask.Lost part) parsed same = as_one moment key id (ask.Lost part) parsed same
  same_does moment key id (ask.Hello device name) parsed same = as_one moment key id (ask.Hello device name) parsed same
  same_does moment key id (ask.UnknownDevice name) parsed same = as_one moment key id (ask.UnknownDevice name) parsed same
  same_does moment key id (ask.Fault device) parsed same = as_one moment key id (ask.Fault device) parsed same
  same_does moment key id (ask.Event who event) ask.Nothing same = cc
  same_does moment key id (ask.Event who event) (ask.Broke growth) same = cc
  same_does moment key id (ask.Event who event) (ask.Unread request) same = cc
  same_does moment key id (ask.Event who event) (ask.Lost part) same = cc
  same_does moment key id (ask.Event who event) (ask.Hello device name) same = cc
  same_does moment key id (ask.Event who event) (ask.Report device acted_on) same = cc
  same_does moment key id (ask.Event who event) (ask.UnknownDevice name) same = cc
  same_does moment key id (ask.Event who event) (ask.Fault device) same = cc
  same_does moment key id (ask.Report device one) ask.Nothing same = cc
  same_does moment key id (ask.Report device one) (ask.Broke growth) same = cc
  same_does moment key id (ask.Report device one) (ask.Event who event) same = cc
  same_does moment key id (ask.Report device one) (ask.Unread request) same = cc
  same_does moment key id (ask.Report device one) (ask.Lost part) same = cc
  same_does moment key id (ask.Report device one) (ask.Hello other name) same = cc
  same_does moment key id (ask.Report device one) (ask.UnknownDevice name) same = cc
  same_does moment key id (ask.Report device one) (ask.Fault other) same = cc

  -- two asks of one entry are the same if their choices are
  asked_one : (settings : ServerSettings) (o : Option Entry) (e d : Entry) (what parsed : Ask) (new after : Entry) → o ≡ Some e → o ≡ Some d → (one : AsksNext settings what e new) (other : AsksNext settings parsed d after)
      → part_of one ≡ part_of other → lost_of what ≡ lost_of parsed → SameAsk what parsed × (new ≡ after)
  asked_one settings o e d what parsed new after there is one other part lost =
      (subst (λ (x : Entry). (it : AsksNext settings parsed x after) → part_of one ≡ part_of it → lost_of what ≡ lost_of parsed → SameAsk what parsed × (new ≡ after)) (same_entry o e d there is) (asks settings e what parsed new after one))
      other part lost

  same_asked : (part other : Option ℕ) (loss lost : Option Loss) → As.Asked part loss ≡ As.Asked other lost → (part ≡ other) × (loss ≡ lost)
  same_asked part other loss lost same = (cc, cc)

  -- two asks are one ask of one connection's number
  record OneAsk (id : ℕ) (what : Ask) (other : ℕ) (parsed : Ask) : Type 0 where
    ids : id ≡ other
    same_ask : SameAsk what parsed

  asks_one : (key id other : ℕ) (what parsed : Ask) (l : Ledger) (hs rest : List Happening) (a : Ledger) (ks more : List Happening) (b : Ledger) → hs ++ rest ≡ ks ++ more → Asks key id what l hs a → Asks key other parsed l ks b → OneAsk id what other parsed × (hs ≡ ks) × (a ≡ b)
  asks_one key id other what parsed l hs rest a ks more b e p q =
      let left = part_of p.asks in
      let right = part_of q.asks in
      let choice : As.Asked left (lost_of what) ≡ As.Asked right (lost_of parsed) = same_choice (As.Asked left (lost_of what)) (As.Asked right (lost_of parsed)) (first_one (Chosen (As.Asked left (lost_of what))) (Chosen (As.Asked right (lost_of parsed))) hs rest ks more [] [] e p.chosen q.chosen) in
      let chosen = same_asked left right (lost_of what) (lost_of parsed) choice in
      let one = asked_one l.core.settings (l.entries key) p.entry q.entry what parsed p.new q.new p.there q.there p.asks q.asks chosen.0 chosen.1 in
      let entry : p.entry ≡ q.entry = same_entry (l.entries key) p.entry q.entry p.there q.there in (
        record { ids = p.its ∙ (ap (λ (x : Entry). x.id) entry ∙ sym q.its); same_ask = one.0 },
        p.chosen ∙ (ap (λ (c : Choice). Chosen c ∷ []) choice ∙ sym q.chosen),
        p.after ∙ (ap (λ (x : Entry). with_entry key x l) one.1 ∙ sym q.after),
      )

  acts_one : (moment key : ℕ) (l : Ledger) (hs rest : List Happening) (a : Ledger) (ks more : List Happening) (b : Ledger) → hs ++ rest ≡ ks ++ more → ActsNext moment key l hs a → ActsNext moment key l ks b → (hs ≡ ks) × (a ≡ b)
  acts_one moment key l hs rest a ks more b e (id, what, p) (other, parsed, q) =
      let it = then_one (Asks key id what) (Asks key other parsed) (ActsOn moment key id what) (ActsOn moment key other parsed) l hs rest a ks more b e p q
      (λ left right both. asks_one key id other what parsed l p.prefix left p.mid q.prefix right q.mid both p.first q.first)
      (λ one. subst (λ (x : ℕ). Alike (ActsOn moment key id what) (ActsOn moment key x parsed)) one.ids (same_does moment key id what parsed one.same_ask)) in
      (it.1, it.2)

  pub fixed_acts_next : (moment key : ℕ) → Fixed (ActsNext moment key)
  fixed_acts_next moment key = record { one = acts_one moment key }

-- a connection asks once more, or nothing more
abbrev pub asked_now : Choice → Bool
asked_now (As.Asked part loss) = true
asked_now As.Found = false
asked_now (As.Opened key) = false
asked_now As.Rested = false
asked_now (As.Looked keys) = false

abbrev pub is_asked : Happening → Bool
is_asked (Polled poll) = false
is_asked (Notified note) = false
is_asked (Chosen choice) = asked_now choice

pub asked_first : (moment key : ℕ) → Begins is_asked true (ActsNext moment key)
asked_first moment key = record {
  begins = λ l hs a (id, what, p). begins_just is_asked true (Chosen (As.Asked (part_of p.first.asks) (lost_of what))) p.back hs refl (p.whole ∙ ap (λ (xs : List Happening). xs ++ p.back) p.first.chosen);
}

pub chosen_first : (moment key : ℕ) → Begins is_choice true (ActsNext moment key)
chosen_first moment key = record {
  begins = λ l hs a (id, what, p). begins_just is_choice true (Chosen (As.Asked (part_of p.first.asks) (lost_of what))) p.back hs refl (p.whole ∙ ap (λ (xs : List Happening). xs ++ p.back) p.first.chosen);
}
