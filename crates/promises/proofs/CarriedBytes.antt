-- The bytes read and the bytes taken of each connection are the bytes that the wire carried.
use Rattle.std.proofs.Common.{◌≡◌, ◌≢◌, ℕ, zero, suc, Bool, true, false, List, [], ◌∷◌, ◌++◌, length, take, drop, refl, sym, ◌∙◌, ap, subst, append_assoc, append-nil, Option, Some, None, ◌⊎◌, inl, inr}
use Rattle.std.specs.Prelude.{◌==◌, ◌||◌, nat_lt, if◌then◌else◌, map}
use Rattle.base_types.specs.declared.limits.TheConstants.Limits.{CONNECTIONS}
use Rattle.base_types.specs.declared.report.Report.TheVariants as report
use Rattle.settings_file.specs.Settings.{ServerSettings}
use Rattle.events.specs.declared.event.Event.{Event}
use Rattle.events.specs.declared.event.Event.TheVariants as Is
use Rattle.events.specs.declared.effects.Response.{Response}
use Rattle.events.specs.declared.effects.Response.TheVariants as answered
use Rattle.events.specs.declared.effects.LpdResponse.{LpdResponse}
use Rattle.events.specs.declared.effects.LpdResponse.TheVariants as shown
use Rattle.events.specs.declared.effects.Effects.{Effects}
use Rattle.events.specs.declared.status.Status.{Status}
use Rattle.events.specs.declared.status.Status.TheVariants.{TemporaryError}
use Rattle.events.specs.Event.{is_query}
use Rattle.device_link.specs.Orders.{cancel_line}
use Rattle.dispatcher.specs.declared.observer.DeviceRefusal.TheVariants as why
use Rattle.dispatcher.specs.declared.observer.AllocationSite.{AllocationSite}
use Rattle.dispatcher.specs.declared.observer.AllocationSite.TheVariants as At
use Rattle.dispatcher.specs.Notes.{Note, DeviceRefused, Refused}
use Rattle.dispatcher.specs.declared.handled.Dispatch.{Dispatch}
use Rattle.dispatcher.specs.declared.handled.Dispatch.TheVariants as dispatch
use Rattle.dispatcher.specs.Run.{Outcome, effects_of}
use Rattle.ipp_operations.specs.declared.parsed_request.ParsedRequest.{ParsedRequest}
use Rattle.ipp_operations.specs.declared.parsed_request.ParsedRequest.TheVariants as asked
use Rattle.ipp_operations.specs.QueueText.{ack_of, text_of}
use Rattle.connections.specs.SendQueue.{IsPrefix}
use Rattle.connections.specs.Reply.{http_reply}
use Rattle.wires.specs.Poll.{Poll, Accepts, Reads, Writes, Closes}
use Rattle.wires.specs.declared.wire.Progress.{Progress as WireAnswer}
use Rattle.wires.specs.declared.wire.Progress.TheVariants as wire
use Rattle.wires.specs.declared.wire.Door.{Door}
use Rattle.wires.specs.declared.wire.Door.TheVariants.{Ipp, Lpd, Devices}
use Rattle.connections.specs.declared.ask.Ask.{Ask}
use Rattle.connections.specs.declared.ask.Ask.TheVariants as ask
use Rattle.connections.specs.declared.ask.Client.{Client}
use Rattle.connections.specs.declared.ask.Client.TheVariants as client
use Rattle.connections.specs.declared.step.Step.{Step}
use Rattle.connections.specs.declared.step.Step.TheVariants as step
use Rattle.connections.specs.Steps.{http_status, due_bytes}
use Rattle.connections.specs.Entry.{PeerRecord, Http, Queue, Link, Entry, opening_entry, device_of, closes_of, broken, owing, superseded_entry, with_progress, finishing, reading, waiting, needs_memory}
use Rattle.connections.specs.Asking.{ItemComes, StepsTo, AsksNext}
use Rattle.server.specs.Polls.{Happening, Polled, Notified, Choice, Found, Rested, Looked, Chosen}
use Rattle.server.specs.Ledger.{Ledger, Fate, Drained, Broken, at_key, with_entry, job_bytes, opening_ledger}
use Rattle.print_room.specs.State.{State}
use Rattle.server.specs.Rel.{Rel, Nothing, Polls, Notifies, Chooses, Then, If, Or, Times, Many, Each, EachOf}
use Rattle.server.specs.Enqueuing.{Sets, BreaksAt, Breaks, Drops, EnqueuesOpen, EnqueuesAt, EnqueuesWhere, Enqueues, EnqueuesReplyAt, EnqueuesResponse, EnqueuesStatus, EnqueuesOn}
use Rattle.server.specs.Happening.{now_at, found_by, Decides, Sends, Starts, StartsAll, StartsBy, SendsAll, Orders, Happens, Unanswered}
use Rattle.server.specs.Closing.{Leaves, IsGone, ClosesAs, ClosesFirst, ClosesBroken}
use Rattle.server.specs.Answering as Ans
use Rattle.server.specs.Hello.{IsSupersededAt, IsSuperseded, GivesName, TakesOver, HandlesHello}
use Rattle.server.specs.Acting.{place_of, place_of_part, Asks, ActsOn, ActsNext}
use Rattle.server.specs.Polling.{Opens, AcceptsAs, AcceptsOne, AcceptsAt, Acts, Serves, FedWhole, FeedsAt, FeedsOne, Fails, ReadsAs, ReadsOpen, ReadsAt, is_read, ReadsOne, WritesAs, WritesOpen, WritesAt, WritesOne, is_done, EndsAt, EndsOne}
use Rattle.server.specs.Turn as Between
use Rattle.server.specs.Turn.{Ticks, Notes, is_tick_due, TicksIfDue, Covers, Round, Turn, BodyAsks, BodyComes, Action, Turned, Served_body, Reported, Ticked, Trace, DoesAction, Runs}
use Rattle.server.specs.Law.{happenings_of, happenings_in}
use Rattle.promises.specs.Carried.{Carried, nothing_carried, at_number, carry, carried, IsNew, AreNew, carried_in, NumbersDiffer, IsCarried}
use Rattle.promises.proofs.SentToDevices.{same_key, other_key, is_key, not_key}

-- ---- one connection

-- more bytes may be due on the connection, and it may count no longer; the bytes taken are the same, and so are the bytes read while it counts
record Steady (d e : Entry) : Type 0 where
  id : e.id ≡ d.id
  taken : e.taken ≡ d.taken
  more : (rest : List ℕ) × (e.due ≡ d.due ++ rest)
  read : e.draining ≡ false → e.broken ≡ false → (d.draining ≡ false) × (d.broken ≡ false) × (e.read ≡ d.read)

no_more : (d e : Entry) → e.due ≡ d.due → (rest : List ℕ) × (e.due ≡ d.due ++ rest)
no_more d e same = ([], same ∙ sym (append-nil d.due))

steady_same : (e : Entry) → Steady e e
steady_same e = record { id = refl; taken = refl; more = no_more e e refl; read = λ draining sound. (draining, sound, refl) }

steady_owing : (e : Entry) (bytes : List ℕ) → Steady e (owing bytes e)
steady_owing e bytes = record { id = refl; taken = refl; more = (bytes, refl); read = λ draining sound. (draining, sound, refl) }

steady_broken : (e : Entry) → Steady e (broken e)
steady_broken e = record { id = refl; taken = refl; more = no_more e (broken e) refl; read = λ draining sound. cc }

steady_given_up : (e : Entry) → Steady e (superseded_entry e)
steady_given_up e = record { id = refl; taken = refl; more = no_more e (superseded_entry e) refl; read = λ draining sound. cc }

steady_ended : (e : Entry) → Steady e (record e { ended = true })
steady_ended e = record { id = refl; taken = refl; more = no_more e (record e { ended = true }) refl; read = λ draining sound. (draining, sound, refl) }

-- the change of the entry by an ask
steady_progress : (e mid : Entry) (progress : PeerRecord) → mid ≡ with_progress progress e → (mid.id ≡ e.id) × (mid.taken ≡ e.taken) × (mid.due ≡ e.due) × (mid.read ≡ e.read)
steady_progress e mid progress is = (ap (λ (x : Entry). x.id) is, ap (λ (x : Entry). x.taken) is, ap (λ (x : Entry). x.due) is, ap (λ (x : Entry). x.read) is)

steady_mid : (e mid : Entry) → mid ≡ e → (mid.id ≡ e.id) × (mid.taken ≡ e.taken) × (mid.due ≡ e.due) × (mid.read ≡ e.read)
steady_mid e mid is = (ap (λ (x : Entry). x.id) is, ap (λ (x : Entry). x.taken) is, ap (λ (x : Entry). x.due) is, ap (λ (x : Entry). x.read) is)

comes_mid : (settings : ServerSettings) (progress : PeerRecord) (e : Entry) (comes : Step) (mid : Entry) → ItemComes settings progress e comes mid → (mid.id ≡ e.id) × (mid.taken ≡ e.taken) × (mid.due ≡ e.due) × (mid.read ≡ e.read)
comes_mid settings (Http parsed closes body) e comes mid next = steady_progress e mid _ next.after
comes_mid settings (Queue items session) e comes mid (inl next) = steady_progress e mid _ next.after
comes_mid settings (Queue items session) e comes mid (inr (inl next)) = steady_mid e mid next.after
comes_mid settings (Queue items session) e comes mid (inr (inr next)) = steady_mid e mid next.1
comes_mid settings (Link reports device) e comes mid (inl next) = steady_progress e mid _ next.after
comes_mid settings (Link reports device) e comes mid (inr (inl next)) = steady_mid e mid next.after
comes_mid settings (Link reports device) e comes mid (inr (inr next)) = steady_mid e mid next.1

counted : (draining is : Bool) → (draining || is) ≡ false → (draining ≡ false) × (is ≡ false)
counted true is none = cc
counted false is none = (refl, none)

step_owes : (e mid new : Entry) (bytes : List ℕ) (last : Bool) → (e.draining || e.broken) ≡ false → (mid.id ≡ e.id) × (mid.taken ≡ e.taken) × (mid.due ≡ e.due) × (mid.read ≡ e.read) → new ≡ owing bytes (finishing last mid) → Steady e new
step_owes e mid new bytes last counts same is =
    let sound = counted e.draining e.broken counts in
    record {
      id = ap (λ (x : Entry). x.id) is ∙ same.0;
      taken = ap (λ (x : Entry). x.taken) is ∙ same.1;
      more = (bytes, ap (λ (x : Entry). x.due) is ∙ ap (λ (due : List ℕ). due ++ bytes) same.2);
      read = λ draining unbroken. (sound.0, sound.1, ap (λ (x : Entry). x.read) is ∙ same.3);
    }

step_asks : (e mid new : Entry) (last : Bool) → (e.draining || e.broken) ≡ false → (mid.id ≡ e.id) × (mid.taken ≡ e.taken) × (mid.due ≡ e.due) × (mid.read ≡ e.read) → new ≡ finishing last mid → Steady e new
step_asks e mid new last counts same is =
    let sound = counted e.draining e.broken counts in
    record {
      id = ap (λ (x : Entry). x.id) is ∙ same.0;
      taken = ap (λ (x : Entry). x.taken) is ∙ same.1;
      more = no_more e new (ap (λ (x : Entry). x.due) is ∙ same.2);
      read = λ draining unbroken. (sound.0, sound.1, ap (λ (x : Entry). x.read) is ∙ same.3);
    }

step_breaks : (e mid new : Entry) (last : Bool) → (e.draining || e.broken) ≡ false → (mid.id ≡ e.id) × (mid.taken ≡ e.taken) × (mid.due ≡ e.due) × (mid.read ≡ e.read) → new ≡ broken (finishing last mid) → Steady e new
step_breaks e mid new last counts same is =
    let sound = counted e.draining e.broken counts in
    record {
      id = ap (λ (x : Entry). x.id) is ∙ same.0;
      taken = ap (λ (x : Entry). x.taken) is ∙ same.1;
      more = no_more e new (ap (λ (x : Entry). x.due) is ∙ same.2);
      read = λ draining unbroken. (sound.0, sound.1, ap (λ (x : Entry). x.read) is ∙ same.3);
    }

step_fails : (e mid new : Entry) → (e.draining || e.broken) ≡ false → (mid.id ≡ e.id) × (mid.taken ≡ e.taken) × (mid.due ≡ e.due) × (mid.read ≡ e.read) → new ≡ broken mid → Steady e new
step_fails e mid new counts same is =
    let sound = counted e.draining e.broken counts in
    record {
      id = ap (λ (x : Entry). x.id) is ∙ same.0;
      taken = ap (λ (x : Entry). x.taken) is ∙ same.1;
      more = no_more e new (ap (λ (x : Entry). x.due) is ∙ same.2);
      read = λ draining unbroken. (sound.0, sound.1, ap (λ (x : Entry). x.read) is ∙ same.3);
    }

steady_step : (e mid new : Entry) (comes : Step) (what : Ask) → (e.draining || e.broken) ≡ false → (mid.id ≡ e.id) × (mid.taken ≡ e.taken) × (mid.due ≡ e.due) × (mid.read ≡ e.read) → StepsTo comes mid what new → Steady e new
steady_step e mid new (step.Due due last) what counts same (inl is) = step_owes e mid new (due_bytes due) last counts same is.1
steady_step e mid new (step.Due due last) what counts same (inr is) = step_breaks e mid new last counts same is.2
steady_step e mid new (step.Asks it last) what counts same is = step_asks e mid new last counts same is.1
steady_step e mid new (step.Breaks it) what counts same is = step_fails e mid new counts same is.1

steady_asks : (settings : ServerSettings) (what : Ask) (e new : Entry) → AsksNext settings what e new → Steady e new
steady_asks settings what e new a = steady_step e a.mid new a.comes what a.counts (comes_mid settings e.progress e a.comes a.mid a.takes_item) a.steps

-- ---- all connections

-- the ledger has the bytes that were carried on each open connection
record Agrees (c : Carried) (l : Ledger) : Type 0 where
  there : (key : ℕ) (e : Entry) → l.entries key ≡ Some e → c.open_now e.id ≡ true
  one : (key other : ℕ) (e d : Entry) → l.entries key ≡ Some e → l.entries other ≡ Some d → e.id ≡ d.id → key ≡ other
  taken : (key : ℕ) (e : Entry) → l.entries key ≡ Some e → e.taken ≡ c.taken e.id
  prefix : (key : ℕ) (e : Entry) → l.entries key ≡ Some e → (rest : List ℕ) × (e.due ≡ e.taken ++ rest)
  read : (key : ℕ) (e : Entry) → l.entries key ≡ Some e → e.draining ≡ false → e.broken ≡ false → e.read ≡ c.read e.id

-- each connection is unchanged, or steady
abbrev Follow : Ledger → Ledger → Type 0
Follow l l' = (key : ℕ) (e : Entry) → l'.entries key ≡ Some e → (d : Entry) × (l.entries key ≡ Some d) × Steady d e

agrees_steady : (c : Carried) (l l' : Ledger) → Agrees c l → Follow l l' → Agrees c l'
agrees_steady c l l' a follow = record {
  there = λ key e is. let d = follow key e is in ap c.open_now d.2.id ∙ a.there key d.0 d.1;
  one = λ key other e f is its same. let d = follow key e is in let g = follow other f its in a.one key other d.0 g.0 d.1 g.1 (sym d.2.id ∙ (same ∙ g.2.id));
  taken = λ key e is. let d = follow key e is in d.2.taken ∙ (a.taken key d.0 d.1 ∙ ap c.taken (sym d.2.id));
  prefix = λ key e is.
      let d = follow key e is in
      let f = a.prefix key d.0 d.1 in
      (f.0 ++ d.2.more.0, d.2.more.1 ∙ (ap (λ (xs : List ℕ). xs ++ d.2.more.0) f.1 ∙ (append_assoc d.0.taken f.0 d.2.more.0 ∙ ap (λ (xs : List ℕ). xs ++ (f.0 ++ d.2.more.0)) (sym d.2.taken))));
  read = λ key e is draining sound.
      let d = follow key e is in
      let was = d.2.read draining sound in
      was.2 ∙ (a.read key d.0 d.1 was.0 was.1 ∙ ap c.read (sym d.2.id));
}

follow_same : (l l' : Ledger) → l'.entries ≡ l.entries → Follow l l'
follow_same l l' same key e is = (e, subst (λ (entries : ℕ → Option Entry). entries key ≡ Some e) same is, steady_same e)

some_one : (d e : Entry) → Some d ≡ Some e → d ≡ e
some_one d e same = cc

-- the connection under a key once another connection is set there, and under each other key
at_cases : (key : ℕ) (o : Option Entry) (entries : ℕ → Option Entry) (k : ℕ) → ((k ≡ key) × (at_key key o entries k ≡ o)) ⊎ ((k ≢ key) × (at_key key o entries k ≡ entries k))
at_cases key o entries k = by (k == key) refl
  where
    by : (t : Bool) → (k == key) ≡ t → ((k ≡ key) × (at_key key o entries k ≡ o)) ⊎ ((k ≢ key) × (at_key key o entries k ≡ entries k))
    by true is = inl (same_key k key is, ap (λ (t : Bool). if t then o else entries k) is)
    by false is = inr (other_key k key is, ap (λ (t : Bool). if t then o else entries k) is)

follow_sets : (key : ℕ) (d e : Entry) (l l' : Ledger) → l.entries key ≡ Some d → Steady d e → l' ≡ with_entry key e l → Follow l l'
follow_sets key d e l l' there steady after k f is = by (at_cases key (Some e) l.entries k)
  where
    here : l'.entries k ≡ at_key key (Some e) l.entries k
    here = ap (λ (x : Ledger). x.entries k) after

    by : ((k ≡ key) × (at_key key (Some e) l.entries k ≡ Some e)) ⊎ ((k ≢ key) × (at_key key (Some e) l.entries k ≡ l.entries k)) → (g : Entry) × (l.entries k ≡ Some g) × Steady g f
    by (inl (same, its)) = (d, ap l.entries same ∙ there, subst (λ (x : Entry). Steady d x) (some_one e f (sym its ∙ (sym here ∙ is))) steady)
    by (inr (apart, its)) = (f, sym its ∙ (sym here ∙ is), steady_same f)

-- ---- parts

carried_append : (c : Carried) (hs ks : List Happening) → carried c (hs ++ ks) ≡ carried (carried c hs) ks
carried_append c [] ks = refl
carried_append c (Polled poll ∷ hs) ks = carried_append (carry c poll) hs ks
carried_append c (Notified note ∷ hs) ks = carried_append c hs ks
carried_append c (Chosen choice ∷ hs) ks = carried_append c hs ks

new_append : (c : Carried) (hs ks : List Happening) → AreNew c (hs ++ ks) → AreNew c hs × AreNew (carried c hs) ks
new_append c [] ks new = (tt, new)
new_append c (Polled poll ∷ hs) ks new = let more = new_append (carry c poll) hs ks new.1 in ((new.0, more.0), more.1)
new_append c (Notified note ∷ hs) ks new = new_append c hs ks new
new_append c (Chosen choice ∷ hs) ks new = new_append c hs ks new

-- the carried bytes agree with the ledger after the part too
abbrev Carries : Rel → Type 0
Carries R = (c : Carried) (l : Ledger) (hs : List Happening) (l' : Ledger) → Agrees c l → AreNew c hs → R l hs l' → Agrees (carried c hs) l'

carries_then : (R S : Rel) → Carries R → Carries S → Carries (Then R S)
carries_then R S r s c l hs l' a new it =
    let both = new_append c it.prefix it.back (subst (AreNew c) it.whole new) in
    subst (λ (x : Carried). Agrees x l') (sym (ap (carried c) it.whole ∙ carried_append c it.prefix it.back)) (s (carried c it.prefix) it.mid it.back l' (r c l it.prefix it.mid a both.0 it.first) both.1 it.second)

carries_or : (R S : Rel) → Carries R → Carries S → Carries (Or R S)
carries_or R S r s c l hs l' a new (inl it) = r c l hs l' a new it
carries_or R S r s c l hs l' a new (inr it) = s c l hs l' a new it

carries_if : (t : Bool) (R S : Rel) → Carries R → Carries S → Carries (If t R S)
carries_if true R S r s c l hs l' a new it = r c l hs l' a new it
carries_if false R S r s c l hs l' a new it = s c l hs l' a new it

-- no call of the wire is made, and each connection follows
carries_quiet : (c : Carried) (l : Ledger) (hs : List Happening) (l' : Ledger) → Agrees c l → carried c hs ≡ c → Follow l l' → Agrees (carried c hs) l'
carries_quiet c l hs l' a same follow = subst (λ (x : Carried). Agrees x l') (sym same) (agrees_steady c l l' a follow)

carries_nothing : Carries Nothing
carries_nothing c l hs l' a new it = carries_quiet c l hs l' a (ap (carried c) it.0) (follow_same l l' (ap (λ (x : Ledger). x.entries) it.1))

carries_chooses : (choice : Choice) → Carries (Chooses choice)
carries_chooses choice c l hs l' a new it = carries_quiet c l hs l' a (ap (carried c) it.0) (follow_same l l' (ap (λ (x : Ledger). x.entries) it.1))

carries_notifies : (note : Note) → Carries (Notifies note)
carries_notifies note c l hs l' a new it = carries_quiet c l hs l' a (ap (carried c) it.0) (follow_same l l' (ap (λ (x : Ledger). x.entries) it.1))

carries_times : (n : ℕ) (R : Rel) → Carries R → Carries (Times n R)
carries_times zero R r = carries_nothing
carries_times (suc n) R r = carries_then (Times n R) R (carries_times n R r) r

carries_many : (R : Rel) → Carries R → Carries (Many R)
carries_many R r c l hs l' a new (n, it) = carries_times n R r c l hs l' a new it

carries_each : (n : ℕ) (R : ℕ → Rel) → ((key : ℕ) → Carries (R key)) → Carries (Each n R)
carries_each zero R r = carries_nothing
carries_each (suc n) R r = carries_then (Each n R) (R n) (carries_each n R r) (r n)

carries_each_of : {A : Type 0} (xs : List A) (R : A → Rel) → ((x : A) → Carries (R x)) → Carries (EachOf xs R)
carries_each_of [] R r = carries_nothing
carries_each_of (x ∷ xs) R r = carries_then (R x) (EachOf xs R) (r x) (carries_each_of xs R r)

-- one connection changes
carries_sets : (key : ℕ) (d e : Entry) (c : Carried) (l : Ledger) (hs : List Happening) (l' : Ledger) → Agrees c l → l.entries key ≡ Some d → Steady d e → Sets key e l hs l' → Agrees (carried c hs) l'
carries_sets key d e c l hs l' a there steady it = carries_quiet c l hs l' a (ap (carried c) it.0) (follow_sets key d e l l' there steady it.1)

carries_drops : (place : AllocationSite) (key : ℕ) (e : Entry) (c : Carried) (l : Ledger) (hs : List Happening) (l' : Ledger) → Agrees c l → l.entries key ≡ Some e → Drops place key e l hs l' → Agrees (carried c hs) l'
carries_drops place key e c l hs l' a there it = carries_quiet c l hs l' a (ap (carried c) it.0) (follow_sets key e (broken e) l l' there (steady_broken e) it.1)

-- ---- bytes that become due

-- a part that depends on the connection under a key
abbrev CarriesAt : ℕ → (Option Entry → Rel) → Type 0
CarriesAt key R = (o : Option Entry) (c : Carried) (l : Ledger) (hs : List Happening) (l' : Ledger) → l.entries key ≡ o → Agrees c l → AreNew c hs → R o l hs l' → Agrees (carried c hs) l'

at_breaks : (key : ℕ) → CarriesAt key (BreaksAt key)
at_breaks key None c l hs l' there a new it = carries_nothing c l hs l' a new it
at_breaks key (Some e) c l hs l' there a new it = carries_sets key e (broken e) c l hs l' a there (steady_broken e) it

carries_breaks : (key : ℕ) → Carries (Breaks key)
carries_breaks key c l hs l' a new it = at_breaks key (l.entries key) c l hs l' refl a new it

enqueues_open : (refusable : Bool) (key : ℕ) (bytes : List ℕ) (e : Entry) (c : Carried) (l : Ledger) (hs : List Happening) (l' : Ledger) → l.entries key ≡ Some e → Agrees c l → AreNew c hs → EnqueuesOpen refusable key bytes e l hs l' → Agrees (carried c hs) l'
enqueues_open false key bytes e c l hs l' there a new it = carries_sets key e (owing bytes e) c l hs l' a there (steady_owing e bytes) it
enqueues_open true key bytes e c l hs l' there a new (inl it) =
    carries_quiet c l hs l' a (ap (carried c) (it.whole ∙ (ap (λ (xs : List Happening). xs ++ it.back) it.first.0 ∙ ap (λ (xs : List Happening). Chosen Found ∷ xs) it.second.0)))
    (follow_sets key e (owing bytes e) l l' there (steady_owing e bytes) (it.second.1 ∙ ap (λ (x : Ledger). with_entry key (owing bytes e) x) it.first.1))
enqueues_open true key bytes e c l hs l' there a new (inr it) = carries_drops At.Enqueue key e c l hs l' a there it

enqueues_if : (t refusable : Bool) (key : ℕ) (bytes : List ℕ) (e : Entry) (c : Carried) (l : Ledger) (hs : List Happening) (l' : Ledger) → l.entries key ≡ Some e → Agrees c l → AreNew c hs → If t Nothing (EnqueuesOpen refusable key bytes e) l hs l' → Agrees (carried c hs) l'
enqueues_if true refusable key bytes e c l hs l' there a new it = carries_nothing c l hs l' a new it
enqueues_if false refusable key bytes e c l hs l' there a new it = enqueues_open refusable key bytes e c l hs l' there a new it

enqueues_at : (refusable : Entry → Bool) (key : ℕ) (bytes : List ℕ) → CarriesAt key (EnqueuesAt refusable key bytes)
enqueues_at refusable key bytes None c l hs l' there a new it = carries_nothing c l hs l' a new it
enqueues_at refusable key bytes (Some e) c l hs l' there a new it = enqueues_if e.broken (refusable e) key bytes e c l hs l' there a new it

carries_where : (refusable : Entry → Bool) (key : ℕ) (bytes : List ℕ) → Carries (EnqueuesWhere refusable key bytes)
carries_where refusable key bytes c l hs l' a new it = enqueues_at refusable key bytes (l.entries key) c l hs l' refl a new it

carries_enqueues : (key : ℕ) (bytes : List ℕ) → Carries (Enqueues key bytes)
carries_enqueues key bytes = carries_where (needs_memory bytes) key bytes

reply_at : (bytes : Bool → List ℕ) (key : ℕ) (o : Option Entry) → Carries (EnqueuesReplyAt bytes key o)
reply_at bytes key None = carries_nothing
reply_at bytes key (Some e) = carries_enqueues key (bytes (closes_of e.progress))

carries_reply : (key : ℕ) (bytes : List ℕ) → Carries (EnqueuesResponse key bytes)
carries_reply key bytes c l hs l' a new it = reply_at (λ closes. http_reply closes bytes) key (l.entries key) c l hs l' a new it

carries_status : (key : ℕ) (status : Status) (request : ℕ) → Carries (EnqueuesStatus key status request)
carries_status key status request c l hs l' a new it = reply_at (λ closes. http_status closes status request) key (l.entries key) c l hs l' a new it

carries_on : (refusable : Entry → Bool) (device : ℕ) (bytes : List ℕ) → Carries (EnqueuesOn refusable device bytes)
carries_on refusable device bytes c l hs l' a new (inl (key, is, it)) = carries_where refusable key bytes c l hs l' a new it
carries_on refusable device bytes c l hs l' a new (inr (absent, it)) = carries_nothing c l hs l' a new it

-- ---- events

carries_sends : (reply : Effects) → Carries (SendsAll reply)
carries_sends reply = carries_each_of reply.cancels.items Sends (λ cancel. carries_on (needs_memory (cancel_line cancel.job)) cancel.device (cancel_line cancel.job))

carries_starts : Carries StartsAll
carries_starts c l hs l' a new it = carries_each_of l.core.begun Starts (λ start d m ks n b fresh one. carries_on (λ e. true) start.device (job_bytes m.core start.job) d m ks n b fresh one) c l hs l' a new it

carries_starts_by : (made : Dispatch) → Carries (StartsBy made)
carries_starts_by dispatch.Query = carries_nothing
carries_starts_by dispatch.OutOfMemory = carries_nothing
carries_starts_by dispatch.Idle = carries_nothing
carries_starts_by dispatch.Planned = carries_starts

carries_orders : (outcome : Outcome) → Carries (Orders outcome)
carries_orders (Some handled) = carries_then (SendsAll handled.effects) (StartsBy handled.dispatch) (carries_sends handled.effects) (carries_starts_by handled.dispatch)
carries_orders None = carries_nothing

notified_carried : (c : Carried) (notes : List Note) → carried c (map Notified notes) ≡ c
notified_carried c [] = refl
notified_carried c (note ∷ notes) = notified_carried c notes

found_carried : (c : Carried) (outcome : Outcome) (hs : List Happening) → carried c (found_by outcome ++ hs) ≡ carried c hs
found_carried c (Some handled) hs = refl
found_carried c None hs = refl

carries_decides : (moment : ℕ) (event : Event) (outcome : Outcome) → Carries (Decides moment event outcome)
carries_decides moment event outcome c l hs l' a new it = carries_quiet c l hs l' a (ap (carried c) it.notified ∙ (found_carried c outcome (map Notified it.notes) ∙ notified_carried c it.notes)) (follow_same l l' (ap (λ (x : Ledger). x.entries) it.after))

carries_happens : (moment : ℕ) (event : Event) (outcome : Outcome) → Carries (Happens moment event outcome)
carries_happens moment event outcome = carries_then (Decides moment event outcome) (Orders outcome) (carries_decides moment event outcome) (carries_orders outcome)

carries_unanswered : (moment : ℕ) (event : Event) → Carries (Unanswered moment event)
carries_unanswered moment event c l hs l' a new (outcome, it) = carries_happens moment event outcome c l hs l' a new it

-- ---- answers

carries_dropped : (key id request : ℕ) → Carries (Ans.Drops key id request)
carries_dropped key id request = carries_then (Notifies (Refused At.Event (Some id))) (EnqueuesStatus key TemporaryError request) (carries_notifies (Refused At.Event (Some id))) (carries_status key TemporaryError request)

carries_lost : (key id request : ℕ) (query : Bool) → Carries (Ans.LosesReply key id request query)
carries_lost key id request query =
    carries_then (Notifies (Refused At.Reply (Some id))) (If query (EnqueuesStatus key TemporaryError request) (Breaks key)) (carries_notifies (Refused At.Reply (Some id)))
    (carries_if query (EnqueuesStatus key TemporaryError request) (Breaks key) (carries_status key TemporaryError request) (carries_breaks key))

carries_replies_with : (key id request : ℕ) (query : Bool) (answer : Response) → Carries (Ans.RepliesWith key id request query answer)
carries_replies_with key id request query (answered.Ipp answer) c l hs l' a new (inl (bytes, is, it)) = carries_then (Chooses Found) (EnqueuesResponse key bytes) (carries_chooses Found) (carries_reply key bytes) c l hs l' a new it
carries_replies_with key id request query (answered.Ipp answer) c l hs l' a new (inr it) = carries_lost key id request query c l hs l' a new it
carries_replies_with key id request query (answered.Lpd answer) c l hs l' a new it = carries_nothing c l hs l' a new it
carries_replies_with key id request query answered.Nothing c l hs l' a new it = carries_nothing c l hs l' a new it

carries_replies : (key id request : ℕ) (query : Bool) (reply : Option Effects) → Carries (Ans.Replies key id request query reply)
carries_replies key id request query (Some reply) = carries_replies_with key id request query reply.response
carries_replies key id request query None = carries_dropped key id request

carries_declines : (place : AllocationSite) (key id : ℕ) → Carries (Ans.Declines place key id)
carries_declines place key id = carries_then (Notifies (Refused place (Some id))) (Enqueues key (1 ∷ [])) (carries_notifies (Refused place (Some id))) (carries_enqueues key (1 ∷ []))

carries_shows : (key id : ℕ) (text : List ℕ) → Carries (Ans.Shows key id text)
carries_shows key id text =
    carries_or (Then (Chooses Found) (Enqueues key text)) (Then (Notifies (Refused At.Reply (Some id))) (Breaks key)) (carries_then (Chooses Found) (Enqueues key text) (carries_chooses Found) (carries_enqueues key text))
    (carries_then (Notifies (Refused At.Reply (Some id))) (Breaks key) (carries_notifies (Refused At.Reply (Some id))) (carries_breaks key))

carries_notified : (key id : ℕ) (answer : LpdResponse) → Carries (Ans.SendsLpd key id answer)
carries_notified key id (shown.Taken taken) = carries_enqueues key (ack_of (shown.Taken taken) ∷ [])
carries_notified key id (shown.Queue listing) = carries_shows key id (text_of (shown.Queue listing))
carries_notified key id shown.NoQueue = carries_shows key id (text_of shown.NoQueue)

carries_shown : (key id : ℕ) (answer : Response) → Carries (Ans.IsShown key id answer)
carries_shown key id (answered.Lpd answer) = carries_notified key id answer
carries_shown key id (answered.Ipp answer) = carries_nothing
carries_shown key id answered.Nothing = carries_nothing

carries_answers : (key id : ℕ) (who : Client) (query : Bool) (reply : Option Effects) → Carries (Ans.Answers key id who query reply)
carries_answers key id (client.Ipp request) query reply = carries_replies key id request query reply
carries_answers key id client.LpdJob query (Some reply) = carries_shown key id reply.response
carries_answers key id client.LpdJob query None = carries_declines At.Event key id
carries_answers key id client.LpdCommand query (Some reply) = carries_shown key id reply.response
carries_answers key id client.LpdCommand query None = carries_then (Notifies (Refused At.Event (Some id))) (Breaks key) (carries_notifies (Refused At.Event (Some id))) (carries_breaks key)

-- ---- closings

out_of : (key : ℕ) (e : Entry) (c : Carried) (l l' : Ledger) → Agrees c l → l.entries key ≡ Some e → l'.entries ≡ at_key key None l.entries → Agrees (carry c (Closes e.id)) l'
out_of key e c l l' a there after = record {
  there = λ k d is. let it = was k d is in ap (λ (t : Bool). if t then false else c.open_now d.id) (not_key d.id e.id (λ same. it.0 (a.one k key d e it.1 there same))) ∙ a.there k d it.1;
  one = λ k o d f is its same. let it = was k d is in let other = was o f its in a.one k o d f it.1 other.1 same;
  taken = λ k d is. a.taken k d (was k d is).1;
  prefix = λ k d is. a.prefix k d (was k d is).1;
  read = λ k d is draining sound. a.read k d (was k d is).1 draining sound;
}
  where
    by : (k : ℕ) (d : Entry) → ((k ≡ key) × (at_key key None l.entries k ≡ None)) ⊎ ((k ≢ key) × (at_key key None l.entries k ≡ l.entries k)) → at_key key None l.entries k ≡ Some d → (k ≢ key) × (l.entries k ≡ Some d)
    by k d (inl (same, its)) is = absurd (never (at_key key None l.entries k) its is)
      where
        never : (o : Option Entry) → o ≡ None → o ≡ Some d → ⊥
        never o p q = cc
    by k d (inr (apart, its)) is = (apart, sym its ∙ is)

    was : (k : ℕ) (d : Entry) → l'.entries k ≡ Some d → (k ≢ key) × (l.entries k ≡ Some d)
    was k d is = by k d (at_cases key None l.entries k) (subst (λ (entries : ℕ → Option Entry). entries k ≡ Some d) after is)

carries_leaves : (fate : Fate) (key : ℕ) (e : Entry) (c : Carried) (l : Ledger) (hs : List Happening) (l' : Ledger) → Agrees c l → l.entries key ≡ Some e → Leaves fate key e l hs l' → Agrees (carried c hs) l'
carries_leaves fate key e c l hs l' a there it = subst (λ (x : Carried). Agrees x l') (sym (ap (carried c) it.0)) (out_of key e c l l' a there (ap (λ (x : Ledger). x.entries) it.2))

carries_gone : (moment : ℕ) (device : Option ℕ) → Carries (IsGone moment device)
carries_gone moment None = carries_nothing
carries_gone moment (Some device) = carries_unanswered moment (Is.Report device report.Gone)

carries_closes : (moment : ℕ) (fate : Fate) (key : ℕ) (e : Entry) (c : Carried) (l : Ledger) (hs : List Happening) (l' : Ledger) → Agrees c l → l.entries key ≡ Some e → AreNew c hs → ClosesAs moment fate key e l hs l' → Agrees (carried c hs) l'
carries_closes moment fate key e c l hs l' a there new it =
    let both = new_append c it.prefix it.back (subst (AreNew c) it.whole new) in
    subst (λ (x : Carried). Agrees x l') (sym (ap (carried c) it.whole ∙ carried_append c it.prefix it.back))
    (carries_gone moment (device_of e.progress) (carried c it.prefix) it.mid it.back l' (carries_leaves fate key e c l it.prefix it.mid a there it.first) both.1 it.second)

carries_first : (moment : ℕ) → Carries (ClosesFirst moment)
carries_first moment c l hs l' a new it = carries_closes moment Broken it.key it.entry c l hs l' a it.there new it.closes

carries_closes_broken : (moment : ℕ) → Carries (ClosesBroken moment)
carries_closes_broken moment c l hs l' a new it = carries_many (ClosesFirst moment) (carries_first moment) c l hs l' a new it.0

-- ---- the asks of a connection

gives_way_at : (key : ℕ) → CarriesAt key (IsSupersededAt key)
gives_way_at key None c l hs l' there a new it = carries_nothing c l hs l' a new it
gives_way_at key (Some e) c l hs l' there a new it = carries_sets key e (superseded_entry e) c l hs l' a there (steady_given_up e) it

carries_way : (key : ℕ) → Carries (IsSuperseded key)
carries_way key c l hs l' a new it = gives_way_at key (l.entries key) c l hs l' refl a new it

carries_name : (moment device : ℕ) (name : List ℕ) → Carries (GivesName moment device name)
carries_name moment device name = carries_unanswered moment (Is.Report device (report.Hello name))

carries_over : (moment old device : ℕ) (name : List ℕ) → Carries (TakesOver moment old device name)
carries_over moment old device name =
    carries_then (IsSuperseded old) (Then (IsGone moment (Some device)) (GivesName moment device name)) (carries_way old)
    (carries_then (IsGone moment (Some device)) (GivesName moment device name) (carries_gone moment (Some device)) (carries_name moment device name))

carries_greets : (moment key id device : ℕ) (name : List ℕ) → Carries (HandlesHello moment key id device name)
carries_greets moment key id device name c l hs l' a new (inl (alone, it)) = carries_name moment device name c l hs l' a new it
carries_greets moment key id device name c l hs l' a new (inr (inl (old, has, it))) = carries_over moment old device name c l hs l' a new it
carries_greets moment key id device name c l hs l' a new (inr (inr (old, has, it))) =
    carries_then (IsSuperseded key) (Notifies (DeviceRefused id (why.Connected device))) (carries_way key) (carries_notifies (DeviceRefused id (why.Connected device))) c l hs l' a new it

carries_does : (moment key id : ℕ) (what : Ask) → Carries (ActsOn moment key id what)
carries_does moment key id ask.Nothing = carries_nothing
carries_does moment key id (ask.Broke growth) = carries_notifies (Refused (place_of growth) (Some id))
carries_does moment key id (ask.Event who event) =
    λ c l hs l' a new it. carries_then (Happens moment event it.0) (Ans.Answers key id who (is_query event) (effects_of it.0)) (carries_happens moment event it.0) (carries_answers key id who (is_query event) (effects_of it.0)) c l hs l' a new it.1
carries_does moment key id (ask.Unread request) = carries_dropped key id request
carries_does moment key id (ask.Lost part) = carries_declines (place_of_part part) key id
carries_does moment key id (ask.Hello device name) = carries_greets moment key id device name
carries_does moment key id (ask.Report device report) = carries_unanswered moment (Is.Report device report)
carries_does moment key id (ask.UnknownDevice name) = carries_notifies (DeviceRefused id (why.UnknownName name))
carries_does moment key id (ask.Fault device) = carries_notifies (DeviceRefused id (why.Fault device))

carries_asks : (key id : ℕ) (what : Ask) → Carries (Asks key id what)
carries_asks key id what c l hs l' a new it =
    carries_quiet c l hs l' a (ap (carried c) it.chosen) (follow_sets key it.entry it.new l l' it.there (steady_asks l.core.settings what it.entry it.new it.asks) it.after)

carries_acts : (moment key : ℕ) → Carries (Acts moment key)
carries_acts moment key =
    carries_then (ActsNext moment key) (ClosesBroken moment) (λ c l hs l' a new it. carries_then (Asks key it.0 it.1) (ActsOn moment key it.0 it.1) (carries_asks key it.0 it.1) (carries_does moment key it.0 it.1) c l hs l' a new it.2) (carries_closes_broken moment)

carries_serves : (moment key : ℕ) → Carries (Serves moment key)
carries_serves moment key c l hs l' a new it = carries_then (Many (Acts moment key)) (Chooses Rested) (carries_many (Acts moment key) (carries_acts moment key)) (carries_chooses Rested) c l hs l' a new it.0

-- ---- reads and writes

carries_fails : (moment key : ℕ) → Carries (Fails moment key)
carries_fails moment key = carries_then (Breaks key) (ClosesBroken moment) (carries_breaks key) (carries_closes_broken moment)

-- another entry of the same connection under a key, with the bytes carried for it: bytes read, or bytes taken
agrees_with : (key : ℕ) (d e : Entry) (c c' : Carried) (l l' : Ledger) → Agrees c l → l.entries key ≡ Some d → l'.entries ≡ at_key key (Some e) l.entries → e.id ≡ d.id → c'.open_now ≡ c.open_now
    → ((id : ℕ) → id ≢ d.id → (c'.taken id ≡ c.taken id) × (c'.read id ≡ c.read id)) → e.taken ≡ c'.taken d.id → ((rest : List ℕ) × (e.due ≡ e.taken ++ rest)) → (e.draining ≡ false → e.broken ≡ false → e.read ≡ c'.read d.id) → Agrees c' l'
agrees_with key d e c c' l l' a at after number still others taken prefix read = record {
  there = λ k f is. ap (λ (open_now : ℕ → Bool). open_now f.id) still ∙ there_at k f is (at_cases key (Some e) l.entries k);
  one = λ k o f g is its same. one_at k o f g is its same (at_cases key (Some e) l.entries k) (at_cases key (Some e) l.entries o);
  taken = λ k f is. taken_at k f is (at_cases key (Some e) l.entries k);
  prefix = λ k f is. prefix_at k f is (at_cases key (Some e) l.entries k);
  read = λ k f is draining sound. read_at k f is draining sound (at_cases key (Some e) l.entries k);
}
  where
    Each : ℕ → Type 0
    Each k = ((k ≡ key) × (at_key key (Some e) l.entries k ≡ Some e)) ⊎ ((k ≢ key) × (at_key key (Some e) l.entries k ≡ l.entries k))

    is_this : (k : ℕ) (f : Entry) → l'.entries k ≡ Some f → at_key key (Some e) l.entries k ≡ Some e → e ≡ f
    is_this k f is its = some_one e f (sym its ∙ subst (λ (entries : ℕ → Option Entry). entries k ≡ Some f) after is)

    is_old : (k : ℕ) (f : Entry) → l'.entries k ≡ Some f → at_key key (Some e) l.entries k ≡ l.entries k → l.entries k ≡ Some f
    is_old k f is its = sym its ∙ subst (λ (entries : ℕ → Option Entry). entries k ≡ Some f) after is

    differs : (k : ℕ) (f : Entry) → k ≢ key → l.entries k ≡ Some f → f.id ≢ d.id
    differs k f apart there same = apart (a.one k key f d there at same)

    there_at : (k : ℕ) (f : Entry) → l'.entries k ≡ Some f → Each k → c.open_now f.id ≡ true
    there_at k f is (inl (same, its)) = ap c.open_now (ap (λ (x : Entry). x.id) (sym (is_this k f is its)) ∙ number) ∙ a.there key d at
    there_at k f is (inr (apart, its)) = a.there k f (is_old k f is its)

    one_at : (k o : ℕ) (f g : Entry) → l'.entries k ≡ Some f → l'.entries o ≡ Some g → f.id ≡ g.id → Each k → Each o → k ≡ o
    one_at k o f g is its same (inl (p, q)) (inl (r, s)) = p ∙ sym r
    one_at k o f g is its same (inl (p, q)) (inr (r, s)) = absurd (differs o g r (is_old o g its s) (sym same ∙ (ap (λ (x : Entry). x.id) (sym (is_this k f is q)) ∙ number)))
    one_at k o f g is its same (inr (p, q)) (inl (r, s)) = absurd (differs k f p (is_old k f is q) (same ∙ (ap (λ (x : Entry). x.id) (sym (is_this o g its s)) ∙ number)))
    one_at k o f g is its same (inr (p, q)) (inr (r, s)) = a.one k o f g (is_old k f is q) (is_old o g its s) same

    taken_at : (k : ℕ) (f : Entry) → l'.entries k ≡ Some f → Each k → f.taken ≡ c'.taken f.id
    taken_at k f is (inl (same, its)) = subst (λ (x : Entry). x.taken ≡ c'.taken x.id) (is_this k f is its) (taken ∙ ap c'.taken (sym number))
    taken_at k f is (inr (apart, its)) = a.taken k f (is_old k f is its) ∙ sym (others f.id (differs k f apart (is_old k f is its))).0

    prefix_at : (k : ℕ) (f : Entry) → l'.entries k ≡ Some f → Each k → (rest : List ℕ) × (f.due ≡ f.taken ++ rest)
    prefix_at k f is (inl (same, its)) = subst (λ (x : Entry). (rest : List ℕ) × (x.due ≡ x.taken ++ rest)) (is_this k f is its) prefix
    prefix_at k f is (inr (apart, its)) = a.prefix k f (is_old k f is its)

    read_at : (k : ℕ) (f : Entry) → l'.entries k ≡ Some f → f.draining ≡ false → f.broken ≡ false → Each k → f.read ≡ c'.read f.id
    read_at k f is draining sound (inl (same, its)) =
        let this = is_this k f is its in
        subst (λ (x : Entry). x.read ≡ c'.read x.id) this (read (ap (λ (x : Entry). x.draining) this ∙ draining) (ap (λ (x : Entry). x.broken) this ∙ sound) ∙ ap c'.read (sym number))
    read_at k f is draining sound (inr (apart, its)) = a.read k f (is_old k f is its) draining sound ∙ sym (others f.id (differs k f apart (is_old k f is its))).1

at_this : {A : Type 0} (id : ℕ) (value : A) (table : ℕ → A) → at_number id value table id ≡ value
at_this id value table = ap (λ (t : Bool). if t then value else table id) (is_key id)

at_other : {A : Type 0} (id : ℕ) (value : A) (table : ℕ → A) (other : ℕ) → other ≢ id → at_number id value table other ≡ table other
at_other id value table other apart = ap (λ (t : Bool). if t then value else table other) (not_key other id apart)

-- a read brought these bytes, after which the connection is this one
agrees_read : (key : ℕ) (d e : Entry) (bytes : List ℕ) (c : Carried) (l l' : Ledger) → Agrees c l → l.entries key ≡ Some d → l' ≡ with_entry key e l → e.id ≡ d.id → e.taken ≡ d.taken → e.due ≡ d.due
    → (e.draining ≡ false → e.broken ≡ false → (d.draining ≡ false) × (d.broken ≡ false) × (e.read ≡ d.read ++ bytes)) → Agrees (carry c (Reads d.id (wire.Done bytes))) l'
agrees_read key d e bytes c l l' a at after number taken due read =
    agrees_with key d e c (carry c (Reads d.id (wire.Done bytes))) l l' a at (ap (λ (x : Ledger). x.entries) after) number refl (λ id apart. (refl, at_other d.id (c.read d.id ++ bytes) c.read id apart)) (taken ∙ a.taken key d at)
    (let f = a.prefix key d at in (f.0, due ∙ (f.1 ∙ ap (λ (xs : List ℕ). xs ++ f.0) (sym taken))))
    (λ draining sound. let was = read draining sound in was.2 ∙ (ap (λ (xs : List ℕ). xs ++ bytes) (a.read key d at was.0 was.1) ∙ sym (at_this d.id (c.read d.id ++ bytes) c.read)))

-- the parts after a read that brought bytes
abbrev Fed : ℕ → List ℕ → Rel → Type 0
Fed key bytes R = (e : Entry) (c : Carried) (l : Ledger) (hs : List Happening) (l' : Ledger) → Agrees c l → l.entries key ≡ Some e → AreNew (carry c (Reads e.id (wire.Done bytes))) hs → R l hs l' → Agrees (carried (carry c (Reads e.id (wire.Done bytes))) hs) l'

-- the connection is set to another, and then more comes
fed_then : (key : ℕ) (d e : Entry) (bytes : List ℕ) (hs prefix back : List Happening) (S : Rel) (c : Carried) (l mid l' : Ledger) → Carries S → Agrees c l → l.entries key ≡ Some d → hs ≡ prefix ++ back → ((k : Carried) → carried k prefix ≡ k) → mid ≡ with_entry key e l → e.id ≡ d.id → e.taken ≡ d.taken → e.due ≡ d.due
    → (e.draining ≡ false → e.broken ≡ false → (d.draining ≡ false) × (d.broken ≡ false) × (e.read ≡ d.read ++ bytes)) → AreNew (carry c (Reads d.id (wire.Done bytes))) hs → S mid back l' → Agrees (carried (carry c (Reads d.id (wire.Done bytes))) hs) l'
fed_then key d e bytes hs prefix back S c l mid l' s a there whole silent after number taken due read new it =
    let k = carry c (Reads d.id (wire.Done bytes)) in
    let first : Agrees (carried k prefix) mid = subst (λ (x : Carried). Agrees x mid) (sym (silent k)) (agrees_read key d e bytes c l mid a there after number taken due read) in
    let both = new_append k prefix back (subst (AreNew k) whole new) in
    subst (λ (x : Carried). Agrees x l') (sym (ap (carried k) whole ∙ carried_append k prefix back)) (s (carried k prefix) mid back l' first both.1 it)

fed_whole : (moment key : ℕ) (e : Entry) (bytes : List ℕ) (c : Carried) (l : Ledger) (hs : List Happening) (l' : Ledger) → Agrees c l → l.entries key ≡ Some e → AreNew (carry c (Reads e.id (wire.Done bytes))) hs → FedWhole moment key e bytes l hs l' → Agrees (carried (carry c (Reads e.id (wire.Done bytes))) hs) l'
fed_whole moment key e bytes c l hs l' a there new (inl it) =
    fed_then key e (reading bytes e) bytes hs it.prefix it.back (Serves moment key) c l it.mid l' (carries_serves moment key) a there it.whole (λ k. ap (carried k) it.first.0) it.first.1 refl refl refl (λ draining sound. (draining, sound, refl)) new it.second
fed_whole moment key e bytes c l hs l' a there new (inr it) =
    fed_then key e (broken e) bytes hs it.prefix it.back (ClosesBroken moment) c l it.mid l' (carries_closes_broken moment) a there it.whole (λ k. ap (carried k) it.first.0) it.first.1 refl refl refl (λ draining sound. cc) new it.second

fed_open : (t : Bool) (moment key : ℕ) (e : Entry) (bytes : List ℕ) (c : Carried) (l : Ledger) (hs : List Happening) (l' : Ledger) → e.draining ≡ t → Agrees c l → l.entries key ≡ Some e → AreNew (carry c (Reads e.id (wire.Done bytes))) hs → If t (Sets key e) (FedWhole moment key e bytes) l hs l' → Agrees (carried (carry c (Reads e.id (wire.Done bytes))) hs) l'
fed_open true moment key e bytes c l hs l' draining a there new it =
    subst (λ (x : Carried). Agrees x l') (sym (ap (carried (carry c (Reads e.id (wire.Done bytes)))) it.0)) (agrees_read key e e bytes c l l' a there it.1 refl refl refl (λ counts sound. absurd (untrue e.draining draining counts)))
  where
    untrue : (t : Bool) → t ≡ true → t ≡ false → ⊥
    untrue true p q = cc
    untrue false p q = cc
fed_open false moment key e bytes c l hs l' draining a there new it = fed_whole moment key e bytes c l hs l' a there new it

feeds_at : (moment key : ℕ) (bytes : List ℕ) (o : Option Entry) (e : Entry) (c : Carried) (l : Ledger) (hs : List Happening) (l' : Ledger) → o ≡ Some e → Agrees c l → l.entries key ≡ Some e → AreNew (carry c (Reads e.id (wire.Done bytes))) hs → FeedsAt moment key bytes o l hs l' → Agrees (carried (carry c (Reads e.id (wire.Done bytes))) hs) l'
feeds_at moment key bytes None e c l hs l' is a there new it = cc
feeds_at moment key bytes (Some d) e c l hs l' is a there new it =
    let this : FeedsAt moment key bytes (Some e) l hs l' = subst (λ (x : Entry). FeedsAt moment key bytes (Some x) l hs l') (some_one d e is) it in
    fed_open e.draining moment key e bytes c l hs l' refl a there new this

polled : (poll : Poll) (R : Rel) (c : Carried) (l : Ledger) (hs : List Happening) (l' : Ledger) → AreNew c hs → (it : Then (Polls poll) R l hs l') → IsNew c poll × AreNew (carry c poll) it.back × (hs ≡ Polled poll ∷ it.back) × R l it.back l'
polled poll R c l hs l' new it =
    let whole : hs ≡ Polled poll ∷ it.back = it.whole ∙ ap (λ (xs : List Happening). xs ++ it.back) it.first.0 in
    let both : AreNew c (Polled poll ∷ it.back) = subst (AreNew c) whole new in
    (both.0, both.1, whole, subst (λ (x : Ledger). R x it.back l') it.first.1 it.second)

carries_poll : (poll : Poll) (c : Carried) (l : Ledger) (hs : List Happening) (l' : Ledger) → carry c poll ≡ c → Agrees c l → Polls poll l hs l' → Agrees (carried c hs) l'
carries_poll poll c l hs l' same a it = carries_quiet c l hs l' a (ap (carried c) it.0 ∙ same) (follow_same l l' (ap (λ (x : Ledger). x.entries) it.1))

polled_then : (poll : Poll) (R : Rel) (c : Carried) (l : Ledger) (hs : List Happening) (l' : Ledger) → AreNew c hs → (it : Then (Polls poll) R l hs l') → (IsNew c poll → AreNew (carry c poll) it.back → R l it.back l' → Agrees (carried (carry c poll) it.back) l') → Agrees (carried c hs) l'
polled_then poll R c l hs l' new it goes = let p = polled poll R c l hs l' new it in subst (λ (x : Carried). Agrees x l') (sym (ap (carried c) p.2)) (goes p.0 p.1 p.3)

reads_as : (moment key : ℕ) (e : Entry) (answer : WireAnswer (List ℕ)) (c : Carried) (l : Ledger) (hs : List Happening) (l' : Ledger) → Agrees c l → l.entries key ≡ Some e → AreNew c hs → ReadsAs moment key e answer l hs l' → Agrees (carried c hs) l'
reads_as moment key e (wire.Done bytes) c l hs l' a there new it =
    polled_then (Reads e.id (wire.Done bytes)) (FeedsOne moment key bytes) c l hs l' new it (λ fresh more feeds. feeds_at moment key bytes (l.entries key) e c l it.back l' there a there more feeds)
reads_as moment key e wire.Waiting c l hs l' a there new it = carries_poll (Reads e.id wire.Waiting) c l hs l' refl a it
reads_as moment key e wire.End c l hs l' a there new it =
    polled_then (Reads e.id wire.End) (Sets key (record e { ended = true })) c l hs l' new it (λ fresh more sets. carries_sets key e (record e { ended = true }) c l it.back l' a there (steady_ended e) sets)
reads_as moment key e wire.Fault c l hs l' a there new it = polled_then (Reads e.id wire.Fault) (Fails moment key) c l hs l' new it (λ fresh more fails. carries_fails moment key c l it.back l' a more fails)

reads_if : (t : Bool) (moment key : ℕ) (e : Entry) (c : Carried) (l : Ledger) (hs : List Happening) (l' : Ledger) → Agrees c l → l.entries key ≡ Some e → AreNew c hs → If t (ReadsOpen moment key e) Nothing l hs l' → Agrees (carried c hs) l'
reads_if true moment key e c l hs l' a there new (answer, segment, it) = reads_as moment key e answer c l hs l' a there new it
reads_if false moment key e c l hs l' a there new it = carries_nothing c l hs l' a new it

reads_at : (moment key : ℕ) → CarriesAt key (ReadsAt moment key)
reads_at moment key None c l hs l' there a new it = carries_nothing c l hs l' a new it
reads_at moment key (Some e) c l hs l' there a new it = reads_if (is_read e) moment key e c l hs l' a there new it

carries_reads : (moment key : ℕ) → Carries (ReadsOne moment key)
carries_reads moment key c l hs l' a new it = reads_at moment key (l.entries key) c l hs l' refl a new it

-- the waiting bytes are the due bytes after the taken bytes
waits : (e : Entry) (rest : List ℕ) → e.due ≡ e.taken ++ rest → waiting e ≡ rest
waits e rest is = ap (λ (due : List ℕ). drop (length e.taken) due) is ∙ past e.taken rest
  where
    past : (xs ys : List ℕ) → drop (length xs) (xs ++ ys) ≡ ys
    past [] ys = refl
    past (x ∷ xs) ys = past xs ys

taken_prefix : (n : ℕ) (xs : List ℕ) → xs ≡ take n xs ++ drop n xs
taken_prefix zero xs = refl
taken_prefix (suc n) [] = refl
taken_prefix (suc n) (x ∷ xs) = ap (λ (ys : List ℕ). x ∷ ys) (taken_prefix n xs)

writes_done : (key n : ℕ) (e : Entry) (offered : List ℕ) (c : Carried) (l l' : Ledger) → Agrees c l → l.entries key ≡ Some e → IsPrefix offered (waiting e) → l' ≡ with_entry key (record e { taken = e.taken ++ take n offered }) l → Agrees (carry c (Writes e.id offered (wire.Done n))) l'
writes_done key n e offered c l l' a there prefix after =
    agrees_with key e (record e { taken = e.taken ++ take n offered }) c (carry c (Writes e.id offered (wire.Done n))) l l' a there (ap (λ (x : Ledger). x.entries) after) refl refl
    (λ id apart. (at_other e.id (c.taken e.id ++ take n offered) c.taken id apart, refl)) (ap (λ (xs : List ℕ). xs ++ take n offered) (a.taken key e there) ∙ sym (at_this e.id (c.taken e.id ++ take n offered) c.taken))
    (drop n offered ++ prefix.rest, due) (λ draining sound. a.read key e there draining sound)
  where
    due : e.due ≡ (e.taken ++ take n offered) ++ (drop n offered ++ prefix.rest)
    due =
        let f = a.prefix key e there in
        let rest : f.0 ≡ offered ++ prefix.rest = sym (waits e f.0 f.1) ∙ prefix.whole in
        f.1 ∙ (ap (λ (xs : List ℕ). e.taken ++ xs) (rest ∙ (ap (λ (xs : List ℕ). xs ++ prefix.rest) (taken_prefix n offered) ∙ append_assoc (take n offered) (drop n offered) prefix.rest)) ∙ sym (append_assoc e.taken (take n offered) (drop n offered ++ prefix.rest)))

writes_as : (moment key : ℕ) (e : Entry) (offered : List ℕ) (answer : WireAnswer ℕ) (c : Carried) (l : Ledger) (hs : List Happening) (l' : Ledger) → Agrees c l → l.entries key ≡ Some e → IsPrefix offered (waiting e) → AreNew c hs → WritesAs moment key e offered answer l hs l' → Agrees (carried c hs) l'
writes_as moment key e offered (wire.Done n) c l hs l' a there prefix new it =
    polled_then (Writes e.id offered (wire.Done n)) (Sets key (record e { taken = e.taken ++ take n offered })) c l hs l' new it
    (λ fresh more sets. subst (λ (x : Carried). Agrees x l') (sym (ap (carried (carry c (Writes e.id offered (wire.Done n)))) sets.0)) (writes_done key n e offered c l l' a there prefix sets.1))
writes_as moment key e offered wire.Waiting c l hs l' a there prefix new it = carries_poll (Writes e.id offered wire.Waiting) c l hs l' refl a it
writes_as moment key e offered wire.End c l hs l' a there prefix new it = polled_then (Writes e.id offered wire.End) (Fails moment key) c l hs l' new it (λ fresh more fails. carries_fails moment key c l it.back l' a more fails)
writes_as moment key e offered wire.Fault c l hs l' a there prefix new it = polled_then (Writes e.id offered wire.Fault) (Fails moment key) c l hs l' new it (λ fresh more fails. carries_fails moment key c l it.back l' a more fails)

writes_if : (t : Bool) (moment key : ℕ) (e : Entry) (c : Carried) (l : Ledger) (hs : List Happening) (l' : Ledger) → Agrees c l → l.entries key ≡ Some e → AreNew c hs → If t (WritesOpen moment key e) Nothing l hs l' → Agrees (carried c hs) l'
writes_if true moment key e c l hs l' a there new (offered, prefix, answer, it) = writes_as moment key e offered answer c l hs l' a there prefix new it
writes_if false moment key e c l hs l' a there new it = carries_nothing c l hs l' a new it

writes_at : (moment key : ℕ) → CarriesAt key (WritesAt moment key)
writes_at moment key None c l hs l' there a new it = carries_nothing c l hs l' a new it
writes_at moment key (Some e) c l hs l' there a new it = writes_if (nat_lt 0 (length (waiting e))) moment key e c l hs l' a there new it

carries_writes : (moment key : ℕ) → Carries (WritesOne moment key)
carries_writes moment key c l hs l' a new it = writes_at moment key (l.entries key) c l hs l' refl a new it

-- ---- closings that are not at once

ends_if : (t : Bool) (moment key : ℕ) (e : Entry) (c : Carried) (l : Ledger) (hs : List Happening) (l' : Ledger) → Agrees c l → l.entries key ≡ Some e → AreNew c hs → If t (Then (ClosesAs moment Drained key e) (ClosesBroken moment)) Nothing l hs l' → Agrees (carried c hs) l'
ends_if true moment key e c l hs l' a there new it =
    let both = new_append c it.prefix it.back (subst (AreNew c) it.whole new) in
    subst (λ (x : Carried). Agrees x l') (sym (ap (carried c) it.whole ∙ carried_append c it.prefix it.back))
    (carries_closes_broken moment (carried c it.prefix) it.mid it.back l' (carries_closes moment Drained key e c l it.prefix it.mid a there both.0 it.first) both.1 it.second)
ends_if false moment key e c l hs l' a there new it = carries_nothing c l hs l' a new it

ends_at : (moment key : ℕ) → CarriesAt key (EndsAt moment key)
ends_at moment key None c l hs l' there a new it = carries_nothing c l hs l' a new it
ends_at moment key (Some e) c l hs l' there a new it = ends_if (is_done e) moment key e c l hs l' a there new it

carries_ends : (moment key : ℕ) → Carries (EndsOne moment key)
carries_ends moment key c l hs l' a new it = ends_at moment key (l.entries key) c l hs l' refl a new it

-- ---- accepts

-- the number of an open connection differs from a number that no open connection has
not_new : (c : Carried) (id number : ℕ) → c.open_now number ≡ true → c.open_now id ≡ false → number ≢ id
not_new c id number is none = λ same. untrue (c.open_now id) (ap c.open_now (sym same) ∙ is) none
  where
    untrue : (t : Bool) → t ≡ true → t ≡ false → ⊥
    untrue true p q = cc
    untrue false p q = cc

-- a number was given, and no connection is open under it yet
given : (c : Carried) (l : Ledger) (door : Door) (id : ℕ) → Agrees c l → c.open_now id ≡ false → Agrees (carry c (Accepts door (wire.Done id))) l
given c l door id a none = record {
  there = λ key e is. at_other id true c.open_now e.id (apart key e is) ∙ a.there key e is;
  one = a.one;
  taken = λ key e is. a.taken key e is ∙ sym (at_other id [] c.taken e.id (apart key e is));
  prefix = a.prefix;
  read = λ key e is draining sound. a.read key e is draining sound ∙ sym (at_other id [] c.read e.id (apart key e is));
}
  where
    apart : (key : ℕ) (e : Entry) → l.entries key ≡ Some e → e.id ≢ id
    apart key e is = not_new c id e.id (a.there key e is) none

opened : (key id : ℕ) (door : Door) (c : Carried) (l l' : Ledger) → Agrees c l → c.open_now id ≡ false → l'.entries ≡ at_key key (Some (opening_entry door id)) l.entries → Agrees (carry c (Accepts door (wire.Done id))) l'
opened key id door c l l' a none after = record {
  there = λ k e is. there_at k e is (at_cases key (Some (opening_entry door id)) l.entries k);
  one = λ k o e d is its same. one_at k o e d is its same (at_cases key (Some (opening_entry door id)) l.entries k) (at_cases key (Some (opening_entry door id)) l.entries o);
  taken = λ k e is. taken_at k e is (at_cases key (Some (opening_entry door id)) l.entries k);
  prefix = λ k e is. prefix_at k e is (at_cases key (Some (opening_entry door id)) l.entries k);
  read = λ k e is draining sound. read_at k e is draining sound (at_cases key (Some (opening_entry door id)) l.entries k);
}
  where
    before : Agrees (carry c (Accepts door (wire.Done id))) l
    before = given c l door id a none

    Each : ℕ → Type 0
    Each k = ((k ≡ key) × (at_key key (Some (opening_entry door id)) l.entries k ≡ Some (opening_entry door id))) ⊎ ((k ≢ key) × (at_key key (Some (opening_entry door id)) l.entries k ≡ l.entries k))

    is_new : (k : ℕ) (e : Entry) → l'.entries k ≡ Some e → at_key key (Some (opening_entry door id)) l.entries k ≡ Some (opening_entry door id) → opening_entry door id ≡ e
    is_new k e is its = some_one (opening_entry door id) e (sym its ∙ subst (λ (entries : ℕ → Option Entry). entries k ≡ Some e) after is)

    is_old : (k : ℕ) (e : Entry) → l'.entries k ≡ Some e → at_key key (Some (opening_entry door id)) l.entries k ≡ l.entries k → l.entries k ≡ Some e
    is_old k e is its = sym its ∙ subst (λ (entries : ℕ → Option Entry). entries k ≡ Some e) after is

    differs : (k : ℕ) (e : Entry) → l.entries k ≡ Some e → e.id ≢ id
    differs k e is = not_new c id e.id (a.there k e is) none

    there_at : (k : ℕ) (e : Entry) → l'.entries k ≡ Some e → Each k → (carry c (Accepts door (wire.Done id))).open_now e.id ≡ true
    there_at k e is (inl (same, its)) = subst (λ (x : Entry). (carry c (Accepts door (wire.Done id))).open_now x.id ≡ true) (is_new k e is its) (at_this id true c.open_now)
    there_at k e is (inr (apart, its)) = before.there k e (is_old k e is its)

    one_at : (k o : ℕ) (e d : Entry) → l'.entries k ≡ Some e → l'.entries o ≡ Some d → e.id ≡ d.id → Each k → Each o → k ≡ o
    one_at k o e d is its same (inl (p, q)) (inl (r, s)) = p ∙ sym r
    one_at k o e d is its same (inl (p, q)) (inr (r, s)) = absurd (differs o d (is_old o d its s) (sym same ∙ ap (λ (x : Entry). x.id) (sym (is_new k e is q))))
    one_at k o e d is its same (inr (p, q)) (inl (r, s)) = absurd (differs k e (is_old k e is q) (same ∙ ap (λ (x : Entry). x.id) (sym (is_new o d its s))))
    one_at k o e d is its same (inr (p, q)) (inr (r, s)) = a.one k o e d (is_old k e is q) (is_old o d its s) same

    taken_at : (k : ℕ) (e : Entry) → l'.entries k ≡ Some e → Each k → e.taken ≡ (carry c (Accepts door (wire.Done id))).taken e.id
    taken_at k e is (inl (same, its)) = subst (λ (x : Entry). x.taken ≡ (carry c (Accepts door (wire.Done id))).taken x.id) (is_new k e is its) (sym (at_this id [] c.taken))
    taken_at k e is (inr (apart, its)) = before.taken k e (is_old k e is its)

    prefix_at : (k : ℕ) (e : Entry) → l'.entries k ≡ Some e → Each k → (rest : List ℕ) × (e.due ≡ e.taken ++ rest)
    prefix_at k e is (inl (same, its)) = subst (λ (x : Entry). (rest : List ℕ) × (x.due ≡ x.taken ++ rest)) (is_new k e is its) ([], refl)
    prefix_at k e is (inr (apart, its)) = a.prefix k e (is_old k e is its)

    read_at : (k : ℕ) (e : Entry) → l'.entries k ≡ Some e → e.draining ≡ false → e.broken ≡ false → Each k → e.read ≡ (carry c (Accepts door (wire.Done id))).read e.id
    read_at k e is draining sound (inl (same, its)) = subst (λ (x : Entry). x.read ≡ (carry c (Accepts door (wire.Done id))).read x.id) (is_new k e is its) (sym (at_this id [] c.read))
    read_at k e is draining sound (inr (apart, its)) = before.read k e (is_old k e is its) draining sound

-- the connection was closed at once
refused : (id : ℕ) (door : Door) (c : Carried) (l : Ledger) → Agrees c l → c.open_now id ≡ false → Agrees (carry (carry c (Accepts door (wire.Done id))) (Closes id)) l
refused id door c l a none =
    let before = given c l door id a none in
    record {
      there = λ key e is. at_other id false (carry c (Accepts door (wire.Done id))).open_now e.id (not_new c id e.id (a.there key e is) none) ∙ before.there key e is;
      one = before.one;
      taken = before.taken;
      prefix = before.prefix;
      read = before.read;
    }

opens : (door : Door) (id : ℕ) (c : Carried) (l : Ledger) (hs : List Happening) (l' : Ledger) → Agrees c l → c.open_now id ≡ false → Opens door id l hs l' → Agrees (carried (carry c (Accepts door (wire.Done id))) hs) l'
opens door id c l hs l' a none (inl (key, free, is, after)) =
    subst (λ (x : Carried). Agrees x l') (sym (ap (carried (carry c (Accepts door (wire.Done id)))) is)) (opened key id door c l l' a none (ap (λ (x : Ledger). x.entries) after))
opens door id c l hs l' a none (inr it) =
    subst (λ (x : Carried). Agrees x l') (sym (ap (carried (carry c (Accepts door (wire.Done id)))) it.0)) (subst (λ (x : Ledger). Agrees (carry (carry c (Accepts door (wire.Done id))) (Closes id)) x) (sym it.1) (refused id door c l a none))

accepts_as : (door : Door) (answer : WireAnswer ℕ) → Carries (AcceptsAs door answer)
accepts_as door (wire.Done id) c l hs l' a new it = polled_then (Accepts door (wire.Done id)) (Opens door id) c l hs l' new it (λ fresh more opening. opens door id c l it.back l' a fresh opening)
accepts_as door wire.Waiting c l hs l' a new it = carries_poll (Accepts door wire.Waiting) c l hs l' refl a it
accepts_as door wire.End c l hs l' a new it = carries_poll (Accepts door wire.End) c l hs l' refl a it
accepts_as door wire.Fault c l hs l' a new it = carries_poll (Accepts door wire.Fault) c l hs l' refl a it

carries_accepts : (door : Door) → Carries (AcceptsAt door)
carries_accepts door c l hs l' a new it = carries_if (nat_lt l.count CONNECTIONS) (AcceptsOne door) Nothing (λ d m ks n b fresh one. accepts_as door one.0 d m ks n b fresh one.1) carries_nothing c l hs l' a new it

-- ---- turns, and calls between them

carries_notes : (now : ℕ) → Carries (Notes now)
carries_notes now c l hs l' a new it = carries_quiet c l hs l' a (ap (carried c) it.0) (follow_same l l' (ap (λ (x : Ledger). x.entries) it.1))

carries_ticks : (moment : ℕ) → Carries (Ticks moment)
carries_ticks moment c l hs l' a new it = carries_then (Notes (now_at moment l)) (Unanswered moment Is.Tick) (carries_notes (now_at moment l)) (carries_unanswered moment Is.Tick) c l hs l' a new it

carries_tick : (moment : ℕ) → Carries (TicksIfDue moment)
carries_tick moment c l hs l' a new it =
    carries_if (is_tick_due moment l) (Then (Ticks moment) (ClosesBroken moment)) Nothing (carries_then (Ticks moment) (ClosesBroken moment) (carries_ticks moment) (carries_closes_broken moment)) carries_nothing c l hs l' a new it

carries_covers : (n : ℕ) → Carries (Covers n)
carries_covers n c l hs l' a new it = carries_chooses (Looked n) c l hs l' a new it.1

carries_round : (moment : ℕ) → Carries (Round moment)
carries_round moment c l hs l' a new (n, it) =
    carries_then (Covers n) (Then (Each n (ReadsOne moment)) (Then (Each n (WritesOne moment)) (Each n (EndsOne moment)))) (carries_covers n)
    (carries_then (Each n (ReadsOne moment)) (Then (Each n (WritesOne moment)) (Each n (EndsOne moment))) (carries_each n (ReadsOne moment) (carries_reads moment))
    (carries_then (Each n (WritesOne moment)) (Each n (EndsOne moment)) (carries_each n (WritesOne moment) (carries_writes moment)) (carries_each n (EndsOne moment) (carries_ends moment)))) c l hs l' a new it

carries_turn : (moment : ℕ) → Carries (Turn moment)
carries_turn moment =
    carries_then (ClosesBroken moment) (Then (TicksIfDue moment) (Then (AcceptsAt Ipp) (Then (AcceptsAt Lpd) (Then (AcceptsAt Devices) (Round moment))))) (carries_closes_broken moment)
    (carries_then (TicksIfDue moment) (Then (AcceptsAt Ipp) (Then (AcceptsAt Lpd) (Then (AcceptsAt Devices) (Round moment)))) (carries_tick moment)
    (carries_then (AcceptsAt Ipp) (Then (AcceptsAt Lpd) (Then (AcceptsAt Devices) (Round moment))) (carries_accepts Ipp)
    (carries_then (AcceptsAt Lpd) (Then (AcceptsAt Devices) (Round moment)) (carries_accepts Lpd) (carries_then (AcceptsAt Devices) (Round moment) (carries_accepts Devices) (carries_round moment)))))

between_answers : (request : ℕ) (reply : Option Effects) (bytes : List ℕ) → Carries (Between.Answers request reply bytes)
between_answers request (Some reply) bytes c l hs l' a new (inl (are, it)) = carries_chooses Found c l hs l' a new it
between_answers request (Some reply) bytes c l hs l' a new (inr it) = carries_notifies (Refused At.Reply None) c l hs l' a new it
between_answers request None bytes c l hs l' a new it = carries_notifies (Refused At.Event None) c l hs l' a new it

body_asks : (moment : ℕ) (it : ParsedRequest) (served : Between.Outcome) → Carries (BodyAsks moment it served)
body_asks moment asked.TooShort served c l hs l' a new it = carries_nothing c l hs l' a new it.1
body_asks moment (asked.Refused status request) served c l hs l' a new (is, inl it) = carries_chooses Found c l hs l' a new it
body_asks moment (asked.Refused status request) served c l hs l' a new (is, inr it) = carries_notifies (Refused At.Reply None) c l hs l' a new it
body_asks moment (asked.Event request event) served c l hs l' a new (bytes, is, (outcome, it)) =
    carries_then (Happens moment event outcome) (Between.Answers request (effects_of outcome) bytes) (carries_happens moment event outcome) (between_answers request (effects_of outcome) bytes) c l hs l' a new it

body_comes : (moment : ℕ) (body : List ℕ) (served : Between.Outcome) → Carries (BodyComes moment body served)
body_comes moment body served c l hs l' a new (inl (it, asks, comes)) = carries_then (Chooses Found) (BodyAsks moment it served) (carries_chooses Found) (body_asks moment it served) c l hs l' a new comes
body_comes moment body served c l hs l' a new (inr it) = carries_notifies (Refused At.Event None) c l hs l' a new it

carries_action : (action : Action) (c : Carried) (l l' : Ledger) → Agrees c l → AreNew c (happenings_of action) → DoesAction action l l' → Agrees (carried c (happenings_of action)) l'
carries_action (Turned moment hs) c l l' a new it = carries_turn moment c l hs l' a new it
carries_action (Served_body moment body answer hs) c l l' a new (served, same, it) = body_comes moment body served c l hs l' a new it
carries_action (Reported moment device parsed hs) c l l' a new (what, same, it) = carries_unanswered moment (Is.Report device what) c l hs l' a new it
carries_action (Ticked moment hs) c l l' a new it = carries_ticks moment c l hs l' a new it

-- ---- traces

carries_trace : (trace : Trace) (c : Carried) (l l' : Ledger) → Agrees c l → AreNew c (happenings_in trace) → Runs trace l l' → Agrees (carried c (happenings_in trace)) l'
carries_trace [] c l l' a new same = subst (Agrees c) (sym same) a
carries_trace (action ∷ actions) c l l' a new (mid, does, runs) =
    let both = new_append c (happenings_of action) (happenings_in actions) new in
    subst (λ (x : Carried). Agrees x l') (sym (carried_append c (happenings_of action) (happenings_in actions)))
    (carries_trace actions (carried c (happenings_of action)) mid l' (carries_action action c l mid a both.0 does) both.1 runs)

nothing_agrees : (opening : State) → Agrees nothing_carried (opening_ledger opening)
nothing_agrees opening = record { there = λ key e is. cc; one = λ key other e d is its same. cc; taken = λ key e is. cc; prefix = λ key e is. cc; read = λ key e is draining sound. cc }

pub is_carried : (opening : State) (trace : Trace) (l : Ledger) → Runs trace (opening_ledger opening) l → NumbersDiffer trace → IsCarried trace l
is_carried opening trace l runs new =
    let a = carries_trace trace nothing_carried (opening_ledger opening) l (nothing_agrees opening) new runs in
    record {
      due = λ key e is. let f = a.prefix key e is in f.1 ∙ (ap (λ (xs : List ℕ). xs ++ f.0) (a.taken key e is) ∙ ap (λ (xs : List ℕ). (carried_in trace).taken e.id ++ xs) (sym (waits e f.0 f.1)));
      read = a.read;
    }
