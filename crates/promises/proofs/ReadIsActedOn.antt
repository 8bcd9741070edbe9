-- All that was read on a connection was acted on, unless nothing counts any more.
use Rattle.std.proofs.Common.{◌≡◌, ◌≢◌, ℕ, zero, suc, Bool, true, false, List, [], ◌∷◌, ◌++◌, length, take, refl, sym, ap, subst, arith, Option, Some, None, ◌⊎◌, inl, inr}
use Rattle.std.specs.Prelude.{◌==◌, ◌||◌, nat_lt, if◌then◌else◌, All}
use Rattle.std.specs.List.{concat}
use Rattle.base_types.specs.declared.limits.TheConstants.Limits.{CONNECTIONS}
use Rattle.base_types.specs.declared.report.Report.TheVariants as report
use Rattle.print_room.specs.State.{State}
use Rattle.events.specs.declared.event.Event.{Event}
use Rattle.events.specs.declared.event.Event.TheVariants as Is
use Rattle.events.specs.declared.effects.Effects.{Effects}
use Rattle.dispatcher.specs.Run.{effects_of}
use Rattle.ipp_operations.specs.declared.parsed_request.ParsedRequest.{ParsedRequest}
use Rattle.ipp_operations.specs.declared.parsed_request.ParsedRequest.TheVariants as asked
use Rattle.wires.specs.Poll.{Poll, Accepts, Reads, Writes}
use Rattle.wires.specs.declared.wire.Progress.{Progress as WireAnswer}
use Rattle.wires.specs.declared.wire.Progress.TheVariants as wire
use Rattle.wires.specs.declared.wire.Door.{Door}
use Rattle.wires.specs.declared.wire.Door.TheVariants.{Ipp, Lpd, Devices}
use Rattle.connections.specs.Entry.{Entry, opening_entry, device_of, broken, owing, waiting}
use Rattle.connections.specs.Asking.{IsActedOn}
use Rattle.server.specs.Polls.{Happening, Found}
use Rattle.server.specs.Ledger.{Ledger, Drained, at_key, opening_ledger}
use Rattle.server.specs.Rel.{Rel, Nothing, Polls, Chooses, Then, If, Each}
use Rattle.server.specs.Enqueuing.{Sets, BreaksAt, Breaks}
use Rattle.server.specs.Happening.{now_at, Happens, Unanswered}
use Rattle.server.specs.Closing.{Leaves, IsGone, ClosesAs, ClosesBroken}
use Rattle.server.specs.Polling.{Opens, AcceptsAs, AcceptsOne, AcceptsAt, IsActedOnAt, FedWhole, FeedsAt, Fails, ReadsAs, ReadsOpen, ReadsAt, is_read, ReadsOne, WritesAs, WritesOpen, WritesAt, WritesOne, is_done, EndsAt, EndsOne}
use Rattle.server.specs.Turn as Between
use Rattle.server.specs.Turn.{Ticks, Notes, is_tick_due, TicksIfDue, Covers, Round, Turn, BodyAsks, BodyComes, Action, Turned, Served_body, Reported, Ticked, Trace, DoesAction, Runs}
use Rattle.promises.specs.Others.{IsOrder, IsCause}
use Rattle.promises.proofs.SentToDevices.{same_key, other_key}
use Rattle.promises.proofs.OtherConnections.{IsOut, Left, Spared, brings, Spares_in, spares_unanswered, spares_closes_broken, spares_reads, spares_writes}

-- on each open connection
abbrev pub AllActedOn : Ledger → Type 0
AllActedOn l = (key : ℕ) → IsActedOnAt (l.entries key)

or_true : (x y : Bool) → y ≡ true → (x || y) ≡ true
or_true true y is = refl
or_true false y is = is

pub broken_acted_on : (e : Entry) → e.broken ≡ true → IsActedOn e
broken_acted_on e is = inl (or_true e.draining e.broken is)

-- a part that doesn't concern it leaves it so
acted_on_left : (O : ℕ → List ℕ → Type 0) (C : ℕ → ℕ → Bool → Type 0) (x y : Option Entry) → Left O C x y → IsActedOnAt x → IsActedOnAt y
acted_on_left O C None y left acted_on = subst IsActedOnAt (sym (left.none refl)) tt
acted_on_left O C (Some e) y left acted_on = by (e.broken) refl (device_of e.progress) refl
  where
    out : IsOut y → IsActedOnAt y
    out (inl gone) = subst IsActedOnAt (sym gone) tt
    out (inr (d, is, lost)) = subst IsActedOnAt (sym is) (broken_acted_on d lost)

    more : (device : ℕ) → (IsOut y × C device e.id e.ended) ⊎ ((orders : List (List ℕ)) × All (O device) orders × (y ≡ Some (owing (concat orders) e))) → IsActedOnAt y
    more device (inl (gone, cause)) = out gone
    more device (inr (orders, each, is)) = subst IsActedOnAt (sym is) acted_on

    by : (t : Bool) → e.broken ≡ t → (o : Option ℕ) → device_of e.progress ≡ o → IsActedOnAt y
    by true is o progress = out (left.out e refl is)
    by false is None progress = subst IsActedOnAt (sym (left.client e refl is progress)) acted_on
    by false is (Some device) progress = more device (left.device e device refl is progress)

-- whatever the cause
abbrev Any : ℕ → Type 0
Any k = Unit {0}

acted_on_spared : (moment key other : ℕ) (l : Ledger) (hs : List Happening) (l' : Ledger) → other ≢ key → Spared Any moment key l hs l' → IsActedOnAt (l.entries other) → IsActedOnAt (l'.entries other)
acted_on_spared moment key other l hs l' apart it = acted_on_left (IsOrder it.came) (IsCause Any it.came hs) (l.entries other) (l'.entries other) (it.each other apart)

abbrev KeepsActedOn : Rel → Type 0
KeepsActedOn R = (l : Ledger) (hs : List Happening) (l' : Ledger) → AllActedOn l → R l hs l' → AllActedOn l'

-- a part that concerns none
keeps_left : (moment : ℕ) (R : Rel) → ((key : ℕ) → Spares_in Any moment key R) → KeepsActedOn R
keeps_left moment R spares l hs l' acted_on it key = acted_on_spared moment (suc key) key l hs l' (λ same. absurd (omega (arith, same))) (spares (suc key) l hs l' it) (acted_on key)

pub keeps_same : (l l' : Ledger) → l'.entries ≡ l.entries → AllActedOn l → AllActedOn l'
keeps_same l l' same acted_on key = subst (λ (entries : ℕ → Option Entry). IsActedOnAt (entries key)) (sym same) (acted_on key)

keeps_nothing : KeepsActedOn Nothing
keeps_nothing l hs l' acted_on it = keeps_same l l' (ap (λ (x : Ledger). x.entries) it.1) acted_on

keeps_then : (R S : Rel) → KeepsActedOn R → KeepsActedOn S → KeepsActedOn (Then R S)
keeps_then R S r s l hs l' acted_on it = s it.mid it.back l' (r l it.prefix it.mid acted_on it.first) it.second

keeps_if : (t : Bool) (R S : Rel) → KeepsActedOn R → KeepsActedOn S → KeepsActedOn (If t R S)
keeps_if true R S r s l hs l' acted_on it = r l hs l' acted_on it
keeps_if false R S r s l hs l' acted_on it = s l hs l' acted_on it

pub keeps_each : (n : ℕ) (R : ℕ → Rel) → ((key : ℕ) → KeepsActedOn (R key)) → KeepsActedOn (Each n R)
keeps_each zero R r = keeps_nothing
keeps_each (suc n) R r = keeps_then (Each n R) (R n) (keeps_each n R r) (r n)

pub keeps_closes_broken : (moment : ℕ) → KeepsActedOn (ClosesBroken moment)
keeps_closes_broken moment = keeps_left moment (ClosesBroken moment) (spares_closes_broken Any moment)

at_if : (t : Bool) (x y : Option Entry) → (t ≡ true → IsActedOnAt x) → (t ≡ false → IsActedOnAt y) → IsActedOnAt (if t then x else y)
at_if true x y p q = p refl
at_if false x y p q = q refl

-- another connection, or none, under a key
keeps_at : (key : ℕ) (o : Option Entry) (l l' : Ledger) → AllActedOn l → IsActedOnAt o → l'.entries ≡ at_key key o l.entries → AllActedOn l'
keeps_at key o l l' acted_on is after other = subst (λ (entries : ℕ → Option Entry). IsActedOnAt (entries other)) (sym after) (at_if (other == key) o (l.entries other) (λ same. is) (λ same. acted_on other))

pub there : (l : Ledger) (key : ℕ) (e : Entry) → AllActedOn l → l.entries key ≡ Some e → IsActedOn e
there l key e acted_on is = subst IsActedOnAt is (acted_on key)

-- ---- reads, writes and closings

-- for its own connection by this property, for other connections since the part leaves them alone
by_key : (R : Rel) (moment key : ℕ) → Spares_in Any moment key R → ((l : Ledger) (hs : List Happening) (l' : Ledger) → AllActedOn l → R l hs l' → IsActedOnAt (l'.entries key)) → KeepsActedOn R
by_key R moment key spares own l hs l' acted_on it other = by (other == key) refl
  where
    by : (t : Bool) → (other == key) ≡ t → IsActedOnAt (l'.entries other)
    by true same = subst (λ (k : ℕ). IsActedOnAt (l'.entries k)) (sym (same_key other key same)) (own l hs l' acted_on it)
    by false same = acted_on_spared moment key other l hs l' (other_key other key same) (spares l hs l' it) (acted_on other)

keeps_sets : (key : ℕ) (e : Entry) (l : Ledger) (hs : List Happening) (l' : Ledger) → AllActedOn l → IsActedOn e → Sets key e l hs l' → AllActedOn l'
keeps_sets key e l hs l' acted_on is it = keeps_at key (Some e) l l' acted_on is (ap (λ (x : Ledger). x.entries) it.1)

breaks_all : (key : ℕ) → KeepsActedOn (Breaks key)
breaks_all key l hs l' acted_on it = by (l.entries key) it
  where
    by : (o : Option Entry) → BreaksAt key o l hs l' → AllActedOn l'
    by None is = keeps_nothing l hs l' acted_on is
    by (Some e) is = keeps_sets key (broken e) l hs l' acted_on (broken_acted_on (broken e) refl) is

keeps_fails : (moment key : ℕ) → KeepsActedOn (Fails moment key)
keeps_fails moment key = keeps_then (Breaks key) (ClosesBroken moment) (breaks_all key) (keeps_closes_broken moment)

own_fed : (moment key : ℕ) (e : Entry) (bytes : List ℕ) (l : Ledger) (hs : List Happening) (l' : Ledger) → AllActedOn l → FedWhole moment key e bytes l hs l' → IsActedOnAt (l'.entries key)
own_fed moment key e bytes l hs l' acted_on (inl it) = it.second.1
own_fed moment key e bytes l hs l' acted_on (inr it) =
    keeps_closes_broken moment it.mid it.back l' (keeps_at key (Some (broken e)) l it.mid acted_on (broken_acted_on (broken e) refl) (ap (λ (x : Ledger). x.entries) it.first.1)) it.second key

own_open : (t : Bool) (moment key : ℕ) (e : Entry) (bytes : List ℕ) (l : Ledger) (hs : List Happening) (l' : Ledger) → AllActedOn l → IsActedOn e → If t (Sets key e) (FedWhole moment key e bytes) l hs l' → IsActedOnAt (l'.entries key)
own_open true moment key e bytes l hs l' acted_on is it = keeps_sets key e l hs l' acted_on is it key
own_open false moment key e bytes l hs l' acted_on is it = own_fed moment key e bytes l hs l' acted_on it

own_feeds : (moment key : ℕ) (bytes : List ℕ) (o : Option Entry) (l : Ledger) (hs : List Happening) (l' : Ledger) → AllActedOn l → IsActedOnAt o → FeedsAt moment key bytes o l hs l' → IsActedOnAt (l'.entries key)
own_feeds moment key bytes None l hs l' acted_on is it = keeps_nothing l hs l' acted_on it key
own_feeds moment key bytes (Some e) l hs l' acted_on is it = own_open e.draining moment key e bytes l hs l' acted_on is it

polled : (poll : Poll) (l : Ledger) (hs : List Happening) (l' : Ledger) → AllActedOn l → Polls poll l hs l' → AllActedOn l'
polled poll l hs l' acted_on it = keeps_same l l' (ap (λ (x : Ledger). x.entries) it.1) acted_on

own_reads_as : (moment key : ℕ) (e : Entry) (answer : WireAnswer (List ℕ)) (l : Ledger) (hs : List Happening) (l' : Ledger) → AllActedOn l → IsActedOn e → ReadsAs moment key e answer l hs l' → IsActedOnAt (l'.entries key)
own_reads_as moment key e (wire.Done bytes) l hs l' acted_on is it =
    let first = polled (Reads e.id (wire.Done bytes)) l it.prefix it.mid acted_on it.first in own_feeds moment key bytes (it.mid.entries key) it.mid it.back l' first (first key) it.second
own_reads_as moment key e wire.Waiting l hs l' acted_on is it = polled (Reads e.id wire.Waiting) l hs l' acted_on it key
own_reads_as moment key e wire.End l hs l' acted_on is it =
    keeps_sets key (record e { ended = true }) it.mid it.back l' (polled (Reads e.id wire.End) l it.prefix it.mid acted_on it.first) is it.second key
own_reads_as moment key e wire.Fault l hs l' acted_on is it = keeps_fails moment key it.mid it.back l' (polled (Reads e.id wire.Fault) l it.prefix it.mid acted_on it.first) it.second key

own_reads_if : (t : Bool) (moment key : ℕ) (e : Entry) (l : Ledger) (hs : List Happening) (l' : Ledger) → AllActedOn l → IsActedOn e → If t (ReadsOpen moment key e) Nothing l hs l' → IsActedOnAt (l'.entries key)
own_reads_if true moment key e l hs l' acted_on is (answer, segment, it) = own_reads_as moment key e answer l hs l' acted_on is it
own_reads_if false moment key e l hs l' acted_on is it = keeps_nothing l hs l' acted_on it key

own_reads : (moment key : ℕ) (o : Option Entry) (l : Ledger) (hs : List Happening) (l' : Ledger) → AllActedOn l → IsActedOnAt o → ReadsAt moment key o l hs l' → IsActedOnAt (l'.entries key)
own_reads moment key None l hs l' acted_on is it = keeps_nothing l hs l' acted_on it key
own_reads moment key (Some e) l hs l' acted_on is it = own_reads_if (is_read e) moment key e l hs l' acted_on is it

pub keeps_reads : (moment key : ℕ) → KeepsActedOn (ReadsOne moment key)
keeps_reads moment key = by_key (ReadsOne moment key) moment key (λ l hs l' it. spares_reads Any moment key l hs l' (λ device bears. tt) it) (λ l hs l' acted_on it. own_reads moment key (l.entries key) l hs l' acted_on (acted_on key) it)

own_writes_as : (moment key : ℕ) (e : Entry) (offered : List ℕ) (answer : WireAnswer ℕ) (l : Ledger) (hs : List Happening) (l' : Ledger) → AllActedOn l → IsActedOn e → WritesAs moment key e offered answer l hs l' → IsActedOnAt (l'.entries key)
own_writes_as moment key e offered (wire.Done n) l hs l' acted_on is it =
    keeps_sets key (record e { taken = e.taken ++ take n offered }) it.mid it.back l' (polled (Writes e.id offered (wire.Done n)) l it.prefix it.mid acted_on it.first) is it.second key
own_writes_as moment key e offered wire.Waiting l hs l' acted_on is it = polled (Writes e.id offered wire.Waiting) l hs l' acted_on it key
own_writes_as moment key e offered wire.End l hs l' acted_on is it = keeps_fails moment key it.mid it.back l' (polled (Writes e.id offered wire.End) l it.prefix it.mid acted_on it.first) it.second key
own_writes_as moment key e offered wire.Fault l hs l' acted_on is it = keeps_fails moment key it.mid it.back l' (polled (Writes e.id offered wire.Fault) l it.prefix it.mid acted_on it.first) it.second key

own_writes_if : (t : Bool) (moment key : ℕ) (e : Entry) (l : Ledger) (hs : List Happening) (l' : Ledger) → AllActedOn l → IsActedOn e → If t (WritesOpen moment key e) Nothing l hs l' → IsActedOnAt (l'.entries key)
own_writes_if true moment key e l hs l' acted_on is (offered, prefix, answer, it) = own_writes_as moment key e offered answer l hs l' acted_on is it
own_writes_if false moment key e l hs l' acted_on is it = keeps_nothing l hs l' acted_on it key

own_writes : (moment key : ℕ) (o : Option Entry) (l : Ledger) (hs : List Happening) (l' : Ledger) → AllActedOn l → IsActedOnAt o → WritesAt moment key o l hs l' → IsActedOnAt (l'.entries key)
own_writes moment key None l hs l' acted_on is it = keeps_nothing l hs l' acted_on it key
own_writes moment key (Some e) l hs l' acted_on is it = own_writes_if (nat_lt 0 (length (waiting e))) moment key e l hs l' acted_on is it

pub keeps_writes : (moment key : ℕ) → KeepsActedOn (WritesOne moment key)
keeps_writes moment key = by_key (WritesOne moment key) moment key (spares_writes Any moment key) (λ l hs l' acted_on it. own_writes moment key (l.entries key) l hs l' acted_on (acted_on key) it)

keeps_gone : (moment : ℕ) (device : Option ℕ) → KeepsActedOn (IsGone moment device)
keeps_gone moment None = keeps_nothing
keeps_gone moment (Some device) = keeps_left moment (IsGone moment (Some device)) (λ key. spares_unanswered Any moment key (Is.Report device report.Gone))

keeps_closes : (moment key : ℕ) (e : Entry) → KeepsActedOn (ClosesAs moment Drained key e)
keeps_closes moment key e =
    keeps_then (Leaves Drained key e) (IsGone moment (device_of e.progress)) (λ l hs l' acted_on it. keeps_at key None l l' acted_on tt (ap (λ (x : Ledger). x.entries) it.2)) (keeps_gone moment (device_of e.progress))

ends_at : (moment key : ℕ) (o : Option Entry) → KeepsActedOn (EndsAt moment key o)
ends_at moment key None = keeps_nothing
ends_at moment key (Some e) = keeps_if (is_done e) (Then (ClosesAs moment Drained key e) (ClosesBroken moment)) Nothing (keeps_then (ClosesAs moment Drained key e) (ClosesBroken moment) (keeps_closes moment key e) (keeps_closes_broken moment)) keeps_nothing

pub keeps_ends : (moment key : ℕ) → KeepsActedOn (EndsOne moment key)
keeps_ends moment key l hs l' acted_on it = ends_at moment key (l.entries key) l hs l' acted_on it

-- ---- accepts

opening_acted_on : (door : Door) (id : ℕ) → IsActedOn (opening_entry door id)
opening_acted_on Ipp id = inr (0, (refl, refl))
opening_acted_on Lpd id = inr refl
opening_acted_on Devices id = inr refl

keeps_opens : (door : Door) (id : ℕ) → KeepsActedOn (Opens door id)
keeps_opens door id l hs l' acted_on (inl (key, free, is, after)) = keeps_at key (Some (opening_entry door id)) l l' acted_on (opening_acted_on door id) (ap (λ (x : Ledger). x.entries) after)
keeps_opens door id l hs l' acted_on (inr it) = keeps_same l l' (ap (λ (x : Ledger). x.entries) it.1) acted_on

accepts_as : (door : Door) (answer : WireAnswer ℕ) → KeepsActedOn (AcceptsAs door answer)
accepts_as door (wire.Done id) = keeps_then (Polls (Accepts door (wire.Done id))) (Opens door id) (polled (Accepts door (wire.Done id))) (keeps_opens door id)
accepts_as door wire.Waiting = polled (Accepts door wire.Waiting)
accepts_as door wire.End = polled (Accepts door wire.End)
accepts_as door wire.Fault = polled (Accepts door wire.Fault)

pub keeps_accepts : (door : Door) → KeepsActedOn (AcceptsAt door)
keeps_accepts door l hs l' acted_on it = keeps_if (nat_lt l.count CONNECTIONS) (AcceptsOne door) Nothing (λ a ks b all one. accepts_as door one.0 a ks b all one.1) keeps_nothing l hs l' acted_on it

-- ---- turns, and calls between them

keeps_unanswered : (moment : ℕ) (event : Event) → KeepsActedOn (Unanswered moment event)
keeps_unanswered moment event = keeps_left moment (Unanswered moment event) (λ key. spares_unanswered Any moment key event)

keeps_ticks : (moment : ℕ) → KeepsActedOn (Ticks moment)
keeps_ticks moment l hs l' acted_on it =
    keeps_then (Notes (now_at moment l)) (Unanswered moment Is.Tick) (λ a ks b all is. keeps_same a b (ap (λ (x : Ledger). x.entries) is.1) all) (keeps_unanswered moment Is.Tick) l hs l' acted_on it

pub keeps_tick : (moment : ℕ) → KeepsActedOn (TicksIfDue moment)
keeps_tick moment l hs l' acted_on it =
    keeps_if (is_tick_due moment l) (Then (Ticks moment) (ClosesBroken moment)) Nothing (keeps_then (Ticks moment) (ClosesBroken moment) (keeps_ticks moment) (keeps_closes_broken moment)) keeps_nothing l hs l' acted_on it

keeps_round : (moment : ℕ) → KeepsActedOn (Round moment)
keeps_round moment l hs l' acted_on (n, it) =
    keeps_then (Covers n) (Then (Each n (ReadsOne moment)) (Then (Each n (WritesOne moment)) (Each n (EndsOne moment)))) (λ a ks b all is. keeps_same a b (ap (λ (x : Ledger). x.entries) is.1.1) all)
    (keeps_then (Each n (ReadsOne moment)) (Then (Each n (WritesOne moment)) (Each n (EndsOne moment))) (keeps_each n (ReadsOne moment) (keeps_reads moment))
    (keeps_then (Each n (WritesOne moment)) (Each n (EndsOne moment)) (keeps_each n (WritesOne moment) (keeps_writes moment)) (keeps_each n (EndsOne moment) (keeps_ends moment)))) l hs l' acted_on it

keeps_turn : (moment : ℕ) → KeepsActedOn (Turn moment)
keeps_turn moment =
    keeps_then (ClosesBroken moment) (Then (TicksIfDue moment) (Then (AcceptsAt Ipp) (Then (AcceptsAt Lpd) (Then (AcceptsAt Devices) (Round moment))))) (keeps_closes_broken moment)
    (keeps_then (TicksIfDue moment) (Then (AcceptsAt Ipp) (Then (AcceptsAt Lpd) (Then (AcceptsAt Devices) (Round moment)))) (keeps_tick moment)
    (keeps_then (AcceptsAt Ipp) (Then (AcceptsAt Lpd) (Then (AcceptsAt Devices) (Round moment))) (keeps_accepts Ipp)
    (keeps_then (AcceptsAt Lpd) (Then (AcceptsAt Devices) (Round moment)) (keeps_accepts Lpd) (keeps_then (AcceptsAt Devices) (Round moment) (keeps_accepts Devices) (keeps_round moment)))))

between_answers : (request : ℕ) (reply : Option Effects) (bytes : List ℕ) → KeepsActedOn (Between.Answers request reply bytes)
between_answers request (Some reply) bytes l hs l' acted_on (inl (are, it)) = keeps_same l l' (ap (λ (x : Ledger). x.entries) it.1) acted_on
between_answers request (Some reply) bytes l hs l' acted_on (inr it) = keeps_same l l' (ap (λ (x : Ledger). x.entries) it.1) acted_on
between_answers request None bytes l hs l' acted_on it = keeps_same l l' (ap (λ (x : Ledger). x.entries) it.1) acted_on

body_asks : (moment : ℕ) (it : ParsedRequest) (served : Between.Outcome) → KeepsActedOn (BodyAsks moment it served)
body_asks moment asked.TooShort served l hs l' acted_on it = keeps_nothing l hs l' acted_on it.1
body_asks moment (asked.Refused status request) served l hs l' acted_on (is, inl it) = keeps_same l l' (ap (λ (x : Ledger). x.entries) it.1) acted_on
body_asks moment (asked.Refused status request) served l hs l' acted_on (is, inr it) = keeps_same l l' (ap (λ (x : Ledger). x.entries) it.1) acted_on
body_asks moment (asked.Event request event) served l hs l' acted_on (bytes, is, (outcome, it)) =
    keeps_then (Happens moment event outcome) (Between.Answers request (effects_of outcome) bytes) (keeps_left moment (Happens moment event outcome) (λ key a ks b one. (brings Any moment key event outcome a ks b one).spared)) (between_answers request (effects_of outcome) bytes) l hs l' acted_on it

body_comes : (moment : ℕ) (body : List ℕ) (served : Between.Outcome) → KeepsActedOn (BodyComes moment body served)
body_comes moment body served l hs l' acted_on (inl (it, asks, comes)) =
    keeps_then (Chooses Found) (BodyAsks moment it served) (λ a ks b all is. keeps_same a b (ap (λ (x : Ledger). x.entries) is.1) all) (body_asks moment it served) l hs l' acted_on comes
body_comes moment body served l hs l' acted_on (inr it) = keeps_same l l' (ap (λ (x : Ledger). x.entries) it.1) acted_on

pub keeps_action : (action : Action) (l l' : Ledger) → AllActedOn l → DoesAction action l l' → AllActedOn l'
keeps_action (Turned moment hs) l l' acted_on it = keeps_turn moment l hs l' acted_on it
keeps_action (Served_body moment body answer hs) l l' acted_on (served, same, it) = body_comes moment body served l hs l' acted_on it
keeps_action (Reported moment device parsed hs) l l' acted_on (what, same, it) = keeps_unanswered moment (Is.Report device what) l hs l' acted_on it
keeps_action (Ticked moment hs) l l' acted_on it = keeps_ticks moment l hs l' acted_on it

keeps_trace : (trace : Trace) (l l' : Ledger) → AllActedOn l → Runs trace l l' → AllActedOn l'
keeps_trace [] l l' acted_on same = keeps_same l l' (ap (λ (x : Ledger). x.entries) same) acted_on
keeps_trace (action ∷ actions) l l' acted_on (mid, does, runs) = keeps_trace actions mid l' (keeps_action action l mid acted_on does) runs

pub all_acted_on : (opening : State) (trace : Trace) (l : Ledger) → Runs trace (opening_ledger opening) l → (key : ℕ) (e : Entry) → l.entries key ≡ Some e → IsActedOn e
all_acted_on opening trace l runs key e is = there l key e (keeps_trace trace (opening_ledger opening) l (λ k. tt) runs) is
