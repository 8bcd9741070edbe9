-- A turn, a call between turns, and a trace: the bytes that are due on the connections of devices and clients by them.
use Rattle.std.proofs.Common.{◌≡◌, ℕ, Bool, true, false, List, [], ◌∷◌, ◌++◌, length, take, refl, sym, ◌∙◌, ap, subst, append_assoc, Option, Some, None, inl, inr, All}
use Rattle.std.specs.Prelude.{nat_lt}
use Rattle.std.specs.List.{flat_map}
use Rattle.std.proofs.lemmas.Grind.{flat_map-append}
use Rattle.std.proofs.lemmas.List.Elements.{All-nil, All-weaker}
use Rattle.base_types.specs.declared.limits.TheConstants.Limits.{CONNECTIONS}
use Rattle.print_room.specs.State.{State}
use Rattle.base_types.specs.declared.report.Report.{Report}
use Rattle.base_types.specs.declared.report.Report.TheVariants as report
use Rattle.events.specs.declared.event.Event.{Event}
use Rattle.events.specs.declared.event.Event.TheVariants as Is
use Rattle.events.specs.declared.effects.Effects.{Effects}
use Rattle.dispatcher.specs.declared.observer.AllocationSite.TheVariants as At
use Rattle.dispatcher.specs.Notes.{Note}
use Rattle.dispatcher.specs.Run.{effects_of}
use Rattle.ipp_operations.specs.declared.parsed_request.ParsedRequest.{ParsedRequest}
use Rattle.ipp_operations.specs.declared.parsed_request.ParsedRequest.TheVariants as asked
use Rattle.wires.specs.Poll.{Poll, Accepts, Reads, Writes}
use Rattle.wires.specs.declared.wire.Progress.{Progress as WireAnswer}
use Rattle.wires.specs.declared.wire.Progress.TheVariants as wire
use Rattle.wires.specs.declared.wire.Door.{Door}
use Rattle.wires.specs.declared.wire.Door.TheVariants.{Ipp, Lpd, Devices}
use Rattle.connections.specs.Entry.{Entry, opening_entry, broken, reading, waiting}
use Rattle.connections.specs.Asking.{IsActedOn}
use Rattle.server.specs.Polls.{Happening, Found, Looked}
use Rattle.server.specs.Ledger.{Ledger, Fate, Drained, opening_ledger}
use Rattle.server.specs.Rel.{Rel, Nothing, Polls, Chooses, Then, If, Each}
use Rattle.server.specs.Enqueuing.{Sets, Breaks, Drops}
use Rattle.server.specs.Happening.{now_at, Happens, Unanswered}
use Rattle.server.specs.Closing.{ClosesAs, ClosesBroken}
use Rattle.server.specs.Polling.{Opens, AcceptsAs, AcceptsOne, AcceptsAt, FedWhole, FeedsAt, FeedsOne, Fails, ReadsAs, ReadsOpen, ReadsAt, is_read, ReadsOne, WritesAs, WritesOpen, WritesAt, WritesOne, is_done, EndsAt, EndsOne}
use Rattle.server.specs.Turn as Between
use Rattle.server.specs.Turn.{Ticks, Notes, is_tick_due, TicksIfDue, Covers, Round, Turn, BodyAsks, BodyComes, Action, Turned, Served_body, Reported, Ticked, Trace, DoesAction, Runs}
use Rattle.server.specs.Law.{moment_of, happenings_of, happenings_in}
use Rattle.promises.specs.Orders.{RunPart, AreHandled, hello_in, named_by, is_turn, AreOf, run_notes, due_by, AreSent, WasSent, IsPrefixSent, WasHalted}
use Rattle.promises.specs.Answers.{Act, ClientTalk, IsPrefixOf, IsStateOf, IsAnswered, WasAnswered, IsFirst, AreAnswered, IsCutOff, WasCutOff}
use Rattle.promises.proofs.SentToDevices.{Counts, due_at, Ordered, ordered_still, ordered_keeps, Calm, notes_append, calm_still, calm_sets, breaking, Good, one_entry, IsLost, no_true, ReadsOn, reads_still, reads_same}
use Rattle.promises.proofs.HandledEvents.{Plain, goes_plain, CameAs, Goes, handled_append, came_then, goes_then, goes_calm, TalkedAs, progressed_then, progressed_still, ClosedAs, AllClosed, none_closed, all_closed_then, goes_refused, LostAs, lost_then, CameWith, StopsAs, stops_still, stops_then}
use Rattle.promises.proofs.DueToClients.{Calms, calms_nothing, calms_chooses, calms_breaks}
use Rattle.promises.proofs.EventsOfTurns.{Moves, moves_calm, moves_then, moves_if, moves_each, moves_happens, moves_unanswered, closes_at, moves_closes_broken}
use Rattle.promises.proofs.ConnectionAsks.{moves_serves}

-- ---- reads

-- a connection changes in parts that no device notices
abbrev pub Keeping : Entry → Entry → Type 0
Keeping d e = (e.progress ≡ d.progress) × (e.broken ≡ d.broken) × (e.due ≡ d.due) × ReadsOn d e

pub moves_sets : (moment key : ℕ) (d e : Entry) (l : Ledger) (hs : List Happening) (l' : Ledger) → Good l → l.entries key ≡ Some d → Keeping d e → Sets key e l hs l' → Goes true moment l hs l'
moves_sets moment key d e l hs l' good there keeps it = goes_calm true moment l hs l' good (calm_sets key d e l hs l' there (ordered_keeps d e keeps.0 keeps.1 keeps.2 keeps.3) (ap run_notes it.0) it.1)

pub moves_drops : (moment key : ℕ) (e : Entry) (l : Ledger) (hs : List Happening) (l' : Ledger) → Good l → l.entries key ≡ Some e → Drops At.Feed key e l hs l' → Goes true moment l hs l'
moves_drops moment key e l hs l' good there it = goes_calm true moment l hs l' good (calm_sets key e (broken e) l hs l' there (breaking e) (ap run_notes it.0) it.1)

pub fed_whole : (moment key : ℕ) (e : Entry) (bytes : List ℕ) (l : Ledger) (hs : List Happening) (l' : Ledger) → Good l → l.entries key ≡ Some e → FedWhole moment key e bytes l hs l' → Goes true moment l hs l'
fed_whole moment key e bytes l hs l' good there (inl it) =
    let first = moves_sets moment key e (reading bytes e) l it.prefix it.mid good there (refl, refl, refl, record { same = refl; more = bytes; grown = refl; drains = λ is. is }) it.first in
    goes_then true moment l it.prefix it.mid it.back l' hs it.whole first (moves_serves moment key it.mid it.back l' first.good it.second)
fed_whole moment key e bytes l hs l' good there (inr it) =
    let first = moves_drops moment key e l it.prefix it.mid good there it.first in
    goes_then true moment l it.prefix it.mid it.back l' hs it.whole first (moves_closes_broken moment it.mid it.back l' first.good it.second)

pub fed_open : (t : Bool) (moment key : ℕ) (e : Entry) (bytes : List ℕ) (l : Ledger) (hs : List Happening) (l' : Ledger) → Good l → l.entries key ≡ Some e → If t (Sets key e) (FedWhole moment key e bytes) l hs l' → Goes true moment l hs l'
fed_open true moment key e bytes l hs l' good there it = moves_sets moment key e e l hs l' good there (refl, refl, refl, reads_same e) it
fed_open false moment key e bytes l hs l' good there it = fed_whole moment key e bytes l hs l' good there it

pub feeds_at : (moment key : ℕ) (bytes : List ℕ) (o : Option Entry) (l : Ledger) (hs : List Happening) (l' : Ledger) → Good l → l.entries key ≡ o → FeedsAt moment key bytes o l hs l' → Goes true moment l hs l'
feeds_at moment key bytes None l hs l' good there it = goes_calm true moment l hs l' good (calms_nothing l hs l' it)
feeds_at moment key bytes (Some e) l hs l' good there it = fed_open e.draining moment key e bytes l hs l' good there it

pub moves_feeds : (moment key : ℕ) (bytes : List ℕ) → Moves true moment (FeedsOne moment key bytes)
moves_feeds moment key bytes l hs l' good it = feeds_at moment key bytes (l.entries key) l hs l' good refl it

pub moves_fails : (moment key : ℕ) → Moves true moment (Fails moment key)
moves_fails moment key = moves_then true moment (Breaks key) (ClosesBroken moment) (moves_calm true moment (Breaks key) (calms_breaks key)) (moves_closes_broken moment)

pub polled_then : (moment : ℕ) (R : Rel) (l : Ledger) (hs : List Happening) (l' : Ledger) → Good l → (poll : Poll) → (it : Then (Polls poll) R l hs l') → ((mid : Ledger) → mid ≡ l → R mid it.back l' → Goes true moment mid it.back l') → Goes true moment l hs l'
polled_then moment R l hs l' good poll it goes =
    goes_then true moment l it.prefix it.mid it.back l' hs it.whole (goes_calm true moment l it.prefix it.mid good (calm_still l it.prefix it.mid (ap run_notes it.first.0) it.first.1)) (goes it.mid it.first.1 it.second)

pub good_at : (l mid : Ledger) → mid ≡ l → Good l → Good mid
good_at l mid same good = subst Good (sym same) good

pub reads_as : (moment key : ℕ) (e : Entry) (answer : WireAnswer (List ℕ)) (l : Ledger) (hs : List Happening) (l' : Ledger) → Good l → l.entries key ≡ Some e → ReadsAs moment key e answer l hs l' → Goes true moment l hs l'
reads_as moment key e (wire.Done bytes) l hs l' good there it = polled_then moment (FeedsOne moment key bytes) l hs l' good (Reads e.id (wire.Done bytes)) it (λ mid same more. moves_feeds moment key bytes mid it.back l' (good_at l mid same good) more)
reads_as moment key e wire.Waiting l hs l' good there it = goes_calm true moment l hs l' good (calm_still l hs l' (ap run_notes it.0) it.1)
reads_as moment key e wire.End l hs l' good there it =
    polled_then moment (Sets key (record e { ended = true })) l hs l' good (Reads e.id wire.End) it
    (λ mid same more. moves_sets moment key e (record e { ended = true }) mid it.back l' (good_at l mid same good) (ap (λ (x : Ledger). x.entries key) same ∙ there) (refl, refl, refl, reads_still e (record e { ended = true }) refl refl refl) more)
reads_as moment key e wire.Fault l hs l' good there it = polled_then moment (Fails moment key) l hs l' good (Reads e.id wire.Fault) it (λ mid same more. moves_fails moment key mid it.back l' (good_at l mid same good) more)

pub reads_if : (t : Bool) (moment key : ℕ) (e : Entry) (l : Ledger) (hs : List Happening) (l' : Ledger) → Good l → l.entries key ≡ Some e → If t (ReadsOpen moment key e) Nothing l hs l' → Goes true moment l hs l'
reads_if true moment key e l hs l' good there (answer, segment, it) = reads_as moment key e answer l hs l' good there it
reads_if false moment key e l hs l' good there it = goes_calm true moment l hs l' good (calms_nothing l hs l' it)

pub reads_at : (moment key : ℕ) (o : Option Entry) (l : Ledger) (hs : List Happening) (l' : Ledger) → Good l → l.entries key ≡ o → ReadsAt moment key o l hs l' → Goes true moment l hs l'
reads_at moment key None l hs l' good there it = goes_calm true moment l hs l' good (calms_nothing l hs l' it)
reads_at moment key (Some e) l hs l' good there it = reads_if (is_read e) moment key e l hs l' good there it

pub moves_reads : (moment key : ℕ) → Moves true moment (ReadsOne moment key)
moves_reads moment key l hs l' good it = reads_at moment key (l.entries key) l hs l' good refl it

-- ---- writes, and closings that are not at once

pub writes_as : (moment key : ℕ) (e : Entry) (offered : List ℕ) (answer : WireAnswer ℕ) (l : Ledger) (hs : List Happening) (l' : Ledger) → Good l → l.entries key ≡ Some e → WritesAs moment key e offered answer l hs l' → Goes true moment l hs l'
writes_as moment key e offered (wire.Done n) l hs l' good there it =
    polled_then moment (Sets key (record e { taken = e.taken ++ take n offered })) l hs l' good (Writes e.id offered (wire.Done n)) it
    (λ mid same more. moves_sets moment key e (record e { taken = e.taken ++ take n offered }) mid it.back l' (good_at l mid same good) (ap (λ (x : Ledger). x.entries key) same ∙ there) (refl, refl, refl, reads_still e (record e { taken = e.taken ++ take n offered }) refl refl refl) more)
writes_as moment key e offered wire.Waiting l hs l' good there it = goes_calm true moment l hs l' good (calm_still l hs l' (ap run_notes it.0) it.1)
writes_as moment key e offered wire.End l hs l' good there it = polled_then moment (Fails moment key) l hs l' good (Writes e.id offered wire.End) it (λ mid same more. moves_fails moment key mid it.back l' (good_at l mid same good) more)
writes_as moment key e offered wire.Fault l hs l' good there it = polled_then moment (Fails moment key) l hs l' good (Writes e.id offered wire.Fault) it (λ mid same more. moves_fails moment key mid it.back l' (good_at l mid same good) more)

pub writes_if : (t : Bool) (moment key : ℕ) (e : Entry) (l : Ledger) (hs : List Happening) (l' : Ledger) → Good l → l.entries key ≡ Some e → If t (WritesOpen moment key e) Nothing l hs l' → Goes true moment l hs l'
writes_if true moment key e l hs l' good there (offered, prefix, answer, it) = writes_as moment key e offered answer l hs l' good there it
writes_if false moment key e l hs l' good there it = goes_calm true moment l hs l' good (calms_nothing l hs l' it)

pub writes_at : (moment key : ℕ) (o : Option Entry) (l : Ledger) (hs : List Happening) (l' : Ledger) → Good l → l.entries key ≡ o → WritesAt moment key o l hs l' → Goes true moment l hs l'
writes_at moment key None l hs l' good there it = goes_calm true moment l hs l' good (calms_nothing l hs l' it)
writes_at moment key (Some e) l hs l' good there it = writes_if (nat_lt 0 (length (waiting e))) moment key e l hs l' good there it

pub moves_writes : (moment key : ℕ) → Moves true moment (WritesOne moment key)
moves_writes moment key l hs l' good it = writes_at moment key (l.entries key) l hs l' good refl it

pub ends_if : (t : Bool) (moment key : ℕ) (e : Entry) (l : Ledger) (hs : List Happening) (l' : Ledger) → Good l → l.entries key ≡ Some e → If t (Then (ClosesAs moment Drained key e) (ClosesBroken moment)) Nothing l hs l' → Goes true moment l hs l'
ends_if true moment key e l hs l' good there it =
    let first = closes_at moment Drained key e l it.prefix it.mid good there it.first in
    goes_then true moment l it.prefix it.mid it.back l' hs it.whole first (moves_closes_broken moment it.mid it.back l' first.good it.second)
ends_if false moment key e l hs l' good there it = goes_calm true moment l hs l' good (calms_nothing l hs l' it)

pub ends_at : (moment key : ℕ) (o : Option Entry) (l : Ledger) (hs : List Happening) (l' : Ledger) → Good l → l.entries key ≡ o → EndsAt moment key o l hs l' → Goes true moment l hs l'
ends_at moment key None l hs l' good there it = goes_calm true moment l hs l' good (calms_nothing l hs l' it)
ends_at moment key (Some e) l hs l' good there it = ends_if (is_done e) moment key e l hs l' good there it

pub moves_ends : (moment key : ℕ) → Moves true moment (EndsOne moment key)
moves_ends moment key l hs l' good it = ends_at moment key (l.entries key) l hs l' good refl it

-- ---- accepts

pub opening_plain : (door : Door) (id : ℕ) (x : Option Entry) → x ≡ None → Plain x (Some (opening_entry door id))
opening_plain Ipp id x is = record { counts = λ device counts. cc; lost = λ device lost. cc; device = λ device named. cc; fresh = λ fresh. tt }
opening_plain Lpd id x is = record { counts = λ device counts. cc; lost = λ device lost. cc; device = λ device named. cc; fresh = λ fresh. tt }
opening_plain Devices id x is = record { counts = λ device counts. cc; lost = λ device lost. cc; device = λ device named. cc; fresh = λ fresh none. refl }

-- a client's connection begins with nothing parsed, asked or due
pub opening_progresses : (core : State) (door : Door) (id key : ℕ) (x : Option Entry) (e : Entry) → Some (opening_entry door id) ≡ Some e → ClientTalk e.progress → e.broken ≡ false → TalkedAs core key [] x e
opening_progresses core door id key x e is of sound =
    let this : opening_entry door id ≡ e = one_entry (opening_entry door id) e is in
    inr (record {
      earlier = [];
      since = [];
      whole = refl;
      door = door;
      acts = [];
      are = ap (λ (y : Entry). y.progress) (sym this);
      prefixes = All-nil (λ (a : Act). IsPrefixOf a.read e.read);
      over = λ is. cc;
      states = All-nil (λ (a : Act). IsStateOf a.state core []);
      asked = refl;
      due = ap (λ (y : Entry). y.due) (sym this);
    })

-- the opening entry of a connection isn't broken
pub opening_sound : (door : Door) (id : ℕ) (e : Entry) → Some (opening_entry door id) ≡ Some e → e.broken ≡ true → ⊥
opening_sound door id e is broken = no_true e.broken broken (ap (λ (x : Entry). x.broken) (sym (one_entry (opening_entry door id) e is)))

pub moves_opens : (moment : ℕ) (door : Door) (id : ℕ) → Moves true moment (Opens door id)
moves_opens moment door id l hs l' good (inl (key, free, is, after)) =
    goes_plain true moment key (Some (opening_entry door id)) l hs l' good (ap run_notes is) (ap (λ (x : Ledger). x.core) after) (ap (λ (x : Ledger). x.entries) after) (opening_plain door id (l.entries key) free) (opening_progresses l.core door id key (l.entries key)) (opening_sound door id) (none_closed l [] l' (ap (λ (x : Ledger). x.closed) after))
moves_opens moment door id l hs l' good (inr it) = goes_calm true moment l hs l' good (calm_still l hs l' (ap run_notes it.0) it.1)

pub accepts_as : (moment : ℕ) (door : Door) (answer : WireAnswer ℕ) → Moves true moment (AcceptsAs door answer)
accepts_as moment door (wire.Done id) l hs l' good it =
    polled_then moment (Opens door id) l hs l' good (Accepts door (wire.Done id)) it (λ mid same more. moves_opens moment door id mid it.back l' (good_at l mid same good) more)
accepts_as moment door wire.Waiting l hs l' good it = goes_calm true moment l hs l' good (calm_still l hs l' (ap run_notes it.0) it.1)
accepts_as moment door wire.End l hs l' good it = goes_calm true moment l hs l' good (calm_still l hs l' (ap run_notes it.0) it.1)
accepts_as moment door wire.Fault l hs l' good it = goes_calm true moment l hs l' good (calm_still l hs l' (ap run_notes it.0) it.1)

pub moves_accepts : (moment : ℕ) (door : Door) → Moves true moment (AcceptsAt door)
moves_accepts moment door l hs l' good it =
    moves_if true moment (nat_lt l.count CONNECTIONS) (AcceptsOne door) Nothing (λ a ks b fine one. accepts_as moment door one.0 a ks b fine one.1) (moves_calm true moment Nothing calms_nothing) l hs l' good it

-- ---- turns, and calls between them

pub notes_good : (now : ℕ) (l : Ledger) (hs : List Happening) (l' : Ledger) → Notes now l hs l' → Calm l hs l'
notes_good now l hs l' it = record {
  core = ap (λ (x : Ledger). x.core) it.1;
  closed = ap (λ (x : Ledger). x.closed) it.1;
  notes = ap run_notes it.0;
  each = λ key. subst (λ (x : Ledger). Ordered (λ d. []) (l.entries key) (x.entries key)) (sym it.1) (ordered_still (l.entries key));
}

pub moves_ticks : (turn : Bool) (moment : ℕ) → Moves turn moment (Ticks moment)
moves_ticks turn moment l hs l' good it = moves_then turn moment (Notes (now_at moment l)) (Unanswered moment Is.Tick) (moves_calm turn moment (Notes (now_at moment l)) (notes_good (now_at moment l))) (moves_unanswered turn moment Is.Tick refl) l hs l' good it

pub moves_tick : (moment : ℕ) → Moves true moment (TicksIfDue moment)
moves_tick moment l hs l' good it =
    moves_if true moment (is_tick_due moment l) (Then (Ticks moment) (ClosesBroken moment)) Nothing (moves_then true moment (Ticks moment) (ClosesBroken moment) (moves_ticks true moment) (moves_closes_broken moment)) (moves_calm true moment Nothing calms_nothing) l hs l' good it

pub covers_calm : (n : ℕ) → Calms (Covers n)
covers_calm n l hs l' it = calms_chooses (Looked n) l hs l' it.1

pub moves_round : (moment : ℕ) → Moves true moment (Round moment)
moves_round moment l hs l' good (n, it) =
    moves_then true moment (Covers n) (Then (Each n (ReadsOne moment)) (Then (Each n (WritesOne moment)) (Each n (EndsOne moment)))) (moves_calm true moment (Covers n) (covers_calm n))
    (moves_then true moment (Each n (ReadsOne moment)) (Then (Each n (WritesOne moment)) (Each n (EndsOne moment))) (moves_each true moment n (ReadsOne moment) (moves_reads moment))
    (moves_then true moment (Each n (WritesOne moment)) (Each n (EndsOne moment)) (moves_each true moment n (WritesOne moment) (moves_writes moment)) (moves_each true moment n (EndsOne moment) (moves_ends moment)))) l hs l' good it

pub moves_turn : (moment : ℕ) → Moves true moment (Turn moment)
moves_turn moment =
    moves_then true moment (ClosesBroken moment) (Then (TicksIfDue moment) (Then (AcceptsAt Ipp) (Then (AcceptsAt Lpd) (Then (AcceptsAt Devices) (Round moment))))) (moves_closes_broken moment)
    (moves_then true moment (TicksIfDue moment) (Then (AcceptsAt Ipp) (Then (AcceptsAt Lpd) (Then (AcceptsAt Devices) (Round moment)))) (moves_tick moment)
    (moves_then true moment (AcceptsAt Ipp) (Then (AcceptsAt Lpd) (Then (AcceptsAt Devices) (Round moment))) (moves_accepts moment Ipp)
    (moves_then true moment (AcceptsAt Lpd) (Then (AcceptsAt Devices) (Round moment)) (moves_accepts moment Lpd) (moves_then true moment (AcceptsAt Devices) (Round moment) (moves_accepts moment Devices) (moves_round moment)))))

-- between turns no event gives a name
parsed_between : (device : ℕ) (parsed : Report) → None ≡ hello_in false device parsed
parsed_between device (report.Hello name) = refl
parsed_between device parsed = refl

none_between : (event : Event) → None ≡ named_by false event
none_between (Is.Report device parsed) = parsed_between device parsed
none_between event = refl

pub between_answers : (moment request : ℕ) (reply : Option Effects) (bytes : List ℕ) → Moves false moment (Between.Answers request reply bytes)
between_answers moment request (Some reply) bytes l hs l' good (inl (are, it)) = goes_calm false moment l hs l' good (calms_chooses Found l hs l' it)
between_answers moment request (Some reply) bytes l hs l' good (inr it) = goes_refused false moment At.Reply None l hs l' good refl it
between_answers moment request None bytes l hs l' good it = goes_refused false moment At.Event None l hs l' good refl it

pub body_asks : (moment : ℕ) (it : ParsedRequest) (served : Between.Outcome) → Moves false moment (BodyAsks moment it served)
body_asks moment asked.TooShort served l hs l' good it = goes_calm false moment l hs l' good (calms_nothing l hs l' it.1)
body_asks moment (asked.Refused status request) served l hs l' good (is, inl it) = goes_calm false moment l hs l' good (calms_chooses Found l hs l' it)
body_asks moment (asked.Refused status request) served l hs l' good (is, inr it) = goes_refused false moment At.Reply None l hs l' good refl it
body_asks moment (asked.Event request event) served l hs l' good (bytes, is, (outcome, it)) =
    moves_then false moment (Happens moment event outcome) (Between.Answers request (effects_of outcome) bytes) (moves_happens false moment event outcome (none_between event)) (between_answers moment request (effects_of outcome) bytes) l hs l' good it

pub body_comes : (moment : ℕ) (body : List ℕ) (served : Between.Outcome) → Moves false moment (BodyComes moment body served)
body_comes moment body served l hs l' good (inl (it, asks, comes)) =
    moves_then false moment (Chooses Found) (BodyAsks moment it served) (moves_calm false moment (Chooses Found) (calms_chooses Found)) (body_asks moment it served) l hs l' good comes
body_comes moment body served l hs l' good (inr it) = goes_refused false moment At.Event None l hs l' good refl it

pub moves_action : (action : Action) (l l' : Ledger) → Good l → DoesAction action l l' → Goes (is_turn action) (moment_of action) l (happenings_of action) l'
moves_action (Turned moment hs) l l' good it = moves_turn moment l hs l' good it
moves_action (Served_body moment body answer hs) l l' good (served, same, it) = body_comes moment body served l hs l' good it
moves_action (Reported moment device parsed hs) l l' good (what, same, it) = moves_unanswered false moment (Is.Report device what) (parsed_between device what) l hs l' good it
moves_action (Ticked moment hs) l l' good it = moves_ticks false moment l hs l' good it

-- ---- traces

pub record GoesOn_in (trace : Trace) (l l' : Ledger) : Type 0 where
  pub handled : List RunPart
  pub good : Good l'
  pub timed : AreOf trace handled
  pub run : AreHandled l.core handled l'.core
  pub notified : run_notes (happenings_in trace) ≡ flat_map (λ (it : RunPart). it.notes) handled
  pub came : (key device : ℕ) → Counts device (l'.entries key) → CameAs device handled (l.entries key) (l'.entries key)
  pub lost : (key device : ℕ) → IsLost device (l'.entries key) → LostAs device handled (l.entries key) (l'.entries key)
  pub progresses : (key : ℕ) (e : Entry) → l'.entries key ≡ Some e → ClientTalk e.progress → e.broken ≡ false → TalkedAs l.core key handled (l.entries key) e
  pub stops : (key : ℕ) (e : Entry) → l'.entries key ≡ Some e → ClientTalk e.progress → e.broken ≡ true → StopsAs l.core key handled (l.entries key) e
  pub closed : AllClosed l handled l'

pub goes_on : (trace : Trace) (l l' : Ledger) → Good l → Runs trace l l' → GoesOn_in trace l l'
goes_on [] l l' good same = record {
  handled = [];
  good = subst Good (sym same) good;
  timed = refl;
  run = ap (λ (x : Ledger). x.core) same;
  notified = refl;
  came = λ key device counts. inl (subst (λ (x : Ledger). Counts device (x.entries key)) same counts, ap (λ (x : Ledger). due_at (x.entries key)) same);
  lost = λ key device is. inl (subst (λ (x : Ledger). IsLost device (x.entries key)) same is, ap (λ (x : Ledger). due_at (x.entries key)) same);
  progresses = λ key. progressed_still l.core key [] (l.entries key) (l'.entries key) (λ f is of. (f, subst (λ (x : Ledger). x.entries key ≡ Some f) same is, refl, λ sound. sound, refl, reads_same f)) refl;
  stops = λ key. stops_still l.core key [] (l.entries key) (l'.entries key) (λ f is of. (f, subst (λ (x : Ledger). x.entries key ≡ Some f) same is, refl, λ sound. sound, refl, reads_same f)) refl;
  closed = none_closed l [] l' (ap (λ (x : Ledger). x.closed) same);
}
goes_on (action ∷ actions) l l' good (mid, does, runs) =
    let first = moves_action action l mid good does in
    let later = goes_on actions mid l' first.good runs in
    record {
      handled = first.handled ++ later.handled;
      good = later.good;
      timed = (first.handled, later.handled, refl, first.timed, first.notified, later.timed);
      run = handled_append l.core mid.core l'.core first.handled later.handled first.run later.run;
      notified = notes_append (happenings_of action) (happenings_in actions)
          ∙ (ap (λ (ns : List Note). ns ++ run_notes (happenings_in actions)) first.notified ∙ (ap (λ (ns : List Note). flat_map (λ (it : RunPart). it.notes) first.handled ++ ns) later.notified ∙ sym (flat_map-append (λ (it : RunPart). it.notes) first.handled later.handled)));
      came = λ key device counts. came_then device first.handled later.handled (l.entries key) (mid.entries key) (l'.entries key) (later.came key device counts) (first.came key device);
      lost = λ key device is. lost_then device first.handled later.handled (l.entries key) (mid.entries key) (l'.entries key) (later.lost key device is) (first.lost key device) (first.came key device);
      progresses = λ key e is of sound. progressed_then l.core mid.core key first.handled later.handled (l.entries key) (mid.entries key) e first.run (later.progresses key e is of sound) (λ d there client unbroken. first.progresses key d there client unbroken);
      stops = λ key e is of broken. stops_then l.core mid.core key first.handled later.handled (l.entries key) (mid.entries key) e first.run of (later.stops key e is of broken) (first.progresses key) (first.stops key);
      closed = all_closed_then l mid l' first.handled later.handled first.run first.came first.lost first.progresses first.stops first.closed later.closed;
    }

pub opening_good : (opening : State) → Good (opening_ledger opening)
opening_good opening = record { one = λ device key other p q. absurd p; fresh = λ key. tt }

-- ---- the laws

module _ (opening : State) (trace : Trace) (l : Ledger) (runs : Runs trace (opening_ledger opening) l) where
  all : GoesOn_in trace (opening_ledger opening) l
  all = goes_on trace (opening_ledger opening) l (opening_good opening) runs

  due_since : (x o : Option Entry) (handled : List RunPart) (device : ℕ) → x ≡ None → CameAs device handled x o → due_at o ≡ due_by device [] handled
  due_since x o handled device none (inl (counts, due)) = absurd (subst (λ (y : Option Entry). Counts device y) none counts)
  due_since x o handled device none (inr (called, due)) = due

  no_entry : (y : Option Entry) (d : Entry) → y ≡ None → y ≡ Some d → ⊥
  no_entry y d p q = cc

  answered_since : (x : Option Entry) (key : ℕ) (handled : List RunPart) (e : Entry) → x ≡ None → TalkedAs opening key handled x e → IsAnswered opening key handled e
  answered_since x key handled e none (inl went) = absurd (no_entry x went.before none went.there)
  answered_since x key handled e none (inr answered) = answered

  halted_since : (x o : Option Entry) (handled : List RunPart) (device : ℕ) → x ≡ None → LostAs device handled x o → IsPrefixSent handled device (due_at o)
  halted_since x o handled device none (inl (was, same)) = absurd (subst (λ (y : Option Entry). IsLost device y) none was)
  halted_since x o handled device none (inr h) = (h.before, h.tail, h.whole, h.rest, by h.came)
    where
      by : CameWith device h.before x (due_at o ++ h.rest) → due_at o ++ h.rest ≡ due_by device [] h.before
      by (inl (counts, due)) = absurd (subst (λ (y : Option Entry). Counts device y) none counts)
      by (inr (called, due)) = due

  -- a prefix of the bytes sent until an earlier event
  prefix_more : (handled before tail : List RunPart) (device : ℕ) (due : List ℕ) → handled ≡ before ++ tail → IsPrefixSent before device due → IsPrefixSent handled device due
  prefix_more handled before tail device due whole (first, later, same, rest, is) = (first, later ++ tail, whole ∙ (ap (λ (its : List RunPart). its ++ tail) same ∙ append_assoc first later tail), rest, is)

  cut_since : (x : Option Entry) (key : ℕ) (handled : List RunPart) (e : Entry) → x ≡ None → StopsAs opening key handled x e → IsCutOff opening key handled e
  cut_since x key handled e none (inl (d, there, broken, progress, due, silent, reads)) = absurd (no_entry x d none there)
  cut_since x key handled e none (inr (inl (d, there, client, sound, until, reads, quiet))) = absurd (no_entry x d none there)
  cut_since x key handled e none (inr (inr cut)) = cut

  pub are_sent : AreSent opening trace l
  are_sent = record {
    handled = all.handled;
    timed = all.timed;
    run = all.run;
    notified = all.notified;
    due = λ key e device there named sound.
        sym (ap due_at there) ∙ due_since None (l.entries key) all.handled device refl (all.came key device (subst (λ (o : Option Entry). Counts device o) (sym there) (named, sound)));
    closed = subst (λ (closed : List (Entry × Fate)). All (λ (it : Entry × Fate). WasSent all.handled it.0) closed) (sym all.closed.closed)
        (All-weaker (λ (it : Entry × Fate). ClosedAs (opening_ledger opening) all.handled it.0) (λ (it : Entry × Fate). WasSent all.handled it.0)
        (λ it c device named sound. (c.before, c.tail, c.whole, due_since None (Some it.0) c.before device refl (c.came device named sound))) all.closed.more all.closed.each);
    halted = λ key e there device named is.
        subst (λ (o : Option Entry). IsPrefixSent all.handled device (due_at o)) there
        (halted_since None (l.entries key) all.handled device refl (all.lost key device (subst (λ (o : Option Entry). IsLost device o) (sym there) (named, is))));
    closed_halted = subst (λ (closed : List (Entry × Fate)). All (λ (it : Entry × Fate). WasHalted all.handled it.0) closed) (sym all.closed.closed)
        (All-weaker (λ (it : Entry × Fate). ClosedAs (opening_ledger opening) all.handled it.0) (λ (it : Entry × Fate). WasHalted all.handled it.0)
        (λ it c device named is. prefix_more all.handled c.before c.tail device it.0.due c.whole (halted_since None (Some it.0) c.before device refl (c.lost device named is))) all.closed.more all.closed.each);
  }

  pub are_answered : ((key : ℕ) (e : Entry) → l.entries key ≡ Some e → IsActedOn e) → ((key : ℕ) (e : Entry) → l.entries key ≡ Some e → IsFirst e.read e.progress) → All (λ (it : Entry × Fate). IsFirst it.0.read it.0.progress) l.closed → AreAnswered opening trace l
  are_answered acted_on first gone = record {
    handled = all.handled;
    timed = all.timed;
    run = all.run;
    notified = all.notified;
    answered = λ key e there client sound. answered_since None key all.handled e refl (all.progresses key e there client sound);
    first = first;
    closed_first = gone;
    acted_on = acted_on;
    closed = subst (λ (closed : List (Entry × Fate)). All (λ (it : Entry × Fate). WasAnswered opening all.handled it.0) closed) (sym all.closed.closed)
        (All-weaker (λ (it : Entry × Fate). ClosedAs (opening_ledger opening) all.handled it.0) (λ (it : Entry × Fate). WasAnswered opening all.handled it.0)
        (λ it c client sound. (c.key, c.before, c.tail, c.whole, answered_since None c.key c.before it.0 refl (c.progresses client sound))) all.closed.more all.closed.each);
    cut_off = λ key e there client broken. cut_since None key all.handled e refl (all.stops key e there client broken);
    closed_cut_off = subst (λ (closed : List (Entry × Fate)). All (λ (it : Entry × Fate). WasCutOff opening all.handled it.0) closed) (sym all.closed.closed)
        (All-weaker (λ (it : Entry × Fate). ClosedAs (opening_ledger opening) all.handled it.0) (λ (it : Entry × Fate). WasCutOff opening all.handled it.0)
        (λ it c client broken. (c.key, c.before, c.tail, c.whole, cut_since None c.key c.before it.0 refl (c.stops client broken))) all.closed.more all.closed.each);
  }
