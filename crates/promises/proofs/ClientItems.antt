-- The items of a client's stream that were acted on are the items that its bytes say first.
use Rattle.std.proofs.Common.{◌≡◌, ℕ, zero, suc, Bool, true, false, List, [], ◌∷◌, ◌++◌, length, take, refl, sym, ap, subst, Option, Some, None, inl, inr, All}
use Rattle.std.specs.Prelude.{◌==◌, nat_lt, if◌then◌else◌}
use Rattle.base_types.specs.declared.limits.TheConstants.Limits.{CONNECTIONS}
use Rattle.base_types.specs.declared.report.Report.TheVariants as report
use Rattle.print_room.specs.State.{State}
use Rattle.events.specs.declared.event.Event.{Event}
use Rattle.events.specs.declared.event.Event.TheVariants as Is
use Rattle.events.specs.declared.effects.Effects.{Effects}
use Rattle.dispatcher.specs.declared.handled.Dispatch.{Dispatch}
use Rattle.dispatcher.specs.declared.handled.Dispatch.TheVariants as dispatch
use Rattle.dispatcher.specs.Run.{Outcome, effects_of}
use Rattle.ipp_operations.specs.declared.parsed_request.ParsedRequest.{ParsedRequest}
use Rattle.ipp_operations.specs.declared.parsed_request.ParsedRequest.TheVariants as asked
use Rattle.wires.specs.Poll.{Poll, Accepts, Reads, Writes}
use Rattle.wires.specs.declared.wire.Progress.{Progress as WireAnswer}
use Rattle.wires.specs.declared.wire.Progress.TheVariants as wire
use Rattle.wires.specs.declared.wire.Door.{Door}
use Rattle.wires.specs.declared.wire.Door.TheVariants.{Ipp, Lpd, Devices}
use Rattle.connections.specs.Entry.{PeerRecord, Http, Queue, Link, Entry, opening_entry, device_of, closes_of, broken, owing, superseded_entry, unnamed, reading, waiting, needs_memory}
use Rattle.connections.specs.Asking.{ItemComes, StepsTo, AsksNext}
use Rattle.connections.specs.declared.ask.Ask.{Ask}
use Rattle.connections.specs.declared.ask.Ask.TheVariants as ask
use Rattle.connections.specs.declared.ask.Client.{Client}
use Rattle.connections.specs.declared.ask.Client.TheVariants as client
use Rattle.connections.specs.declared.step.Step.{Step}
use Rattle.connections.specs.declared.step.Step.TheVariants as step
use Rattle.connections.specs.Steps.{http_status}
use Rattle.http_front.specs.declared.awaited.Awaited.TheVariants.{Head}
use Rattle.http_front.proofs.Laws.{leads_more}
use Rattle.lpd.specs.declared.reader.Awaited.TheVariants.{Command}
use Rattle.lpd.proofs.Streams.{leads_more as items_more}
use Rattle.std.proofs.lemmas.List.Elements.{All-nil, All-push}
use Rattle.device_link.specs.Orders.{cancel_line}
use Rattle.settings_file.specs.Settings.{ServerSettings}
use Rattle.events.specs.declared.effects.Response.{Response}
use Rattle.events.specs.declared.effects.Response.TheVariants as answered
use Rattle.events.specs.declared.effects.LpdResponse.{LpdResponse}
use Rattle.events.specs.declared.effects.LpdResponse.TheVariants as shown
use Rattle.events.specs.declared.status.Status.{Status}
use Rattle.events.specs.declared.status.Status.TheVariants.{TemporaryError}
use Rattle.events.specs.Event.{is_query}
use Rattle.dispatcher.specs.declared.observer.DeviceRefusal.TheVariants as why
use Rattle.dispatcher.specs.declared.observer.AllocationSite.{AllocationSite}
use Rattle.dispatcher.specs.declared.observer.AllocationSite.TheVariants as At
use Rattle.dispatcher.specs.Notes.{Note, DeviceRefused, Refused}
use Rattle.ipp_operations.specs.QueueText.{ack_of, text_of}
use Rattle.connections.specs.Reply.{http_reply}
use Rattle.server.specs.Answering as Ans
use Rattle.server.specs.Hello.{IsSupersededAt, IsSuperseded, GivesName, HandlesHello}
use Rattle.server.specs.Acting.{place_of, place_of_part, Asks, ActsOn, ActsNext}
use Rattle.server.specs.Polls.{Happening, Choice, Found, Rested}
use Rattle.server.specs.Ledger.{Ledger, Fate, Drained, Broken, at_key, job_bytes, opening_ledger}
use Rattle.server.specs.Rel.{Rel, Nothing, Polls, Notifies, Chooses, Then, If, Or, Times, Many, Each, EachOf}
use Rattle.server.specs.Enqueuing.{Sets, BreaksAt, Breaks, Drops, EnqueuesOpen, EnqueuesAt, EnqueuesWhere, Enqueues, EnqueuesReplyAt, EnqueuesResponse, EnqueuesStatus, EnqueuesOn}
use Rattle.server.specs.Happening.{now_at, Decides, Sends, Starts, StartsAll, StartsBy, SendsAll, Orders, Happens, Unanswered}
use Rattle.server.specs.Closing.{Leaves, IsGone, ClosesAs, ClosesFirst, ClosesBroken}
use Rattle.server.specs.Polling.{Opens, AcceptsAs, AcceptsOne, AcceptsAt, Acts, Serves, FedWhole, FeedsAt, Fails, ReadsAs, ReadsOpen, ReadsAt, is_read, ReadsOne, WritesAs, WritesOpen, WritesAt, WritesOne, is_done, EndsAt, EndsOne}
use Rattle.server.specs.Turn as Between
use Rattle.server.specs.Turn.{Ticks, Notes, is_tick_due, TicksIfDue, Covers, Round, Turn, BodyAsks, BodyComes, Action, Turned, Served_body, Reported, Ticked, Trace, DoesAction, Runs}
use Rattle.promises.specs.Answers.{IsFirst}

abbrev First : Entry → Type 0
First e = IsFirst e.read e.progress

abbrev FirstAt : Option Entry → Type 0
FirstAt None = Unit {0}
FirstAt (Some e) = First e

-- on each connection, open or closed
record AllFirst (l : Ledger) : Type 0 where
  here : (key : ℕ) → FirstAt (l.entries key)
  gone : All (λ (it : Entry × Fate). First it.0) l.closed

abbrev Keeps : Rel → Type 0
Keeps R = (l : Ledger) (hs : List Happening) (l' : Ledger) → AllFirst l → R l hs l' → AllFirst l'

keeps_same : (l l' : Ledger) → l'.entries ≡ l.entries → l'.closed ≡ l.closed → AllFirst l → AllFirst l'
keeps_same l l' same closed first = record {
  here = λ key. subst (λ (entries : ℕ → Option Entry). FirstAt (entries key)) (sym same) (first.here key);
  gone = subst (λ (its : List (Entry × Fate)). All (λ (it : Entry × Fate). First it.0) its) (sym closed) first.gone;
}

keeps_nothing : Keeps Nothing
keeps_nothing l hs l' first it = keeps_same l l' (ap (λ (x : Ledger). x.entries) it.1) (ap (λ (x : Ledger). x.closed) it.1) first

keeps_then : (R S : Rel) → Keeps R → Keeps S → Keeps (Then R S)
keeps_then R S r s l hs l' first it = s it.mid it.back l' (r l it.prefix it.mid first it.first) it.second

keeps_if : (t : Bool) (R S : Rel) → Keeps R → Keeps S → Keeps (If t R S)
keeps_if true R S r s l hs l' first it = r l hs l' first it
keeps_if false R S r s l hs l' first it = s l hs l' first it

keeps_each : (n : ℕ) (R : ℕ → Rel) → ((key : ℕ) → Keeps (R key)) → Keeps (Each n R)
keeps_each zero R r = keeps_nothing
keeps_each (suc n) R r = keeps_then (Each n R) (R n) (keeps_each n R r) (r n)

at_if : (t : Bool) (x y : Option Entry) → (t ≡ true → FirstAt x) → (t ≡ false → FirstAt y) → FirstAt (if t then x else y)
at_if true x y p q = p refl
at_if false x y p q = q refl

-- another connection, or none, under a key
keeps_here : (key : ℕ) (o : Option Entry) (l l' : Ledger) → AllFirst l → FirstAt o → l'.entries ≡ at_key key o l.entries → (other : ℕ) → FirstAt (l'.entries other)
keeps_here key o l l' first is after other = subst (λ (entries : ℕ → Option Entry). FirstAt (entries other)) (sym after) (at_if (other == key) o (l.entries other) (λ same. is) (λ same. first.here other))

keeps_at : (key : ℕ) (o : Option Entry) (l l' : Ledger) → AllFirst l → FirstAt o → l'.entries ≡ at_key key o l.entries → l'.closed ≡ l.closed → AllFirst l'
keeps_at key o l l' first is after closed = record {
  here = keeps_here key o l l' first is after;
  gone = subst (λ (its : List (Entry × Fate)). All (λ (it : Entry × Fate). First it.0) its) (sym closed) first.gone;
}

there : (l : Ledger) (key : ℕ) (e : Entry) → AllFirst l → l.entries key ≡ Some e → First e
there l key e first is = subst FirstAt is (first.here key)

keeps_sets : (key : ℕ) (e : Entry) (l : Ledger) (hs : List Happening) (l' : Ledger) → AllFirst l → First e → Sets key e l hs l' → AllFirst l'
keeps_sets key e l hs l' first is it = keeps_at key (Some e) l l' first is (ap (λ (x : Ledger). x.entries) it.1) (ap (λ (x : Ledger). x.closed) it.1)

-- by the connection under a key
breaks_at : (key : ℕ) (o : Option Entry) (l : Ledger) (hs : List Happening) (l' : Ledger) → AllFirst l → FirstAt o → BreaksAt key o l hs l' → AllFirst l'
breaks_at key None l hs l' first is it = keeps_nothing l hs l' first it
breaks_at key (Some e) l hs l' first is it = keeps_sets key (broken e) l hs l' first is it

breaks_all : (key : ℕ) → Keeps (Breaks key)
breaks_all key l hs l' first it = breaks_at key (l.entries key) l hs l' first (first.here key) it

-- ---- the asks of a connection, and their results

-- more was read
first_more : (read bytes : List ℕ) (progress : PeerRecord) → IsFirst read progress → IsFirst (read ++ bytes) progress
first_more read bytes (Http parsed closes body) is = record { next = is.next; left = is.left ++ bytes; leads = (is.leads.0, leads_more is.leads.0 Head read bytes parsed is.next is.left is.leads.1) }
first_more read bytes (Queue items session) is = record { next = is.next; left = is.left ++ bytes; leads = items_more Command read bytes items is.next is.left is.leads }
first_more read bytes (Link reports device) is = tt

first_unnamed : (read : List ℕ) (progress : PeerRecord) → IsFirst read progress → IsFirst read (unnamed progress)
first_unnamed read (Http parsed closes body) is = is
first_unnamed read (Queue items session) is = is
first_unnamed read (Link reports device) is = tt

-- the next of its stream
first_mid : (settings : ServerSettings) (progress : PeerRecord) (e : Entry) (comes : Step) (mid : Entry) → IsFirst e.read e.progress → ItemComes settings progress e comes mid → IsFirst mid.read mid.progress
first_mid settings (Http parsed closes body) e comes mid is next = subst (λ (x : Entry). IsFirst x.read x.progress) (sym next.after) next.next
first_mid settings (Queue items session) e comes mid is (inl next) = subst (λ (x : Entry). IsFirst x.read x.progress) (sym next.after) next.next
first_mid settings (Queue items session) e comes mid is (inr (inl next)) = subst (λ (x : Entry). IsFirst x.read x.progress) (sym next.after) is
first_mid settings (Queue items session) e comes mid is (inr (inr next)) = subst (λ (x : Entry). IsFirst x.read x.progress) (sym next.1) is
first_mid settings (Link reports device) e comes mid is (inl next) = subst (λ (x : Entry). IsFirst x.read x.progress) (sym next.after) tt
first_mid settings (Link reports device) e comes mid is (inr (inl next)) = subst (λ (x : Entry). IsFirst x.read x.progress) (sym next.after) is
first_mid settings (Link reports device) e comes mid is (inr (inr next)) = subst (λ (x : Entry). IsFirst x.read x.progress) (sym next.1) is

first_step : (comes : Step) (mid new : Entry) (what : Ask) → First mid → StepsTo comes mid what new → First new
first_step (step.Due due last) mid new what is (inl it) = subst First (sym it.1) is
first_step (step.Due due last) mid new what is (inr it) = subst First (sym it.2) is
first_step (step.Asks asked last) mid new what is it = subst First (sym it.1) is
first_step (step.Breaks asked) mid new what is it = subst First (sym it.1) is

first_asks : (settings : ServerSettings) (what : Ask) (e new : Entry) → First e → AsksNext settings what e new → First new
first_asks settings what e new first a = first_step a.comes a.mid new what (first_mid settings e.progress e a.comes a.mid first a.takes_item) a.steps

keeps_or : (R S : Rel) → Keeps R → Keeps S → Keeps (Or R S)
keeps_or R S r s l hs l' first (inl it) = r l hs l' first it
keeps_or R S r s l hs l' first (inr it) = s l hs l' first it

keeps_times : (n : ℕ) (R : Rel) → Keeps R → Keeps (Times n R)
keeps_times zero R r = keeps_nothing
keeps_times (suc n) R r = keeps_then (Times n R) R (keeps_times n R r) r

keeps_many : (R : Rel) → Keeps R → Keeps (Many R)
keeps_many R r l hs l' first (n, it) = keeps_times n R r l hs l' first it

keeps_notifies : (note : Note) → Keeps (Notifies note)
keeps_notifies note l hs l' first it = keeps_same l l' (ap (λ (x : Ledger). x.entries) it.1) (ap (λ (x : Ledger). x.closed) it.1) first

keeps_chooses : (choice : Choice) → Keeps (Chooses choice)
keeps_chooses choice l hs l' first it = keeps_same l l' (ap (λ (x : Ledger). x.entries) it.1) (ap (λ (x : Ledger). x.closed) it.1) first

keeps_drop : (place : AllocationSite) (key : ℕ) (e : Entry) (l : Ledger) (hs : List Happening) (l' : Ledger) → AllFirst l → First e → Drops place key e l hs l' → AllFirst l'
keeps_drop place key e l hs l' first is it = keeps_at key (Some (broken e)) l l' first is (ap (λ (x : Ledger). x.entries) it.1) (ap (λ (x : Ledger). x.closed) it.1)

owing_open : (refusable : Bool) (key : ℕ) (bytes : List ℕ) (e : Entry) (l : Ledger) (hs : List Happening) (l' : Ledger) → AllFirst l → First e → EnqueuesOpen refusable key bytes e l hs l' → AllFirst l'
owing_open false key bytes e l hs l' first is it = keeps_sets key (owing bytes e) l hs l' first is it
owing_open true key bytes e l hs l' first is (inl it) = keeps_sets key (owing bytes e) it.mid it.back l' (keeps_chooses Found l it.prefix it.mid first it.first) is it.second
owing_open true key bytes e l hs l' first is (inr it) = keeps_drop At.Enqueue key e l hs l' first is it

owing_if : (t refusable : Bool) (key : ℕ) (bytes : List ℕ) (e : Entry) (l : Ledger) (hs : List Happening) (l' : Ledger) → AllFirst l → First e → If t Nothing (EnqueuesOpen refusable key bytes e) l hs l' → AllFirst l'
owing_if true refusable key bytes e l hs l' first is it = keeps_nothing l hs l' first it
owing_if false refusable key bytes e l hs l' first is it = owing_open refusable key bytes e l hs l' first is it

owing_at : (refusable : Entry → Bool) (key : ℕ) (bytes : List ℕ) (o : Option Entry) (l : Ledger) (hs : List Happening) (l' : Ledger) → AllFirst l → FirstAt o → EnqueuesAt refusable key bytes o l hs l' → AllFirst l'
owing_at refusable key bytes None l hs l' first is it = keeps_nothing l hs l' first it
owing_at refusable key bytes (Some e) l hs l' first is it = owing_if e.broken (refusable e) key bytes e l hs l' first is it

keeps_where : (refusable : Entry → Bool) (key : ℕ) (bytes : List ℕ) → Keeps (EnqueuesWhere refusable key bytes)
keeps_where refusable key bytes l hs l' first it = owing_at refusable key bytes (l.entries key) l hs l' first (first.here key) it

keeps_enqueues : (key : ℕ) (bytes : List ℕ) → Keeps (Enqueues key bytes)
keeps_enqueues key bytes = keeps_where (needs_memory bytes) key bytes

keeps_on : (refusable : Entry → Bool) (device : ℕ) (bytes : List ℕ) → Keeps (EnqueuesOn refusable device bytes)
keeps_on refusable device bytes l hs l' first (inl (key, is, it)) = keeps_where refusable key bytes l hs l' first it
keeps_on refusable device bytes l hs l' first (inr (absent, it)) = keeps_nothing l hs l' first it

-- ---- events, which concern devices' connections

keeps_each_of : {A : Type 0} (xs : List A) (R : A → Rel) → ((x : A) → Keeps (R x)) → Keeps (EachOf xs R)
keeps_each_of [] R r = keeps_nothing
keeps_each_of (x ∷ xs) R r = keeps_then (R x) (EachOf xs R) (r x) (keeps_each_of xs R r)

keeps_sends : (reply : Effects) → Keeps (SendsAll reply)
keeps_sends reply = keeps_each_of reply.cancels.items Sends (λ cancel. keeps_on (needs_memory (cancel_line cancel.job)) cancel.device (cancel_line cancel.job))

keeps_starts : Keeps StartsAll
keeps_starts l hs l' first it = keeps_each_of l.core.begun Starts (λ start a ks b all one. keeps_on (λ e. true) start.device (job_bytes a.core start.job) a ks b all one) l hs l' first it

keeps_starts_by : (made : Dispatch) → Keeps (StartsBy made)
keeps_starts_by dispatch.Query = keeps_nothing
keeps_starts_by dispatch.OutOfMemory = keeps_nothing
keeps_starts_by dispatch.Idle = keeps_nothing
keeps_starts_by dispatch.Planned = keeps_starts

keeps_orders : (outcome : Outcome) → Keeps (Orders outcome)
keeps_orders (Some handled) = keeps_then (SendsAll handled.effects) (StartsBy handled.dispatch) (keeps_sends handled.effects) (keeps_starts_by handled.dispatch)
keeps_orders None = keeps_nothing

keeps_happens : (moment : ℕ) (event : Event) (outcome : Outcome) → Keeps (Happens moment event outcome)
keeps_happens moment event outcome =
    keeps_then (Decides moment event outcome) (Orders outcome) (λ l hs l' first it. keeps_same l l' (ap (λ (x : Ledger). x.entries) it.after) (ap (λ (x : Ledger). x.closed) it.after) first) (keeps_orders outcome)

keeps_unanswered : (moment : ℕ) (event : Event) → Keeps (Unanswered moment event)
keeps_unanswered moment event l hs l' first (outcome, it) = keeps_happens moment event outcome l hs l' first it

keeps_gone : (moment : ℕ) (device : Option ℕ) → Keeps (IsGone moment device)
keeps_gone moment None = keeps_nothing
keeps_gone moment (Some device) = keeps_unanswered moment (Is.Report device report.Gone)

-- ---- closings

keeps_leaves : (fate : Fate) (key : ℕ) (e : Entry) (l : Ledger) (hs : List Happening) (l' : Ledger) → AllFirst l → First e → Leaves fate key e l hs l' → AllFirst l'
keeps_leaves fate key e l hs l' first is it = record {
  here = keeps_here key None l l' first tt (ap (λ (x : Ledger). x.entries) it.2);
  gone = subst (λ (its : List (Entry × Fate)). All (λ (one : Entry × Fate). First one.0) its) (sym (ap (λ (x : Ledger). x.closed) it.2)) (All-push (λ (one : Entry × Fate). First one.0) l.closed (e, fate) first.gone is);
}

keeps_closes : (moment : ℕ) (fate : Fate) (key : ℕ) (e : Entry) (l : Ledger) (hs : List Happening) (l' : Ledger) → AllFirst l → First e → ClosesAs moment fate key e l hs l' → AllFirst l'
keeps_closes moment fate key e l hs l' first is it = keeps_gone moment (device_of e.progress) it.mid it.back l' (keeps_leaves fate key e l it.prefix it.mid first is it.first) it.second

closes_first : (moment : ℕ) → Keeps (ClosesFirst moment)
closes_first moment l hs l' first it = keeps_closes moment Broken it.key it.entry l hs l' first (there l it.key it.entry first it.there) it.closes

keeps_closes_broken : (moment : ℕ) → Keeps (ClosesBroken moment)
keeps_closes_broken moment l hs l' first it = keeps_many (ClosesFirst moment) (closes_first moment) l hs l' first it.0

-- ---- replies

reply_at : (bytes : Bool → List ℕ) (key : ℕ) (o : Option Entry) → Keeps (EnqueuesReplyAt bytes key o)
reply_at bytes key None = keeps_nothing
reply_at bytes key (Some e) = keeps_enqueues key (bytes (closes_of e.progress))

keeps_reply : (key : ℕ) (bytes : List ℕ) → Keeps (EnqueuesResponse key bytes)
keeps_reply key bytes l hs l' first it = reply_at (λ closes. http_reply closes bytes) key (l.entries key) l hs l' first it

keeps_status : (key : ℕ) (status : Status) (request : ℕ) → Keeps (EnqueuesStatus key status request)
keeps_status key status request l hs l' first it = reply_at (λ closes. http_status closes status request) key (l.entries key) l hs l' first it

keeps_dropped : (key id request : ℕ) → Keeps (Ans.Drops key id request)
keeps_dropped key id request = keeps_then (Notifies (Refused At.Event (Some id))) (EnqueuesStatus key TemporaryError request) (keeps_notifies (Refused At.Event (Some id))) (keeps_status key TemporaryError request)

keeps_lost : (key id request : ℕ) (query : Bool) → Keeps (Ans.LosesReply key id request query)
keeps_lost key id request query =
    keeps_then (Notifies (Refused At.Reply (Some id))) (If query (EnqueuesStatus key TemporaryError request) (Breaks key)) (keeps_notifies (Refused At.Reply (Some id)))
    (keeps_if query (EnqueuesStatus key TemporaryError request) (Breaks key) (keeps_status key TemporaryError request) (breaks_all key))

keeps_replies_with : (key id request : ℕ) (query : Bool) (answer : Response) → Keeps (Ans.RepliesWith key id request query answer)
keeps_replies_with key id request query (answered.Ipp answer) l hs l' first (inl (bytes, is, it)) = keeps_then (Chooses Found) (EnqueuesResponse key bytes) (keeps_chooses Found) (keeps_reply key bytes) l hs l' first it
keeps_replies_with key id request query (answered.Ipp answer) l hs l' first (inr it) = keeps_lost key id request query l hs l' first it
keeps_replies_with key id request query (answered.Lpd answer) l hs l' first it = keeps_nothing l hs l' first it
keeps_replies_with key id request query answered.Nothing l hs l' first it = keeps_nothing l hs l' first it

keeps_replies : (key id request : ℕ) (query : Bool) (reply : Option Effects) → Keeps (Ans.Replies key id request query reply)
keeps_replies key id request query (Some reply) = keeps_replies_with key id request query reply.response
keeps_replies key id request query None = keeps_dropped key id request

keeps_declines : (place : AllocationSite) (key id : ℕ) → Keeps (Ans.Declines place key id)
keeps_declines place key id = keeps_then (Notifies (Refused place (Some id))) (Enqueues key (1 ∷ [])) (keeps_notifies (Refused place (Some id))) (keeps_enqueues key (1 ∷ []))

keeps_shows : (key id : ℕ) (text : List ℕ) → Keeps (Ans.Shows key id text)
keeps_shows key id text =
    keeps_or (Then (Chooses Found) (Enqueues key text)) (Then (Notifies (Refused At.Reply (Some id))) (Breaks key)) (keeps_then (Chooses Found) (Enqueues key text) (keeps_chooses Found) (keeps_enqueues key text))
    (keeps_then (Notifies (Refused At.Reply (Some id))) (Breaks key) (keeps_notifies (Refused At.Reply (Some id))) (breaks_all key))

keeps_notified : (key id : ℕ) (answer : LpdResponse) → Keeps (Ans.SendsLpd key id answer)
keeps_notified key id (shown.Taken taken) = keeps_enqueues key (ack_of (shown.Taken taken) ∷ [])
keeps_notified key id (shown.Queue listing) = keeps_shows key id (text_of (shown.Queue listing))
keeps_notified key id shown.NoQueue = keeps_shows key id (text_of shown.NoQueue)

keeps_shown : (key id : ℕ) (answer : Response) → Keeps (Ans.IsShown key id answer)
keeps_shown key id (answered.Lpd answer) = keeps_notified key id answer
keeps_shown key id (answered.Ipp answer) = keeps_nothing
keeps_shown key id answered.Nothing = keeps_nothing

keeps_answers : (key id : ℕ) (who : Client) (query : Bool) (reply : Option Effects) → Keeps (Ans.Answers key id who query reply)
keeps_answers key id (client.Ipp request) query reply = keeps_replies key id request query reply
keeps_answers key id client.LpdJob query (Some reply) = keeps_shown key id reply.response
keeps_answers key id client.LpdJob query None = keeps_declines At.Event key id
keeps_answers key id client.LpdCommand query (Some reply) = keeps_shown key id reply.response
keeps_answers key id client.LpdCommand query None = keeps_then (Notifies (Refused At.Event (Some id))) (Breaks key) (keeps_notifies (Refused At.Event (Some id))) (breaks_all key)

gives_way_at : (key : ℕ) (o : Option Entry) (l : Ledger) (hs : List Happening) (l' : Ledger) → AllFirst l → FirstAt o → IsSupersededAt key o l hs l' → AllFirst l'
gives_way_at key None l hs l' first is it = keeps_nothing l hs l' first it
gives_way_at key (Some e) l hs l' first is it = keeps_sets key (superseded_entry e) l hs l' first (first_unnamed e.read e.progress is) it

keeps_gives_way : (key : ℕ) → Keeps (IsSuperseded key)
keeps_gives_way key l hs l' first it = gives_way_at key (l.entries key) l hs l' first (first.here key) it

keeps_greets : (moment key id device : ℕ) (name : List ℕ) → Keeps (HandlesHello moment key id device name)
keeps_greets moment key id device name l hs l' first (inl (alone, it)) = keeps_unanswered moment (Is.Report device (report.Hello name)) l hs l' first it
keeps_greets moment key id device name l hs l' first (inr (inl (other, has, it))) =
    keeps_then (IsSuperseded other) (Then (IsGone moment (Some device)) (GivesName moment device name)) (keeps_gives_way other)
    (keeps_then (IsGone moment (Some device)) (GivesName moment device name) (keeps_unanswered moment (Is.Report device report.Gone)) (keeps_unanswered moment (Is.Report device (report.Hello name)))) l hs l' first it
keeps_greets moment key id device name l hs l' first (inr (inr (other, has, it))) =
    keeps_then (IsSuperseded key) (Notifies (DeviceRefused id (why.Connected device))) (keeps_gives_way key) (keeps_notifies (DeviceRefused id (why.Connected device))) l hs l' first it

keeps_does : (moment key id : ℕ) (what : Ask) → Keeps (ActsOn moment key id what)
keeps_does moment key id ask.Nothing = keeps_nothing
keeps_does moment key id (ask.Broke growth) = keeps_notifies (Refused (place_of growth) (Some id))
keeps_does moment key id (ask.Event who event) = λ l hs l' first (outcome, it).
    keeps_then (Happens moment event outcome) (Ans.Answers key id who (is_query event) (effects_of outcome)) (keeps_happens moment event outcome)
    (keeps_answers key id who (is_query event) (effects_of outcome)) l hs l' first it
keeps_does moment key id (ask.Unread request) = keeps_dropped key id request
keeps_does moment key id (ask.Lost part) = keeps_declines (place_of_part part) key id
keeps_does moment key id (ask.Hello device name) = keeps_greets moment key id device name
keeps_does moment key id (ask.Report device parsed) = keeps_unanswered moment (Is.Report device parsed)
keeps_does moment key id (ask.UnknownDevice name) = keeps_notifies (DeviceRefused id (why.UnknownName name))
keeps_does moment key id (ask.Fault device) = keeps_notifies (DeviceRefused id (why.Fault device))

keeps_asks : (key id : ℕ) (what : Ask) → Keeps (Asks key id what)
keeps_asks key id what l hs l' first a = keeps_at key (Some a.new) l l' first (first_asks l.core.settings what a.entry a.new (there l key a.entry first a.there) a.asks) (ap (λ (x : Ledger). x.entries) a.after) (ap (λ (x : Ledger). x.closed) a.after)

keeps_acts_next : (moment key : ℕ) → Keeps (ActsNext moment key)
keeps_acts_next moment key l hs l' first (id, what, it) = keeps_then (Asks key id what) (ActsOn moment key id what) (keeps_asks key id what) (keeps_does moment key id what) l hs l' first it

keeps_serves : (moment key : ℕ) → Keeps (Serves moment key)
keeps_serves moment key l hs l' first it =
    keeps_then (Many (Acts moment key)) (Chooses Rested) (keeps_many (Acts moment key) (keeps_then (ActsNext moment key) (ClosesBroken moment) (keeps_acts_next moment key) (keeps_closes_broken moment))) (keeps_chooses Rested) l hs l' first it.0

-- ---- reads, writes and closings

keeps_fails : (moment key : ℕ) → Keeps (Fails moment key)
keeps_fails moment key = keeps_then (Breaks key) (ClosesBroken moment) (breaks_all key) (keeps_closes_broken moment)

own_fed : (moment key : ℕ) (e : Entry) (bytes : List ℕ) (l : Ledger) (hs : List Happening) (l' : Ledger) → AllFirst l → First e → FedWhole moment key e bytes l hs l' → AllFirst l'
own_fed moment key e bytes l hs l' first is (inl it) =
    keeps_serves moment key it.mid it.back l' (keeps_sets key (reading bytes e) l it.prefix it.mid first (first_more e.read bytes e.progress is) it.first) it.second
own_fed moment key e bytes l hs l' first is (inr it) =
    keeps_closes_broken moment it.mid it.back l' (keeps_at key (Some (broken e)) l it.mid first is (ap (λ (x : Ledger). x.entries) it.first.1) (ap (λ (x : Ledger). x.closed) it.first.1)) it.second

own_open : (t : Bool) (moment key : ℕ) (e : Entry) (bytes : List ℕ) (l : Ledger) (hs : List Happening) (l' : Ledger) → AllFirst l → First e → If t (Sets key e) (FedWhole moment key e bytes) l hs l' → AllFirst l'
own_open true moment key e bytes l hs l' first is it = keeps_sets key e l hs l' first is it
own_open false moment key e bytes l hs l' first is it = own_fed moment key e bytes l hs l' first is it

own_feeds : (moment key : ℕ) (bytes : List ℕ) (o : Option Entry) (l : Ledger) (hs : List Happening) (l' : Ledger) → AllFirst l → FirstAt o → FeedsAt moment key bytes o l hs l' → AllFirst l'
own_feeds moment key bytes None l hs l' first is it = keeps_nothing l hs l' first it
own_feeds moment key bytes (Some e) l hs l' first is it = own_open e.draining moment key e bytes l hs l' first is it

polled : (poll : Poll) (l : Ledger) (hs : List Happening) (l' : Ledger) → AllFirst l → Polls poll l hs l' → AllFirst l'
polled poll l hs l' first it = keeps_same l l' (ap (λ (x : Ledger). x.entries) it.1) (ap (λ (x : Ledger). x.closed) it.1) first

own_reads_as : (moment key : ℕ) (e : Entry) (answer : WireAnswer (List ℕ)) (l : Ledger) (hs : List Happening) (l' : Ledger) → AllFirst l → First e → ReadsAs moment key e answer l hs l' → AllFirst l'
own_reads_as moment key e (wire.Done bytes) l hs l' first is it =
    let mid = polled (Reads e.id (wire.Done bytes)) l it.prefix it.mid first it.first in own_feeds moment key bytes (it.mid.entries key) it.mid it.back l' mid (mid.here key) it.second
own_reads_as moment key e wire.Waiting l hs l' first is it = polled (Reads e.id wire.Waiting) l hs l' first it
own_reads_as moment key e wire.End l hs l' first is it =
    keeps_sets key (record e { ended = true }) it.mid it.back l' (polled (Reads e.id wire.End) l it.prefix it.mid first it.first) is it.second
own_reads_as moment key e wire.Fault l hs l' first is it = keeps_fails moment key it.mid it.back l' (polled (Reads e.id wire.Fault) l it.prefix it.mid first it.first) it.second

own_reads_if : (t : Bool) (moment key : ℕ) (e : Entry) (l : Ledger) (hs : List Happening) (l' : Ledger) → AllFirst l → First e → If t (ReadsOpen moment key e) Nothing l hs l' → AllFirst l'
own_reads_if true moment key e l hs l' first is (answer, segment, it) = own_reads_as moment key e answer l hs l' first is it
own_reads_if false moment key e l hs l' first is it = keeps_nothing l hs l' first it

own_reads : (moment key : ℕ) (o : Option Entry) (l : Ledger) (hs : List Happening) (l' : Ledger) → AllFirst l → FirstAt o → ReadsAt moment key o l hs l' → AllFirst l'
own_reads moment key None l hs l' first is it = keeps_nothing l hs l' first it
own_reads moment key (Some e) l hs l' first is it = own_reads_if (is_read e) moment key e l hs l' first is it

keeps_reads : (moment key : ℕ) → Keeps (ReadsOne moment key)
keeps_reads moment key l hs l' first it = own_reads moment key (l.entries key) l hs l' first (first.here key) it

own_writes_as : (moment key : ℕ) (e : Entry) (offered : List ℕ) (answer : WireAnswer ℕ) (l : Ledger) (hs : List Happening) (l' : Ledger) → AllFirst l → First e → WritesAs moment key e offered answer l hs l' → AllFirst l'
own_writes_as moment key e offered (wire.Done n) l hs l' first is it =
    keeps_sets key (record e { taken = e.taken ++ take n offered }) it.mid it.back l' (polled (Writes e.id offered (wire.Done n)) l it.prefix it.mid first it.first) is it.second
own_writes_as moment key e offered wire.Waiting l hs l' first is it = polled (Writes e.id offered wire.Waiting) l hs l' first it
own_writes_as moment key e offered wire.End l hs l' first is it = keeps_fails moment key it.mid it.back l' (polled (Writes e.id offered wire.End) l it.prefix it.mid first it.first) it.second
own_writes_as moment key e offered wire.Fault l hs l' first is it = keeps_fails moment key it.mid it.back l' (polled (Writes e.id offered wire.Fault) l it.prefix it.mid first it.first) it.second

own_writes_if : (t : Bool) (moment key : ℕ) (e : Entry) (l : Ledger) (hs : List Happening) (l' : Ledger) → AllFirst l → First e → If t (WritesOpen moment key e) Nothing l hs l' → AllFirst l'
own_writes_if true moment key e l hs l' first is (offered, prefix, answer, it) = own_writes_as moment key e offered answer l hs l' first is it
own_writes_if false moment key e l hs l' first is it = keeps_nothing l hs l' first it

own_writes : (moment key : ℕ) (o : Option Entry) (l : Ledger) (hs : List Happening) (l' : Ledger) → AllFirst l → FirstAt o → WritesAt moment key o l hs l' → AllFirst l'
own_writes moment key None l hs l' first is it = keeps_nothing l hs l' first it
own_writes moment key (Some e) l hs l' first is it = own_writes_if (nat_lt 0 (length (waiting e))) moment key e l hs l' first is it

keeps_writes : (moment key : ℕ) → Keeps (WritesOne moment key)
keeps_writes moment key l hs l' first it = own_writes moment key (l.entries key) l hs l' first (first.here key) it

ends_if : (t : Bool) (moment key : ℕ) (e : Entry) (l : Ledger) (hs : List Happening) (l' : Ledger) → AllFirst l → First e → If t (Then (ClosesAs moment Drained key e) (ClosesBroken moment)) Nothing l hs l' → AllFirst l'
ends_if true moment key e l hs l' first is it = keeps_closes_broken moment it.mid it.back l' (keeps_closes moment Drained key e l it.prefix it.mid first is it.first) it.second
ends_if false moment key e l hs l' first is it = keeps_nothing l hs l' first it

ends_at : (moment key : ℕ) (o : Option Entry) (l : Ledger) (hs : List Happening) (l' : Ledger) → AllFirst l → FirstAt o → EndsAt moment key o l hs l' → AllFirst l'
ends_at moment key None l hs l' first is it = keeps_nothing l hs l' first it
ends_at moment key (Some e) l hs l' first is it = ends_if (is_done e) moment key e l hs l' first is it

keeps_ends : (moment key : ℕ) → Keeps (EndsOne moment key)
keeps_ends moment key l hs l' first it = ends_at moment key (l.entries key) l hs l' first (first.here key) it

-- ---- accepts

opening_first : (door : Door) (id : ℕ) → First (opening_entry door id)
opening_first Ipp id = record { next = Head; left = []; leads = (0, (refl, refl, refl)) }
opening_first Lpd id = record { next = Command; left = []; leads = (refl, refl) }
opening_first Devices id = tt

keeps_opens : (door : Door) (id : ℕ) → Keeps (Opens door id)
keeps_opens door id l hs l' first (inl (key, free, is, after)) = keeps_at key (Some (opening_entry door id)) l l' first (opening_first door id) (ap (λ (x : Ledger). x.entries) after) (ap (λ (x : Ledger). x.closed) after)
keeps_opens door id l hs l' first (inr it) = keeps_same l l' (ap (λ (x : Ledger). x.entries) it.1) (ap (λ (x : Ledger). x.closed) it.1) first

accepts_as : (door : Door) (answer : WireAnswer ℕ) → Keeps (AcceptsAs door answer)
accepts_as door (wire.Done id) = keeps_then (Polls (Accepts door (wire.Done id))) (Opens door id) (polled (Accepts door (wire.Done id))) (keeps_opens door id)
accepts_as door wire.Waiting = polled (Accepts door wire.Waiting)
accepts_as door wire.End = polled (Accepts door wire.End)
accepts_as door wire.Fault = polled (Accepts door wire.Fault)

keeps_accepts : (door : Door) → Keeps (AcceptsAt door)
keeps_accepts door l hs l' first it = keeps_if (nat_lt l.count CONNECTIONS) (AcceptsOne door) Nothing (λ a ks b all one. accepts_as door one.0 a ks b all one.1) keeps_nothing l hs l' first it

-- ---- turns, and calls between them

keeps_ticks : (moment : ℕ) → Keeps (Ticks moment)
keeps_ticks moment l hs l' first it =
    keeps_then (Notes (now_at moment l)) (Unanswered moment Is.Tick) (λ a ks b all is. keeps_same a b (ap (λ (x : Ledger). x.entries) is.1) (ap (λ (x : Ledger). x.closed) is.1) all) (keeps_unanswered moment Is.Tick) l hs l' first it

keeps_tick : (moment : ℕ) → Keeps (TicksIfDue moment)
keeps_tick moment l hs l' first it =
    keeps_if (is_tick_due moment l) (Then (Ticks moment) (ClosesBroken moment)) Nothing (keeps_then (Ticks moment) (ClosesBroken moment) (keeps_ticks moment) (keeps_closes_broken moment)) keeps_nothing l hs l' first it

keeps_round : (moment : ℕ) → Keeps (Round moment)
keeps_round moment l hs l' first (n, it) =
    keeps_then (Covers n) (Then (Each n (ReadsOne moment)) (Then (Each n (WritesOne moment)) (Each n (EndsOne moment)))) (λ a ks b all is. keeps_same a b (ap (λ (x : Ledger). x.entries) is.1.1) (ap (λ (x : Ledger). x.closed) is.1.1) all)
    (keeps_then (Each n (ReadsOne moment)) (Then (Each n (WritesOne moment)) (Each n (EndsOne moment))) (keeps_each n (ReadsOne moment) (keeps_reads moment))
    (keeps_then (Each n (WritesOne moment)) (Each n (EndsOne moment)) (keeps_each n (WritesOne moment) (keeps_writes moment)) (keeps_each n (EndsOne moment) (keeps_ends moment)))) l hs l' first it

keeps_turn : (moment : ℕ) → Keeps (Turn moment)
keeps_turn moment =
    keeps_then (ClosesBroken moment) (Then (TicksIfDue moment) (Then (AcceptsAt Ipp) (Then (AcceptsAt Lpd) (Then (AcceptsAt Devices) (Round moment))))) (keeps_closes_broken moment)
    (keeps_then (TicksIfDue moment) (Then (AcceptsAt Ipp) (Then (AcceptsAt Lpd) (Then (AcceptsAt Devices) (Round moment)))) (keeps_tick moment)
    (keeps_then (AcceptsAt Ipp) (Then (AcceptsAt Lpd) (Then (AcceptsAt Devices) (Round moment))) (keeps_accepts Ipp)
    (keeps_then (AcceptsAt Lpd) (Then (AcceptsAt Devices) (Round moment)) (keeps_accepts Lpd) (keeps_then (AcceptsAt Devices) (Round moment) (keeps_accepts Devices) (keeps_round moment)))))

between_answers : (request : ℕ) (reply : Option Effects) (bytes : List ℕ) → Keeps (Between.Answers request reply bytes)
between_answers request (Some reply) bytes l hs l' first (inl (are, it)) = keeps_same l l' (ap (λ (x : Ledger). x.entries) it.1) (ap (λ (x : Ledger). x.closed) it.1) first
between_answers request (Some reply) bytes l hs l' first (inr it) = keeps_same l l' (ap (λ (x : Ledger). x.entries) it.1) (ap (λ (x : Ledger). x.closed) it.1) first
between_answers request None bytes l hs l' first it = keeps_same l l' (ap (λ (x : Ledger). x.entries) it.1) (ap (λ (x : Ledger). x.closed) it.1) first

body_asks : (moment : ℕ) (it : ParsedRequest) (served : Between.Outcome) → Keeps (BodyAsks moment it served)
body_asks moment asked.TooShort served l hs l' first it = keeps_nothing l hs l' first it.1
body_asks moment (asked.Refused status request) served l hs l' first (is, inl it) = keeps_same l l' (ap (λ (x : Ledger). x.entries) it.1) (ap (λ (x : Ledger). x.closed) it.1) first
body_asks moment (asked.Refused status request) served l hs l' first (is, inr it) = keeps_same l l' (ap (λ (x : Ledger). x.entries) it.1) (ap (λ (x : Ledger). x.closed) it.1) first
body_asks moment (asked.Event request event) served l hs l' first (bytes, is, (outcome, it)) =
    keeps_then (Happens moment event outcome) (Between.Answers request (effects_of outcome) bytes) (keeps_happens moment event outcome) (between_answers request (effects_of outcome) bytes) l hs l' first it

body_comes : (moment : ℕ) (body : List ℕ) (served : Between.Outcome) → Keeps (BodyComes moment body served)
body_comes moment body served l hs l' first (inl (it, asks, comes)) =
    keeps_then (Chooses Found) (BodyAsks moment it served) (λ a ks b all is. keeps_same a b (ap (λ (x : Ledger). x.entries) is.1) (ap (λ (x : Ledger). x.closed) is.1) all) (body_asks moment it served) l hs l' first comes
body_comes moment body served l hs l' first (inr it) = keeps_same l l' (ap (λ (x : Ledger). x.entries) it.1) (ap (λ (x : Ledger). x.closed) it.1) first

keeps_action : (action : Action) (l l' : Ledger) → AllFirst l → DoesAction action l l' → AllFirst l'
keeps_action (Turned moment hs) l l' first it = keeps_turn moment l hs l' first it
keeps_action (Served_body moment body answer hs) l l' first (served, same, it) = body_comes moment body served l hs l' first it
keeps_action (Reported moment device parsed hs) l l' first (what, same, it) = keeps_unanswered moment (Is.Report device what) l hs l' first it
keeps_action (Ticked moment hs) l l' first it = keeps_ticks moment l hs l' first it

keeps_trace : (trace : Trace) (l l' : Ledger) → AllFirst l → Runs trace l l' → AllFirst l'
keeps_trace [] l l' first same = keeps_same l l' (ap (λ (x : Ledger). x.entries) same) (ap (λ (x : Ledger). x.closed) same) first
keeps_trace (action ∷ actions) l l' first (mid, does, runs) = keeps_trace actions mid l' (keeps_action action l mid first does) runs

opening_all : (opening : State) → AllFirst (opening_ledger opening)
opening_all opening = record { here = λ key. tt; gone = All-nil (λ (it : Entry × Fate). First it.0) }

module _ (opening : State) (trace : Trace) (l : Ledger) (runs : Runs trace (opening_ledger opening) l) where
  all : AllFirst l
  all = keeps_trace trace (opening_ledger opening) l (opening_all opening) runs

  pub all_first : (key : ℕ) (e : Entry) → l.entries key ≡ Some e → IsFirst e.read e.progress
  all_first key e is = there l key e all is

  pub gone_first : All (λ (it : Entry × Fate). IsFirst it.0.read it.0.progress) l.closed
  gone_first = all.gone
