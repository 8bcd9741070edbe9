-- Parts of an action that bring no event, and the state of each connection after an event.
use Rattle.std.proofs.Common.{◌≡◌, ℕ, Bool, true, false, List, [], ◌∷◌, ◌++◌, map, refl, sym, ◌∙◌, ap, subst, append-nil, Option, Some, None, inl, inr}
use Rattle.std.proofs.lemmas.Grind.{flat_map-append}
use Rattle.device_link.specs.Orders.{cancel_line}
use Rattle.print_room.specs.declared.started.Started.{Started}
use Rattle.print_room.specs.State.{State}
use Rattle.events.specs.declared.event.Event.{Event}
use Rattle.events.specs.declared.effects.Effects.{Effects}
use Rattle.events.specs.declared.effects.Cancel.{Cancel}
use Rattle.events.specs.declared.effects.Response.{Response}
use Rattle.events.specs.declared.effects.Response.TheVariants as answered
use Rattle.events.specs.declared.effects.LpdResponse.{LpdResponse}
use Rattle.events.specs.declared.effects.LpdResponse.TheVariants as shown
use Rattle.events.specs.declared.status.Status.{Status}
use Rattle.events.specs.declared.status.Status.TheVariants.{TemporaryError}
use Rattle.dispatcher.specs.declared.observer.AllocationSite.{AllocationSite}
use Rattle.dispatcher.specs.declared.observer.AllocationSite.TheVariants as At
use Rattle.dispatcher.specs.Notes.{Note, Refused}
use Rattle.dispatcher.specs.declared.handled.Dispatch.{Dispatch}
use Rattle.dispatcher.specs.declared.handled.Dispatch.TheVariants as dispatch
use Rattle.dispatcher.specs.Run.{Outcome, Handles}
use Rattle.ipp_operations.specs.QueueText.{ack_of, text_of}
use Rattle.connections.specs.Reply.{http_reply}
use Rattle.wires.specs.Poll.{Poll}
use Rattle.connections.specs.declared.ask.Client.{Client}
use Rattle.connections.specs.declared.ask.Client.TheVariants as client
use Rattle.connections.specs.Entry.{Entry, closes_of, broken, owing, needs_memory}
use Rattle.connections.specs.Steps.{http_status}
use Rattle.server.specs.Polls.{Happening, Notified, Choice, Found}
use Rattle.server.specs.Ledger.{Ledger, at_key, with_entry, job_bytes}
use Rattle.server.specs.Rel.{Rel, Nothing, Polls, Notifies, Chooses, Then, If, Or, EachOf}
use Rattle.server.specs.Enqueuing.{BreaksAt, Breaks, EnqueuesOpen, EnqueuesAt, EnqueuesWhere, Enqueues, EnqueuesOn, EnqueuesReplyAt, EnqueuesResponse, EnqueuesStatus}
use Rattle.server.specs.Happening.{found_by, Sends, SendsAll, Starts, StartsAll, StartsBy, Orders, Happens}
use Rattle.server.specs.Answering as Ans
use Rattle.server.specs.Turn as Between
use Rattle.server.specs.Turn.{Turn}
use Rattle.server.specs.Law.{core_note, core_notes}
use Rattle.promises.proofs.EventNotes.{notified_all}
use Rattle.promises.proofs.DeviceReports.{Grows, grows_as, Kept, kept_same, kept_then, here, aside, by_key, KeptAll}

-- ---- the notes of the core

pub notes_append : (hs ks : List Happening) → core_notes (hs ++ ks) ≡ core_notes hs ++ core_notes ks
notes_append hs ks = flat_map-append core_note hs ks

notified_notes : (moment : ℕ) (event : Event) (old : State) (outcome : Outcome) (notes : List Note) (new : State) → Handles moment event old outcome notes new → core_notes (map Notified notes) ≡ notes
notified_notes moment event old outcome notes new it = notified_all core_note (λ cancel. refl) (λ plan started. refl) refl moment event old outcome notes new it

found_silent : (outcome : Outcome) → core_notes (found_by outcome) ≡ []
found_silent (Some handled) = refl
found_silent None = refl

-- ---- parts that bring no event and no report

pub record Calm (l : Ledger) (hs : List Happening) (l' : Ledger) : Type 0 where
  pub core : l'.core ≡ l.core
  pub notes : core_notes hs ≡ []
  pub kept : KeptAll l l'

abbrev pub Calms : Rel → Type 0
Calms R = (l : Ledger) (hs : List Happening) (l' : Ledger) → R l hs l' → Calm l hs l'

pub kept_still : (l l' : Ledger) → l'.closed ≡ l.closed → l'.entries ≡ l.entries → KeptAll l l'
kept_still l l' closed same = record { closed = closed; each = λ k. subst (λ (entries : ℕ → Option Entry). Kept (l.entries k) (entries k)) (sym same) (kept_same (l.entries k)) }

pub kept_next : (l m l' : Ledger) → KeptAll l m → KeptAll m l' → KeptAll l l'
kept_next l m l' p q = record { closed = q.closed ∙ p.closed; each = λ k. kept_then (l.entries k) (m.entries k) (l'.entries k) (p.each k) (q.each k) }

pub kept_with : (key : ℕ) (d e : Entry) (l l' : Ledger) → l.entries key ≡ Some d → Grows d e → l' ≡ with_entry key e l → KeptAll l l'
kept_with key d e l l' there grows after = record {
  closed = ap (λ (x : Ledger). x.closed) after;
  each = λ k. subst (λ (x : Ledger). Kept (l.entries k) (x.entries k)) (sym after) (at k);
}
  where
    at : (k : ℕ) → Kept (l.entries k) (at_key key (Some e) l.entries k)
    at k =
        by_key k key
        (λ same. subst (λ (o : Option Entry). Kept (l.entries k) o) (sym (here key (Some e) l.entries k same)) (subst (λ (o : Option Entry). Kept o (Some e)) (sym (ap l.entries same ∙ there)) (e, refl, grows)))
        (λ apart. subst (λ (o : Option Entry). Kept (l.entries k) o) (sym (aside key (Some e) l.entries k apart)) (kept_same (l.entries k)))

pub no_notes : (hs prefix back : List Happening) → hs ≡ prefix ++ back → core_notes prefix ≡ [] → core_notes hs ≡ core_notes back
no_notes hs prefix back whole none = ap core_notes whole ∙ (notes_append prefix back ∙ ap (λ (ns : List Note). ns ++ core_notes back) none)

pub calm_still : (l : Ledger) (hs : List Happening) (l' : Ledger) → core_notes hs ≡ [] → l' ≡ l → Calm l hs l'
calm_still l hs l' silent same = record { core = ap (λ (x : Ledger). x.core) same; notes = silent; kept = kept_still l l' (ap (λ (x : Ledger). x.closed) same) (ap (λ (x : Ledger). x.entries) same) }

pub calm_sets : (key : ℕ) (d e : Entry) (l : Ledger) (hs : List Happening) (l' : Ledger) → l.entries key ≡ Some d → Grows d e → core_notes hs ≡ [] → l' ≡ with_entry key e l → Calm l hs l'
calm_sets key d e l hs l' there grows silent after = record { core = ap (λ (x : Ledger). x.core) after; notes = silent; kept = kept_with key d e l l' there grows after }

pub calm_then : (l : Ledger) (prefix : List Happening) (m : Ledger) (back : List Happening) (l' : Ledger) (hs : List Happening) → hs ≡ prefix ++ back → Calm l prefix m → Calm m back l' → Calm l hs l'
calm_then l prefix m back l' hs whole p q = record { core = q.core ∙ p.core; notes = no_notes hs prefix back whole p.notes ∙ q.notes; kept = kept_next l m l' p.kept q.kept }

pub calms_nothing : Calms Nothing
calms_nothing l hs l' it = calm_still l hs l' (ap core_notes it.0) it.1

pub calms_then : {R S : Rel} → Calms R → Calms S → Calms (Then R S)
calms_then {R} {S} f g l hs l' it = calm_then l it.prefix it.mid it.back l' hs it.whole (f l it.prefix it.mid it.first) (g it.mid it.back l' it.second)

pub calms_or : {R S : Rel} → Calms R → Calms S → Calms (Or R S)
calms_or f g l hs l' (inl it) = f l hs l' it
calms_or f g l hs l' (inr it) = g l hs l' it

pub calms_if : (test : Bool) (R S : Rel) → Calms R → Calms S → Calms (If test R S)
calms_if true R S f g l hs l' it = f l hs l' it
calms_if false R S f g l hs l' it = g l hs l' it

pub calms_notifies : (note : Note) → core_notes (Notified note ∷ []) ≡ [] → Calms (Notifies note)
calms_notifies note silent l hs l' it = calm_still l hs l' (ap core_notes it.0 ∙ silent) it.1

pub calms_polls : (poll : Poll) → Calms (Polls poll)
calms_polls poll l hs l' it = calm_still l hs l' (ap core_notes it.0) it.1

pub calms_choice : (choice : Choice) → Calms (Chooses choice)
calms_choice choice l hs l' it = calm_still l hs l' (ap core_notes it.0) it.1

pub grows_owing : (e : Entry) (bytes : List ℕ) → Grows e (owing bytes e)
grows_owing e bytes = grows_as e (owing bytes e) refl refl (λ is. is)

pub grows_broken : (e : Entry) → Grows e (broken e)
grows_broken e = grows_as e (broken e) refl refl (λ is. refl)

pub breaks_at : (key : ℕ) (o : Option Entry) (l : Ledger) (hs : List Happening) (l' : Ledger) → l.entries key ≡ o → BreaksAt key o l hs l' → Calm l hs l'
breaks_at key None l hs l' there it = calms_nothing l hs l' it
breaks_at key (Some e) l hs l' there it = calm_sets key e (broken e) l hs l' there (grows_broken e) (ap core_notes it.0) it.1

pub calms_breaks : (key : ℕ) → Calms (Breaks key)
calms_breaks key l hs l' it = breaks_at key (l.entries key) l hs l' refl it

pub enqueues_open : (grows : Bool) (key : ℕ) (bytes : List ℕ) (e : Entry) (l : Ledger) (hs : List Happening) (l' : Ledger) → l.entries key ≡ Some e → EnqueuesOpen grows key bytes e l hs l' → Calm l hs l'
enqueues_open false key bytes e l hs l' there it = calm_sets key e (owing bytes e) l hs l' there (grows_owing e bytes) (ap core_notes it.0) it.1
enqueues_open true key bytes e l hs l' there (inl it) =
    calm_sets key e (owing bytes e) l hs l' there (grows_owing e bytes) (no_notes hs it.prefix it.back it.whole (ap core_notes it.first.0) ∙ ap core_notes it.second.0) (it.second.1 ∙ ap (λ (x : Ledger). with_entry key (owing bytes e) x) it.first.1)
enqueues_open true key bytes e l hs l' there (inr it) = calm_sets key e (broken e) l hs l' there (grows_broken e) (ap core_notes it.0) it.1

pub enqueues_if : (t grows : Bool) (key : ℕ) (bytes : List ℕ) (e : Entry) (l : Ledger) (hs : List Happening) (l' : Ledger) → l.entries key ≡ Some e → If t Nothing (EnqueuesOpen grows key bytes e) l hs l' → Calm l hs l'
enqueues_if true grows key bytes e l hs l' there it = calms_nothing l hs l' it
enqueues_if false grows key bytes e l hs l' there it = enqueues_open grows key bytes e l hs l' there it

pub enqueues_at : (grows : Entry → Bool) (key : ℕ) (bytes : List ℕ) (o : Option Entry) (l : Ledger) (hs : List Happening) (l' : Ledger) → l.entries key ≡ o → EnqueuesAt grows key bytes o l hs l' → Calm l hs l'
enqueues_at grows key bytes None l hs l' there it = calms_nothing l hs l' it
enqueues_at grows key bytes (Some e) l hs l' there it = enqueues_if e.broken (grows e) key bytes e l hs l' there it

pub calms_where : (grows : Entry → Bool) (key : ℕ) (bytes : List ℕ) → Calms (EnqueuesWhere grows key bytes)
calms_where grows key bytes l hs l' it = enqueues_at grows key bytes (l.entries key) l hs l' refl it

pub calms_enqueues : (key : ℕ) (bytes : List ℕ) → Calms (Enqueues key bytes)
calms_enqueues key bytes = calms_where (needs_memory bytes) key bytes

pub enqueues_on : (grows : Entry → Bool) (device : ℕ) (bytes : List ℕ) → Calms (EnqueuesOn grows device bytes)
enqueues_on grows device bytes l hs l' (inl (key, is, it)) = calms_where grows key bytes l hs l' it
enqueues_on grows device bytes l hs l' (inr (none, it)) = calms_nothing l hs l' it

pub reply_at : (bytes : Bool → List ℕ) (key : ℕ) (o : Option Entry) → Calms (EnqueuesReplyAt bytes key o)
reply_at bytes key None = calms_nothing
reply_at bytes key (Some e) = calms_enqueues key (bytes (closes_of e.progress))

pub calms_reply : (key : ℕ) (bytes : List ℕ) → Calms (EnqueuesResponse key bytes)
calms_reply key bytes l hs l' it = reply_at (λ closes. http_reply closes bytes) key (l.entries key) l hs l' it

pub calms_status : (key : ℕ) (status : Status) (request : ℕ) → Calms (EnqueuesStatus key status request)
calms_status key status request l hs l' it = reply_at (λ closes. http_status closes status request) key (l.entries key) l hs l' it

-- ---- orders

pub each_sent : (cancels : List Cancel) → Calms (EachOf cancels Sends)
each_sent [] = calms_nothing
each_sent (cancel ∷ cancels) = calms_then (enqueues_on (needs_memory (cancel_line cancel.job)) cancel.device (cancel_line cancel.job)) (each_sent cancels)

pub starts : (start : Started) → Calms (Starts start)
starts start l hs l' it = enqueues_on (λ e. true) start.device (job_bytes l.core start.job) l hs l' it

pub each_started : (started : List Started) → Calms (EachOf started Starts)
each_started [] = calms_nothing
each_started (start ∷ started) = calms_then (starts start) (each_started started)

pub all_started : Calms StartsAll
all_started l hs l' it = each_started l.core.begun l hs l' it

calms_starts : (made : Dispatch) → Calms (StartsBy made)
calms_starts dispatch.Query = calms_nothing
calms_starts dispatch.OutOfMemory = calms_nothing
calms_starts dispatch.Idle = calms_nothing
calms_starts dispatch.Planned = all_started

pub calms_orders : (outcome : Outcome) → Calms (Orders outcome)
calms_orders (Some handled) = calms_then {R = SendsAll handled.effects} {S = StartsBy handled.dispatch} (each_sent handled.effects.cancels.items) (calms_starts handled.dispatch)
calms_orders None = calms_nothing

-- ---- answers

pub loses_reply : (key id request : ℕ) (query : Bool) → Calms (Ans.LosesReply key id request query)
loses_reply key id request query =
    calms_then (calms_notifies (Refused At.Reply (Some id)) refl) (calms_if query (EnqueuesStatus key TemporaryError request) (Breaks key) (calms_status key TemporaryError request) (calms_breaks key))

pub replies_with : (key id request : ℕ) (query : Bool) (answer : Response) → Calms (Ans.RepliesWith key id request query answer)
replies_with key id request query (answered.Ipp answer) l hs l' (inl (bytes, are, it)) = calms_then (calms_choice Found) (calms_reply key bytes) l hs l' it
replies_with key id request query (answered.Ipp answer) l hs l' (inr it) = loses_reply key id request query l hs l' it
replies_with key id request query (answered.Lpd answer) l hs l' it = calms_nothing l hs l' it
replies_with key id request query answered.Nothing l hs l' it = calms_nothing l hs l' it

pub calms_shows : (key id : ℕ) (text : List ℕ) → Calms (Ans.Shows key id text)
calms_shows key id text = calms_or (calms_then (calms_choice Found) (calms_enqueues key text)) (calms_then (calms_notifies (Refused At.Reply (Some id)) refl) (calms_breaks key))

pub is_notified : (key id : ℕ) (answer : LpdResponse) → Calms (Ans.SendsLpd key id answer)
is_notified key id (shown.Taken taken) = calms_enqueues key (ack_of (shown.Taken taken) ∷ [])
is_notified key id (shown.Queue listing) = calms_shows key id (text_of (shown.Queue listing))
is_notified key id shown.NoQueue = calms_shows key id (text_of shown.NoQueue)

pub is_shown : (key id : ℕ) (answer : Response) → Calms (Ans.IsShown key id answer)
is_shown key id (answered.Lpd answer) = is_notified key id answer
is_shown key id (answered.Ipp answer) = calms_nothing
is_shown key id answered.Nothing = calms_nothing

pub calms_dropped : (key id request : ℕ) → Calms (Ans.Drops key id request)
calms_dropped key id request = calms_then (calms_notifies (Refused At.Event (Some id)) refl) (calms_status key TemporaryError request)

pub calms_declines : (place : AllocationSite) (key id : ℕ) → core_notes (Notified (Refused place (Some id)) ∷ []) ≡ [] → Calms (Ans.Declines place key id)
calms_declines place key id silent = calms_then (calms_notifies (Refused place (Some id)) silent) (calms_enqueues key (1 ∷ []))

pub calms_answers : (key id : ℕ) (who : Client) (query : Bool) (reply : Option Effects) → Calms (Ans.Answers key id who query reply)
calms_answers key id (client.Ipp request) query (Some reply) = replies_with key id request query reply.response
calms_answers key id (client.Ipp request) query None = calms_dropped key id request
calms_answers key id client.LpdJob query (Some reply) = is_shown key id reply.response
calms_answers key id client.LpdJob query None = calms_declines At.Event key id refl
calms_answers key id client.LpdCommand query (Some reply) = is_shown key id reply.response
calms_answers key id client.LpdCommand query None = calms_then (calms_notifies (Refused At.Event (Some id)) refl) (calms_breaks key)

pub body_answers : (request : ℕ) (reply : Option Effects) (bytes : List ℕ) → Calms (Between.Answers request reply bytes)
body_answers request (Some reply) bytes l hs l' (inl (are, it)) = calms_choice Found l hs l' it
body_answers request (Some reply) bytes l hs l' (inr it) = calms_notifies (Refused At.Reply None) refl l hs l' it
body_answers request None bytes l hs l' it = calms_notifies (Refused At.Event None) refl l hs l' it

-- ---- an event

pub record OneEvent (moment : ℕ) (event : Event) (outcome : Outcome) (l : Ledger) (hs : List Happening) (l' : Ledger) : Type 0 where
  pub handles : Handles moment event l.core outcome (core_notes hs) l'.core
  pub kept : KeptAll l l'

pub happened : (moment : ℕ) (event : Event) (outcome : Outcome) (l : Ledger) (hs : List Happening) (l' : Ledger) → Happens moment event outcome l hs l' → OneEvent moment event outcome l hs l'
happened moment event outcome l hs l' it =
    let d = it.first in
    let sent = calms_orders outcome it.mid it.back l' it.second in
    let notified : core_notes it.prefix ≡ d.notes =
    ap core_notes d.notified ∙ (notes_append (found_by outcome) (map Notified d.notes) ∙ (ap (λ (ns : List Note). ns ++ core_notes (map Notified d.notes)) (found_silent outcome) ∙ notified_notes moment event l.core outcome d.notes d.state d.handles)) in
    let all : core_notes hs ≡ d.notes = ap core_notes it.whole ∙ (notes_append it.prefix it.back ∙ (ap (λ (ns : List Note). core_notes it.prefix ++ ns) sent.notes ∙ (append-nil (core_notes it.prefix) ∙ notified))) in
    record {
      handles = subst (λ (c : State). Handles moment event l.core outcome (core_notes hs) c) (sym (sent.core ∙ ap (λ (x : Ledger). x.core) d.after)) (subst (λ (ns : List Note). Handles moment event l.core outcome ns d.state) (sym all) d.handles);
      kept = kept_next l it.mid l' (kept_still l it.mid (ap (λ (x : Ledger). x.closed) d.after) (ap (λ (x : Ledger). x.entries) d.after)) sent.kept;
    }

pub handles_after : (moment : ℕ) (event : Event) (outcome : Outcome) (old mid new : State) (notes more : List Note) → mid ≡ old → notes ≡ more → Handles moment event mid outcome more new → Handles moment event old outcome notes new
handles_after moment event outcome old mid new notes more same is it =
    subst (λ (s : State). Handles moment event s outcome notes new) same (subst (λ (ns : List Note). Handles moment event mid outcome ns new) (sym is) it)
