-- The events that the core handles between one ledger and the next, and the bytes that are due on devices' connections by them.
use Rattle.std.proofs.Common.{◌≡◌, ◌≢◌, ◌<◌, ◌+◌, arith, ℕ, zero, suc, Bool, true, false, List, [], ◌∷◌, ◌++◌, refl, sym, ◌∙◌, ap, subst, append-nil, Option, Some, None, ◌⊎◌, inl, inr, append_assoc, All}
use Rattle.std.specs.Prelude.{◌==◌, ◌||◌, if◌then◌else◌, map, max, slice_get, option_to_list, MatchOption}
use Rattle.std.specs.List.{flat_map}
use Rattle.std.proofs.lemmas.Grind.{flat_map-append}
use Rattle.std.proofs.lemmas.List.Elements.{All-append, All-cons, All-nil, All-weaker}
use Rattle.base_types.specs.Device.{Device}
use Rattle.base_types.specs.declared.device.Activity.{Activity}
use Rattle.base_types.specs.declared.device.Activity.TheVariants.{Running, Stopped}
use Rattle.base_types.specs.declared.report.Report.TheVariants as report
use Rattle.plan_prices.specs.declared.plan.PlannedClass.{PlannedClass}
use Rattle.plan_prices.specs.Way.{queue_of}
use Rattle.print_room.specs.declared.started.Started.{Started}
use Rattle.print_room.specs.State.{State, with_device}
use Rattle.print_room.specs.Activity.{stopped_at, idle, job_on}
use Rattle.print_room.specs.Report.{Reports, refitted, state_after, documents_out, change_by}
use Rattle.print_room.specs.Dispatch.{is_free, first_of, first_of_queue, or_next, starts_from}
use Rattle.octets.specs.Document.{DocumentRecord}
use Rattle.events.specs.declared.event.Event.{Event}
use Rattle.events.specs.declared.event.Event.TheVariants as Is
use Rattle.events.specs.declared.effects.Cancel.{Cancel}
use Rattle.dispatcher.specs.declared.observer.AllocationSite.{AllocationSite}
use Rattle.dispatcher.specs.Notes.{Note, Refused}
use Rattle.dispatcher.specs.declared.handled.Dispatch.{Dispatch}
use Rattle.dispatcher.specs.declared.handled.Dispatch.TheVariants as dispatch
use Rattle.dispatcher.specs.Following.{Follows}
use Rattle.dispatcher.specs.Run.{Outcome, Handles}
use Rattle.connections.specs.Entry.{PeerRecord, Entry, opening_peer, device_of}
use Rattle.server.specs.Polls.{Happening, Notified}
use Rattle.server.specs.Ledger.{Ledger, at_key, job_bytes, Fate}
use Rattle.server.specs.Rel.{Notifies}
use Rattle.server.specs.Enqueuing.{IsDevice}
use Rattle.server.specs.Happening.{Happens, found_by}
use Rattle.promises.specs.Answers.{Act, ClientTalk, drains, drained, AreActs, IsPrefixOf, IsStateOf, is_asked, asked_by, IsAnswered, IsLast, BrokeAfter, IsCutOff}
use Rattle.promises.specs.Orders.{EventComes, MemoryRefused, RunPart, began_by, AreHandled, named_by, IsAt, AreAt, run_note, run_notes, cancel_for, start_for, orders_of, names, due_by}
use Rattle.promises.proofs.EventNotes.{notified_all}
use Rattle.promises.proofs.SentToDevices.{Counts, due_at, IsFresh, counts_device, same_key, not_key, Ordered, Calm, Good, good_sent, notes_append, sent_by, orders, Stays, IsLost, BreaksAs, lost_device, ReadsOn, reads_same, reads_then}

-- ---- the notes of an event

notified_notes : (moment : ℕ) (event : Event) (old : State) (outcome : Outcome) (notes : List Note) (new : State) → Handles moment event old outcome notes new → run_notes (map Notified notes) ≡ notes
notified_notes moment event old outcome notes new it = notified_all run_note (λ cancel. refl) (λ plan started. refl) refl moment event old outcome notes new it

found_silent : (outcome : Outcome) → run_notes (found_by outcome) ≡ []
found_silent (Some handled) = refl
found_silent None = refl

-- ---- an event

-- one event came to the core, and its orders were sent
pub record Handles_one (moment : ℕ) (event : Event) (outcome : Outcome) (l : Ledger) (hs : List Happening) (l' : Ledger) : Type 0 where
  pub handles : Handles moment event l.core outcome (run_notes hs) l'.core
  pub each : (key : ℕ) → Ordered (sent_by outcome l'.core) (l.entries key) (l'.entries key)
  pub closed : l'.closed ≡ l.closed

pub happened : (moment : ℕ) (event : Event) (outcome : Outcome) (l : Ledger) (hs : List Happening) (l' : Ledger) → Good l → Happens moment event outcome l hs l' → Handles_one moment event outcome l hs l'
happened moment event outcome l hs l' good it =
    let d = it.first in
    let entries : it.mid.entries ≡ l.entries = ap (λ (x : Ledger). x.entries) d.after in
    let core : it.mid.core ≡ d.state = ap (λ (x : Ledger). x.core) d.after in
    let good_mid : Good it.mid = subst Good (sym d.after) (record { one = good.one; fresh = good.fresh }) in
    let s = orders outcome it.mid it.back l' good_mid it.second in
    let notified : run_notes it.prefix ≡ d.notes =
    ap run_notes d.notified ∙ (notes_append (found_by outcome) (map Notified d.notes) ∙ (ap (λ (ns : List Note). ns ++ run_notes (map Notified d.notes)) (found_silent outcome) ∙ notified_notes moment event l.core outcome d.notes d.state d.handles)) in
    let all : run_notes hs ≡ d.notes = ap run_notes it.whole ∙ (notes_append it.prefix it.back ∙ (ap (λ (ns : List Note). run_notes it.prefix ++ ns) s.notes ∙ (append-nil (run_notes it.prefix) ∙ notified))) in
    record {
      handles = subst (λ (c : State). Handles moment event l.core outcome (run_notes hs) c) (sym (s.core ∙ core)) (subst (λ (ns : List Note). Handles moment event l.core outcome ns d.state) (sym all) d.handles);
      each = λ key.
          subst (λ (c : State). Ordered (sent_by outcome c) (l.entries key) (l'.entries key)) (sym s.core)
          (subst (λ (entries : ℕ → Option Entry). Ordered (sent_by outcome it.mid.core) (entries key) (l'.entries key)) entries (s.each key));
      closed = s.closed ∙ ap (λ (x : Ledger). x.closed) d.after;
    }

-- ---- several

-- whether a device gave its name on a connection by one of these events
abbrev pub has_named : ℕ → List RunPart → Bool
has_named device [] = false
has_named device (it ∷ later) = names device it.named || has_named device later

-- the bytes due on a device's connection: the earlier bytes and the bytes sent since; or all bytes sent since its name
abbrev pub CameWith : ℕ → List RunPart → Option Entry → List ℕ → Type 0
CameWith device handled x due = (Counts device x × (due ≡ due_by device (due_at x) handled)) ⊎ ((has_named device handled ≡ true) × (due ≡ due_by device [] handled))

abbrev pub CameAs : ℕ → List RunPart → Option Entry → Option Entry → Type 0
CameAs device handled x y = CameWith device handled x (due_at y)

-- the connection broke at one of these events: the bytes due on it are a prefix of the bytes that would be due by then
pub record Halted (device : ℕ) (handled : List RunPart) (x : Option Entry) (due : List ℕ) : Type 0 where
  pub before : List RunPart
  pub tail : List RunPart
  pub whole : handled ≡ before ++ tail
  pub rest : List ℕ
  pub came : CameWith device before x (due ++ rest)

-- the connection broke at one of these events, or it had broken before
abbrev pub LostAs : ℕ → List RunPart → Option Entry → Option Entry → Type 0
LostAs device handled x y = (IsLost device x × (due_at y ≡ due_at x)) ⊎ Halted device handled x (due_at y)

-- at one event, by which this is sent
pub lost_by : (device : ℕ) (handled : List RunPart) (sent : ℕ → List ℕ) (x y : Option Entry) → due_by device (due_at x) handled ≡ due_at x ++ sent device → BreaksAs sent device x y → LostAs device handled x y
lost_by device handled sent x y sends (inl was) = inl was
lost_by device handled sent x y sends (inr (counts, rest, due)) = inr (record {
  before = handled;
  tail = [];
  whole = sym (append-nil handled);
  rest = rest;
  came = inl (counts, due ∙ sym sends);
})

-- ---- the answers to clients by these events

-- a client's connection went on from another by these acts
pub record Went (core : State) (key : ℕ) (handled : List RunPart) (x : Option Entry) (e : Entry) : Type 0 where
  pub before : Entry
  pub there : x ≡ Some before
  pub client : ClientTalk before.progress
  pub sound : before.broken ≡ false
  pub reads : ReadsOn before e
  pub acts : List Act
  pub are : AreActs e.id before.progress acts e.progress
  pub prefixes : All (λ (a : Act). IsPrefixOf a.read e.read) acts
  pub quiet : before.draining ≡ true → acts ≡ []
  pub over : drained acts ≡ true → e.draining ≡ true
  pub states : All (λ (a : Act). IsStateOf a.state core handled) acts
  pub asked : asked_by key handled ≡ flat_map (λ (a : Act). a.asked) acts
  pub due : e.due ≡ before.due ++ flat_map (λ (a : Act). a.bytes) acts

-- the connection went on by these acts, or it was accepted since
abbrev pub TalkedAs : State → ℕ → List RunPart → Option Entry → Entry → Type 0
TalkedAs core key handled x e = Went core key handled x e ⊎ IsAnswered core key handled e

or_right : (x y : Bool) → y ≡ true → x || y ≡ true
or_right true y is = refl
or_right false y is = is

or_left : (x y : Bool) → x ≡ true → x || y ≡ true
or_left true y is = refl
or_left false y is = cc

or_either : (x y : Bool) → x || y ≡ true → (x ≡ true) ⊎ (y ≡ true)
or_either true y is = inl refl
or_either false y is = inr is

drained_append : (acts more : List Act) → drained (acts ++ more) ≡ drained acts || drained more
drained_append [] more = refl
drained_append (a ∷ acts) more = ap (λ (t : Bool). drains a.what || t) (drained_append acts more) ∙ or_assoc (drains a.what) (drained acts) (drained more)
  where
    or_assoc : (x y z : Bool) → x || (y || z) ≡ (x || y) || z
    or_assoc true y z = refl
    or_assoc false y z = refl

drained_either : (acts more : List Act) → drained (acts ++ more) ≡ true → (drained acts ≡ true) ⊎ (drained more ≡ true)
drained_either acts more is = or_either (drained acts) (drained more) (sym (drained_append acts more) ∙ is)

both_none : {A : Type 0} (xs ys : List A) → xs ≡ [] → ys ≡ [] → xs ++ ys ≡ []
both_none xs ys p q = ap (λ zs. zs ++ ys) p ∙ q

acts_append : (id : ℕ) (before mid after : PeerRecord) (acts more : List Act) → AreActs id before acts mid → (drained acts ≡ true → more ≡ []) → AreActs id mid more after → AreActs id before (acts ++ more) after
acts_append id before mid after [] more same over are = subst (λ (t : PeerRecord). AreActs id t more after) same are
acts_append id before mid after (a ∷ acts) more (is, act, none, rest) over are =
    (is, act, λ last. both_none acts more (none last) (over (or_left (drains a.what) (drained acts) last)), acts_append id a.after mid after acts more rest (λ last. over (or_right (drains a.what) (drained acts) last)) are)

-- without acts the peer stays
acts_none : (id : ℕ) (before after : PeerRecord) (acts : List Act) → acts ≡ [] → AreActs id before acts after → after ≡ before
acts_none id before after acts none are = subst (λ (its : List Act). AreActs id before its after) none are

-- acts on a connection are acts on it once more was read
pub acts_on : (d e : Entry) (before after : PeerRecord) (acts : List Act) → ReadsOn d e → AreActs d.id before acts after → AreActs e.id before acts after
acts_on d e before after acts reads are = subst (λ (id : ℕ). AreActs id before acts after) (sym reads.same) are

prefix_more : (d e : Entry) (read : List ℕ) → ReadsOn d e → IsPrefixOf read d.read → IsPrefixOf read e.read
prefix_more d e read reads (rest, is) = (rest ++ reads.more, reads.grown ∙ (ap (λ (bytes : List ℕ). bytes ++ reads.more) is ∙ append_assoc read rest reads.more))

prefixes_more : (d e : Entry) (acts : List Act) → ReadsOn d e → All (λ (a : Act). IsPrefixOf a.read d.read) acts → All (λ (a : Act). IsPrefixOf a.read e.read) acts
prefixes_more d e acts reads all = All-weaker (λ (a : Act). IsPrefixOf a.read d.read) (λ (a : Act). IsPrefixOf a.read e.read) (λ a is. prefix_more d e a.read reads is) acts all

prefixes_joined : (d e : Entry) (acts more : List Act) → ReadsOn d e → All (λ (a : Act). IsPrefixOf a.read d.read) acts → All (λ (a : Act). IsPrefixOf a.read e.read) more → All (λ (a : Act). IsPrefixOf a.read e.read) (acts ++ more)
prefixes_joined d e acts more reads first later = All-append (λ (a : Act). IsPrefixOf a.read e.read) acts more (prefixes_more d e acts reads first) later

asked_append : (key : ℕ) (first later : List RunPart) → asked_by key (first ++ later) ≡ asked_by key first ++ asked_by key later
asked_append key [] later = refl
asked_append key (it ∷ first) later =
    ap (λ (its : List RunPart). (if is_asked key it.asked then it ∷ [] else []) ++ its) (asked_append key first later) ∙ sym (append_assoc (if is_asked key it.asked then it ∷ [] else []) (asked_by key first) (asked_by key later))

-- a state of a run is one of a longer run
state_more : (state core : State) (first later : List RunPart) → IsStateOf state core first → IsStateOf state core (first ++ later)
state_more state core [] [] is = is
state_more state core [] (it ∷ later) is = inl is
state_more state core (it ∷ first) later (inl is) = inl is
state_more state core (it ∷ first) later (inr is) = inr (state_more state it.state first later is)

state_later : (state core mid : State) (first later : List RunPart) → AreHandled core first mid → IsStateOf state mid later → IsStateOf state core (first ++ later)
state_later state core mid [] later same is = subst (λ (s : State). IsStateOf state s later) same is
state_later state core mid (it ∷ first) later (handles, run) is = inr (state_later state it.state mid first later run is)

states_more : (core : State) (first later : List RunPart) (acts : List Act) → All (λ (a : Act). IsStateOf a.state core first) acts → All (λ (a : Act). IsStateOf a.state core (first ++ later)) acts
states_more core first later acts all = All-weaker (λ (a : Act). IsStateOf a.state core first) (λ (a : Act). IsStateOf a.state core (first ++ later)) (λ a is. state_more a.state core first later is) acts all

states_later : (core mid : State) (first later : List RunPart) (acts : List Act) → AreHandled core first mid → All (λ (a : Act). IsStateOf a.state mid later) acts → All (λ (a : Act). IsStateOf a.state core (first ++ later)) acts
states_later core mid first later acts run all = All-weaker (λ (a : Act). IsStateOf a.state mid later) (λ (a : Act). IsStateOf a.state core (first ++ later)) (λ a is. state_later a.state core mid first later run is) acts all

asked_joined : (key : ℕ) (first later : List RunPart) (acts more : List Act) → asked_by key first ≡ flat_map (λ (a : Act). a.asked) acts → asked_by key later ≡ flat_map (λ (a : Act). a.asked) more → asked_by key (first ++ later) ≡ flat_map (λ (a : Act). a.asked) (acts ++ more)
asked_joined key first later acts more p q =
    asked_append key first later ∙ (ap (λ (its : List RunPart). its ++ asked_by key later) p ∙ (ap (λ (its : List RunPart). flat_map (λ (a : Act). a.asked) acts ++ its) q ∙ sym (flat_map-append (λ (a : Act). a.asked) acts more)))

due_joined : (before mid after : List ℕ) (acts more : List Act) → mid ≡ before ++ flat_map (λ (a : Act). a.bytes) acts → after ≡ mid ++ flat_map (λ (a : Act). a.bytes) more → after ≡ before ++ flat_map (λ (a : Act). a.bytes) (acts ++ more)
due_joined before mid after acts more p q =
    q ∙ (ap (λ (bytes : List ℕ). bytes ++ flat_map (λ (a : Act). a.bytes) more) p ∙ (append_assoc before (flat_map (λ (a : Act). a.bytes) acts) (flat_map (λ (a : Act). a.bytes) more) ∙ ap (λ (bytes : List ℕ). before ++ bytes) (sym (flat_map-append (λ (a : Act). a.bytes) acts more))))

pub progressed_then : (core mid : State) (key : ℕ) (first later : List RunPart) (x y : Option Entry) (e : Entry) → AreHandled core first mid → TalkedAs mid key later y e → ((d : Entry) → y ≡ Some d → ClientTalk d.progress → d.broken ≡ false → TalkedAs core key first x d) → TalkedAs core key (first ++ later) x e
progressed_then core mid key first later x y e run (inr a) before = inr (record {
  earlier = first ++ a.earlier;
  since = a.since;
  whole = ap (λ (its : List RunPart). first ++ its) a.whole ∙ sym (append_assoc first a.earlier a.since);
  door = a.door;
  acts = a.acts;
  are = a.are;
  prefixes = a.prefixes;
  over = a.over;
  states = states_later core mid first later a.acts run a.states;
  asked = a.asked;
  due = a.due;
})
progressed_then core mid key first later x y e run (inl w) before = by (before w.before w.there w.client w.sound)
  where
    over_joined : (acts : List Act) → (drained acts ≡ true) ⊎ (drained w.acts ≡ true) → (drained acts ≡ true → w.before.draining ≡ true) → e.draining ≡ true
    over_joined acts (inl last) over = w.reads.drains (over last)
    over_joined acts (inr last) over = w.over last

    by : TalkedAs core key first x w.before → TalkedAs core key (first ++ later) x e
    by (inl v) = inl (record {
      before = v.before;
      there = v.there;
      client = v.client;
      sound = v.sound;
      reads = reads_then v.before w.before e v.reads w.reads;
      acts = v.acts ++ w.acts;
      are = acts_append e.id v.before.progress w.before.progress e.progress v.acts w.acts (acts_on w.before e v.before.progress w.before.progress v.acts w.reads v.are) (λ last. w.quiet (v.over last)) w.are;
      prefixes = prefixes_joined w.before e v.acts w.acts w.reads v.prefixes w.prefixes;
      quiet = λ is. both_none v.acts w.acts (v.quiet is) (w.quiet (v.reads.drains is));
      over = λ last. over_joined v.acts (drained_either v.acts w.acts last) v.over;
      states = All-append (λ (a : Act). IsStateOf a.state core (first ++ later)) v.acts w.acts (states_more core first later v.acts v.states) (states_later core mid first later w.acts run w.states);
      asked = asked_joined key first later v.acts w.acts v.asked w.asked;
      due = due_joined v.before.due w.before.due e.due v.acts w.acts v.due w.due;
    })
    by (inr b) = inr (record {
      earlier = b.earlier;
      since = b.since ++ later;
      whole = ap (λ (its : List RunPart). its ++ later) b.whole ∙ append_assoc b.earlier b.since later;
      door = b.door;
      acts = b.acts ++ w.acts;
      are = acts_append e.id (opening_peer b.door) w.before.progress e.progress b.acts w.acts (acts_on w.before e (opening_peer b.door) w.before.progress b.acts w.reads b.are) (λ last. w.quiet (b.over last)) w.are;
      prefixes = prefixes_joined w.before e b.acts w.acts w.reads b.prefixes w.prefixes;
      over = λ last. over_joined b.acts (drained_either b.acts w.acts last) b.over;
      states = All-append (λ (a : Act). IsStateOf a.state core (first ++ later)) b.acts w.acts (states_more core first later b.acts b.states) (states_later core mid first later w.acts run w.states);
      asked = asked_joined key b.since later b.acts w.acts b.asked w.asked;
      due = due_joined [] w.before.due e.due b.acts w.acts b.due w.due;
    })

-- ---- where it broke

-- if the connection drained before, it took no acts and asked nothing until it broke
abbrev pub QuietFrom : Bool → List Act → List RunPart → PeerRecord → PeerRecord → Type 0
QuietFrom draining acts unanswered before after = draining ≡ true → (acts ≡ []) × (unanswered ≡ []) × (after ≡ before)

-- the connection had broken before; or it went on, and broke; or it was accepted since, and broke
abbrev pub StopsAs : State → ℕ → List RunPart → Option Entry → Entry → Type 0
StopsAs core key handled x e =
    ((d : Entry) × (x ≡ Some d) × (d.broken ≡ true) × (d.progress ≡ e.progress) × (d.due ≡ e.due) × (asked_by key handled ≡ []) × ReadsOn d e)
    ⊎ (((d : Entry) × (x ≡ Some d) × ClientTalk d.progress × (d.broken ≡ false) × (until : BrokeAfter core key handled handled d.progress d.due e) × ReadsOn d e × QuietFrom d.draining until.acts until.unanswered d.progress e.progress) ⊎ IsCutOff core key handled e)

last_more : (core : State) (first later : List RunPart) (d e : Entry) (after progress : PeerRecord) → ReadsOn d e → IsLast core first d.read after progress → IsLast core (first ++ later) e.read after progress
last_more core first later d e after progress reads (inl is) = inl is
last_more core first later d e after progress reads (inr (state, read, what, of, prefix, next)) = inr (state, read, what, state_more state core first later of, prefix_more d e read reads prefix, next)

last_after : (core mid : State) (first later : List RunPart) (whole : List ℕ) (after progress : PeerRecord) → AreHandled core first mid → IsLast mid later whole after progress → IsLast core (first ++ later) whole after progress
last_after core mid first later whole after progress run (inl is) = inl is
last_after core mid first later whole after progress run (inr (state, read, what, of, prefix, next)) = inr (state, read, what, state_later state core mid first later run of, prefix, next)

-- more comes, which it doesn't ask for
abbrev broke_more : (core : State) (key : ℕ) (first later since : List RunPart) (before : PeerRecord) (base : List ℕ) (d e : Entry) → BrokeAfter core key first since before base d → d.progress ≡ e.progress → d.due ≡ e.due → asked_by key later ≡ [] → ReadsOn d e → BrokeAfter core key (first ++ later) (since ++ later) before base e
broke_more core key first later since before base d e b progress due none reads = record {
  acts = b.acts;
  after = b.after;
  are = acts_on d e before b.after b.acts reads b.are;
  prefixes = prefixes_more d e b.acts reads b.prefixes;
  states = states_more core first later b.acts b.states;
  unanswered = b.unanswered;
  one = b.one;
  asked = asked_append key since later ∙ (ap (λ (its : List RunPart). asked_by key since ++ its) none ∙ (append-nil (asked_by key since) ∙ b.asked));
  last = subst (λ (t : PeerRecord). IsLast core (first ++ later) e.read b.after t) progress (last_more core first later d e b.after d.progress reads b.last);
  over = λ last. let it = b.over last in (sym progress ∙ it.0, it.1);
  due = sym due ∙ b.due;
}

broke_ended : (mid : State) (key : ℕ) (later : List RunPart) (d e : Entry) (acts : List Act) (b : BrokeAfter mid key later later d.progress d.due e) → (drained acts ≡ true → d.draining ≡ true) → QuietFrom d.draining b.acts b.unanswered d.progress e.progress
    → (drained acts ≡ true) ⊎ (drained b.acts ≡ true) → (e.progress ≡ b.after) × (b.unanswered ≡ [])
broke_ended mid key later d e acts b over quiet (inl last) = let it = quiet (over last) in (it.2 ∙ sym (acts_none e.id d.progress b.after b.acts it.0 b.are), it.1)
broke_ended mid key later d e acts b over quiet (inr last) = b.over last

-- the connection had gone on by other acts before
abbrev broke_after : (core mid : State) (key : ℕ) (first later since : List RunPart) (before : PeerRecord) (base : List ℕ) (d e : Entry) (acts : List Act) → AreHandled core first mid → AreActs d.id before acts d.progress → (drained acts ≡ true → d.draining ≡ true) → All (λ (a : Act). IsPrefixOf a.read d.read) acts → All (λ (a : Act). IsStateOf a.state core first) acts → asked_by key since ≡ flat_map (λ (a : Act). a.asked) acts
    → d.due ≡ base ++ flat_map (λ (a : Act). a.bytes) acts → (b : BrokeAfter mid key later later d.progress d.due e) → ReadsOn d e → QuietFrom d.draining b.acts b.unanswered d.progress e.progress → BrokeAfter core key (first ++ later) (since ++ later) before base e
broke_after core mid key first later since before base d e acts run are over prefixes states asked due b reads quiet = record {
  acts = acts ++ b.acts;
  after = b.after;
  are = acts_append e.id before d.progress b.after acts b.acts (acts_on d e before d.progress acts reads are) (λ last. (quiet (over last)).0) b.are;
  prefixes = prefixes_joined d e acts b.acts reads prefixes b.prefixes;
  states = All-append (λ (a : Act). IsStateOf a.state core (first ++ later)) acts b.acts (states_more core first later acts states) (states_later core mid first later b.acts run b.states);
  unanswered = b.unanswered;
  one = b.one;
  asked = asked_append key since later
      ∙ (ap (λ (its : List RunPart). its ++ asked_by key later) asked
      ∙ (ap (λ (its : List RunPart). flat_map (λ (a : Act). a.asked) acts ++ its) b.asked
      ∙ (sym (append_assoc (flat_map (λ (a : Act). a.asked) acts) (flat_map (λ (a : Act). a.asked) b.acts) b.unanswered) ∙ ap (λ (its : List RunPart). its ++ b.unanswered) (sym (flat_map-append (λ (a : Act). a.asked) acts b.acts)))));
  last = last_after core mid first later e.read b.after e.progress run b.last;
  over = λ last. broke_ended mid key later d e acts b over quiet (drained_either acts b.acts last);
  due = due_joined base d.due e.due acts b.acts due b.due;
}

pub stops_then : (core mid : State) (key : ℕ) (first later : List RunPart) (x y : Option Entry) (e : Entry) → AreHandled core first mid → ClientTalk e.progress → StopsAs mid key later y e → ((d : Entry) → y ≡ Some d → ClientTalk d.progress → d.broken ≡ false → TalkedAs core key first x d)
    → ((d : Entry) → y ≡ Some d → ClientTalk d.progress → d.broken ≡ true → StopsAs core key first x d) → StopsAs core key (first ++ later) x e
stops_then core mid key first later x y e run client (inl (d, there, broken, progress, due, none, reads)) progressed stopped = by (stopped d there (subst ClientTalk (sym progress) client) broken)
  where
    by : StopsAs core key first x d → StopsAs core key (first ++ later) x e
    by (inl (f, is, was, same, more, silent, read)) = inl (f, is, was, same ∙ progress, more ∙ due, asked_append key first later ∙ (ap (λ (its : List RunPart). its ++ asked_by key later) silent ∙ none), reads_then f d e read reads)
    by (inr (inl (f, is, of, sound, b, read, quiet))) =
        inr (inl (f, is, of, sound, broke_more core key first later first f.progress f.due d e b progress due none reads, reads_then f d e read reads, λ drains. let it = quiet drains in (it.0, it.1, sym progress ∙ it.2)))
    by (inr (inr c)) = inr (inr (record {
      earlier = c.earlier;
      since = c.since ++ later;
      whole = ap (λ (its : List RunPart). its ++ later) c.whole ∙ append_assoc c.earlier c.since later;
      door = c.door;
      until = broke_more core key first later c.since (opening_peer c.door) [] d e c.until progress due none reads;
    }))
stops_then core mid key first later x y e run client (inr (inl (d, there, of, sound, b, reads, quiet))) progressed stopped = by (progressed d there of sound)
  where
    by : TalkedAs core key first x d → StopsAs core key (first ++ later) x e
    by (inl v) = inr (inl (
      v.before,
      v.there,
      v.client,
      v.sound,
      broke_after core mid key first later first v.before.progress v.before.due d e v.acts run v.are v.over v.prefixes v.states v.asked v.due b reads quiet,
      reads_then v.before d e v.reads reads,
      λ drains.
          let none = v.quiet drains in
          let it = quiet (v.reads.drains drains) in
          (both_none v.acts b.acts none it.0, it.1, it.2 ∙ acts_none d.id v.before.progress d.progress v.acts none v.are),
    ))
    by (inr a) = inr (inr (record {
      earlier = a.earlier;
      since = a.since ++ later;
      whole = ap (λ (its : List RunPart). its ++ later) a.whole ∙ append_assoc a.earlier a.since later;
      door = a.door;
      until = broke_after core mid key first later a.since (opening_peer a.door) [] d e a.acts run a.are a.over a.prefixes a.states a.asked a.due b reads quiet;
    }))
stops_then core mid key first later x y e run client (inr (inr c)) progressed stopped = inr (inr (record {
  earlier = first ++ c.earlier;
  since = c.since;
  whole = ap (λ (its : List RunPart). first ++ its) c.whole ∙ sym (append_assoc first c.earlier c.since);
  door = c.door;
  until = record {
    acts = c.until.acts;
    after = c.until.after;
    are = c.until.are;
    prefixes = c.until.prefixes;
    states = states_later core mid first later c.until.acts run c.until.states;
    unanswered = c.until.unanswered;
    one = c.until.one;
    asked = c.until.asked;
    last = last_after core mid first later e.read c.until.after e.progress run c.until.last;
    over = c.until.over;
    due = c.until.due;
  };
}))

-- the connection broke, or had broken; these events weren't asked on it
pub stops_still : (core : State) (key : ℕ) (handled : List RunPart) (x y : Option Entry) → Stays x y → asked_by key handled ≡ [] → (e : Entry) → y ≡ Some e → ClientTalk e.progress → e.broken ≡ true → StopsAs core key handled x e
stops_still core key handled x y stays none e is client broken =
    let d = stays e is client in
    by d.0 d.1 d.2 d.4 d.5 d.0.broken refl
  where
    by : (d : Entry) → x ≡ Some d → d.progress ≡ e.progress → d.due ≡ e.due → ReadsOn d e → (t : Bool) → d.broken ≡ t → StopsAs core key handled x e
    by d there progress due reads true was = inl (d, there, was, progress, due, none, reads)
    by d there progress due reads false was = inr (inl (
      d,
      there,
      subst ClientTalk (sym progress) client,
      was,
      record {
        acts = [];
        after = d.progress;
        are = refl;
        prefixes = All-nil (λ (a : Act). IsPrefixOf a.read e.read);
        states = All-nil (λ (a : Act). IsStateOf a.state core handled);
        unanswered = [];
        one = tt;
        asked = none;
        last = inl progress;
        over = λ is. cc;
        due = sym due ∙ sym (append-nil d.due);
      },
      reads,
      λ drains. (refl, refl, sym progress),
    ))

-- the connection is unchanged if these events weren't asked on it
pub progressed_still : (core : State) (key : ℕ) (handled : List RunPart) (x y : Option Entry) → Stays x y → asked_by key handled ≡ [] → (e : Entry) → y ≡ Some e → ClientTalk e.progress → e.broken ≡ false → TalkedAs core key handled x e
progressed_still core key handled x y stays none e is client sound =
    let d = stays e is client in
    inl (record {
      before = d.0;
      there = d.1;
      client = subst ClientTalk (sym d.2) client;
      sound = d.3 sound;
      reads = d.5;
      acts = [];
      are = sym d.2;
      prefixes = All-nil (λ (a : Act). IsPrefixOf a.read e.read);
      quiet = λ is. refl;
      over = λ is. cc;
      states = All-nil (λ (a : Act). IsStateOf a.state core handled);
      asked = none;
      due = sym d.4 ∙ sym (append-nil d.0.due);
    })

-- ---- connections that were closed

-- the bytes due on a connection when it was closed, unless it broke: by the events until then
pub record ClosedAs (l : Ledger) (handled : List RunPart) (e : Entry) : Type 0 where
  pub key : ℕ
  pub before : List RunPart
  pub tail : List RunPart
  pub whole : handled ≡ before ++ tail
  pub came : (device : ℕ) → device_of e.progress ≡ Some device → e.broken ≡ false → CameAs device before (l.entries key) (Some e)
  pub lost : (device : ℕ) → device_of e.progress ≡ Some device → e.broken ≡ true → LostAs device before (l.entries key) (Some e)
  pub progresses : ClientTalk e.progress → e.broken ≡ false → TalkedAs l.core key before (l.entries key) e
  pub stops : ClientTalk e.progress → e.broken ≡ true → StopsAs l.core key before (l.entries key) e

pub record AllClosed (l : Ledger) (handled : List RunPart) (l' : Ledger) : Type 0 where
  pub more : List (Entry × Fate)
  pub closed : l'.closed ≡ l.closed ++ more
  pub each : All (λ (it : Entry × Fate). ClosedAs l handled it.0) more

-- no connection was closed
pub none_closed : (l : Ledger) (handled : List RunPart) (l' : Ledger) → l'.closed ≡ l.closed → AllClosed l handled l'
none_closed l handled l' same = record { more = []; closed = same ∙ sym (append-nil l.closed); each = All-nil (λ (it : Entry × Fate). ClosedAs l handled it.0) }

-- the core handled these, at one moment, in a turn or not
pub record Goes (turn : Bool) (moment : ℕ) (l : Ledger) (hs : List Happening) (l' : Ledger) : Type 0 where
  pub handled : List RunPart
  pub good : Good l'
  pub run : AreHandled l.core handled l'.core
  pub timed : AreAt turn moment handled
  pub notified : run_notes hs ≡ flat_map (λ (it : RunPart). it.notes) handled
  pub came : (key device : ℕ) → Counts device (l'.entries key) → CameAs device handled (l.entries key) (l'.entries key)
  pub lost : (key device : ℕ) → IsLost device (l'.entries key) → LostAs device handled (l.entries key) (l'.entries key)
  pub progresses : (key : ℕ) (e : Entry) → l'.entries key ≡ Some e → ClientTalk e.progress → e.broken ≡ false → TalkedAs l.core key handled (l.entries key) e
  pub stops : (key : ℕ) (e : Entry) → l'.entries key ≡ Some e → ClientTalk e.progress → e.broken ≡ true → StopsAs l.core key handled (l.entries key) e
  pub closed : AllClosed l handled l'

pub due_append : (device : ℕ) (before : List ℕ) (first later : List RunPart) → due_by device before (first ++ later) ≡ due_by device (due_by device before first) later
due_append device before [] later = refl
due_append device before (it ∷ first) later = due_append device ((if names device it.named then [] else before) ++ orders_of device it) first later

pub named_append : (device : ℕ) (first later : List RunPart) → has_named device (first ++ later) ≡ has_named device first || has_named device later
named_append device [] later = refl
named_append device (it ∷ first) later = ap (λ (t : Bool). names device it.named || t) (named_append device first later) ∙ or_assoc (names device it.named) (has_named device first) (has_named device later)
  where
    or_assoc : (x y z : Bool) → x || (y || z) ≡ (x || y) || z
    or_assoc true y z = refl
    or_assoc false y z = refl

-- once a device gave its name, the bytes due before don't count
pub due_named : (device : ℕ) (before other : List ℕ) (handled : List RunPart) → has_named device handled ≡ true → due_by device before handled ≡ due_by device other handled
due_named device before other [] is = cc
due_named device before other (it ∷ later) is = by_name (names device it.named) (λ rest. due_named device (before ++ orders_of device it) (other ++ orders_of device it) later rest) is
  where
    by_name : (t : Bool) → (has_named device later ≡ true → due_by device (before ++ orders_of device it) later ≡ due_by device (other ++ orders_of device it) later) → t || has_named device later ≡ true → due_by device ((if t then [] else before) ++ orders_of device it) later ≡ due_by device ((if t then [] else other) ++ orders_of device it) later
    by_name true rest is = refl
    by_name false rest is = rest is

pub came_with : (device : ℕ) (first later : List RunPart) (x y : Option Entry) (all : List ℕ) → CameWith device later y all → (Counts device y → CameAs device first x y) → CameWith device (first ++ later) x all
came_with device first later x y all (inr (named, due)) before =
    inr (named_append device first later ∙ or_right (has_named device first) (has_named device later) named, due ∙ (due_named device [] (due_by device [] first) later named ∙ sym (due_append device [] first later)))
came_with device first later x y all (inl (counts, due)) before = by_first (before counts)
  where
    by_first : CameAs device first x y → CameWith device (first ++ later) x all
    by_first (inl (was, is)) = inl (was, due ∙ (ap (λ (bytes : List ℕ). due_by device bytes later) is ∙ sym (due_append device (due_at x) first later)))
    by_first (inr (named, is)) =
        inr (named_append device first later ∙ or_left (has_named device first) (has_named device later) named, due ∙ (ap (λ (bytes : List ℕ). due_by device bytes later) is ∙ sym (due_append device [] first later)))

pub came_then : (device : ℕ) (first later : List RunPart) (x y z : Option Entry) → CameAs device later y z → (Counts device y → CameAs device first x y) → CameAs device (first ++ later) x z
came_then device first later x y z came before = came_with device first later x y (due_at z) came before

pub lost_then : (device : ℕ) (first later : List RunPart) (x y z : Option Entry) → LostAs device later y z → (IsLost device y → LostAs device first x y) → (Counts device y → CameAs device first x y) → LostAs device (first ++ later) x z
lost_then device first later x y z (inr h) lost came = inr (record {
  before = first ++ h.before;
  tail = h.tail;
  whole = ap (λ (its : List RunPart). first ++ its) h.whole ∙ sym (append_assoc first h.before h.tail);
  rest = h.rest;
  came = came_with device first h.before x y (due_at z ++ h.rest) h.came came;
})
lost_then device first later x y z (inl (is, same)) lost came = by (lost is)
  where
    by : LostAs device first x y → LostAs device (first ++ later) x z
    by (inl (was, due)) = inl (was, same ∙ due)
    by (inr h) = inr (record {
      before = h.before;
      tail = h.tail ++ later;
      whole = ap (λ (its : List RunPart). its ++ later) h.whole ∙ append_assoc h.before h.tail later;
      rest = h.rest;
      came = subst (λ (bytes : List ℕ). CameWith device h.before x (bytes ++ h.rest)) (sym same) h.came;
    })

pub handled_append : (old mid new : State) (first later : List RunPart) → AreHandled old first mid → AreHandled mid later new → AreHandled old (first ++ later) new
handled_append old mid new [] later same rest = subst (λ (s : State). AreHandled s later new) same rest
handled_append old mid new (it ∷ first) later (handles, more) rest = (handles, handled_append it.state mid new first later more rest)

-- closed before more comes, or after this
closed_more : (l : Ledger) (first later : List RunPart) (e : Entry) → ClosedAs l first e → ClosedAs l (first ++ later) e
closed_more l first later e c = record {
  key = c.key;
  before = c.before;
  tail = c.tail ++ later;
  whole = ap (λ (its : List RunPart). its ++ later) c.whole ∙ append_assoc c.before c.tail later;
  came = c.came;
  lost = c.lost;
  progresses = c.progresses;
  stops = c.stops;
}

closed_after : (l mid : Ledger) (first later : List RunPart) (e : Entry) → AreHandled l.core first mid.core → ((key device : ℕ) → Counts device (mid.entries key) → CameAs device first (l.entries key) (mid.entries key))
    → ((key device : ℕ) → IsLost device (mid.entries key) → LostAs device first (l.entries key) (mid.entries key))
    → ((key : ℕ) (d : Entry) → mid.entries key ≡ Some d → ClientTalk d.progress → d.broken ≡ false → TalkedAs l.core key first (l.entries key) d)
    → ((key : ℕ) (d : Entry) → mid.entries key ≡ Some d → ClientTalk d.progress → d.broken ≡ true → StopsAs l.core key first (l.entries key) d) → ClosedAs mid later e → ClosedAs l (first ++ later) e
closed_after l mid first later e run came lost progresses stops c = record {
  key = c.key;
  before = first ++ c.before;
  tail = c.tail;
  whole = ap (λ (its : List RunPart). first ++ its) c.whole ∙ sym (append_assoc first c.before c.tail);
  came = λ device named sound. came_then device first c.before (l.entries c.key) (mid.entries c.key) (Some e) (c.came device named sound) (came c.key device);
  lost = λ device named is. lost_then device first c.before (l.entries c.key) (mid.entries c.key) (Some e) (c.lost device named is) (lost c.key device) (came c.key device);
  progresses = λ client sound. progressed_then l.core mid.core c.key first c.before (l.entries c.key) (mid.entries c.key) e run (c.progresses client sound) (λ d there of unbroken. progresses c.key d there of unbroken);
  stops = λ client broken. stops_then l.core mid.core c.key first c.before (l.entries c.key) (mid.entries c.key) e run client (c.stops client broken) (progresses c.key) (stops c.key);
}

pub all_closed_then : (l mid l' : Ledger) (first later : List RunPart) → AreHandled l.core first mid.core → ((key device : ℕ) → Counts device (mid.entries key) → CameAs device first (l.entries key) (mid.entries key))
    → ((key device : ℕ) → IsLost device (mid.entries key) → LostAs device first (l.entries key) (mid.entries key))
    → ((key : ℕ) (d : Entry) → mid.entries key ≡ Some d → ClientTalk d.progress → d.broken ≡ false → TalkedAs l.core key first (l.entries key) d)
    → ((key : ℕ) (d : Entry) → mid.entries key ≡ Some d → ClientTalk d.progress → d.broken ≡ true → StopsAs l.core key first (l.entries key) d) → AllClosed l first mid → AllClosed mid later l' → AllClosed l (first ++ later) l'
all_closed_then l mid l' first later run came lost progresses stops p q = record {
  more = p.more ++ q.more;
  closed = q.closed ∙ (ap (λ (xs : List (Entry × Fate)). xs ++ q.more) p.closed ∙ append_assoc l.closed p.more q.more);
  each = All-append (λ (it : Entry × Fate). ClosedAs l (first ++ later) it.0) p.more q.more
      (All-weaker (λ (it : Entry × Fate). ClosedAs l first it.0) (λ (it : Entry × Fate). ClosedAs l (first ++ later) it.0) (λ it c. closed_more l first later it.0 c) p.more p.each)
      (All-weaker (λ (it : Entry × Fate). ClosedAs mid later it.0) (λ (it : Entry × Fate). ClosedAs l (first ++ later) it.0) (λ it c. closed_after l mid first later it.0 run came lost progresses stops c) q.more q.each);
}

pub goes_then : (turn : Bool) (moment : ℕ) (l : Ledger) (prefix : List Happening) (mid : Ledger) (back : List Happening) (l' : Ledger) (hs : List Happening) → hs ≡ prefix ++ back → Goes turn moment l prefix mid → Goes turn moment mid back l' → Goes turn moment l hs l'
goes_then turn moment l prefix mid back l' hs whole p q = record {
  handled = p.handled ++ q.handled;
  good = q.good;
  run = handled_append l.core mid.core l'.core p.handled q.handled p.run q.run;
  timed = All-append (IsAt turn moment) p.handled q.handled p.timed q.timed;
  notified = ap run_notes whole ∙ (notes_append prefix back ∙ (ap (λ (ns : List Note). ns ++ run_notes back) p.notified ∙ (ap (λ (ns : List Note). flat_map (λ (it : RunPart). it.notes) p.handled ++ ns) q.notified ∙ sym (flat_map-append (λ (it : RunPart). it.notes) p.handled q.handled))));
  came = λ key device counts. came_then device p.handled q.handled (l.entries key) (mid.entries key) (l'.entries key) (q.came key device counts) (p.came key device);
  lost = λ key device is. lost_then device p.handled q.handled (l.entries key) (mid.entries key) (l'.entries key) (q.lost key device is) (p.lost key device) (p.came key device);
  progresses = λ key e is client sound. progressed_then l.core mid.core key p.handled q.handled (l.entries key) (mid.entries key) e p.run (q.progresses key e is client sound) (λ d there of unbroken. p.progresses key d there of unbroken);
  stops = λ key e is client broken. stops_then l.core mid.core key p.handled q.handled (l.entries key) (mid.entries key) e p.run client (q.stops key e is client broken) (p.progresses key) (p.stops key);
  closed = all_closed_then l mid l' p.handled q.handled p.run p.came p.lost p.progresses p.stops p.closed q.closed;
}

pub goes_calm : (turn : Bool) (moment : ℕ) (l : Ledger) (hs : List Happening) (l' : Ledger) → Good l → Calm l hs l' → Goes turn moment l hs l'
goes_calm turn moment l hs l' good calm = record {
  handled = [];
  good = good_sent (λ device. []) l hs l' calm good;
  run = calm.core;
  timed = All-nil (IsAt turn moment);
  notified = calm.notes;
  came = λ key device counts. let it = (calm.each key).counts device counts in inl (it.0, it.1 ∙ append-nil (due_at (l.entries key)));
  lost = λ key device is. lost_by device [] (λ d. []) (l.entries key) (l'.entries key) (sym (append-nil (due_at (l.entries key)))) ((calm.each key).breaks device is);
  progresses = λ key. progressed_still l.core key [] (l.entries key) (l'.entries key) (calm.each key).stays refl;
  stops = λ key. stops_still l.core key [] (l.entries key) (l'.entries key) (calm.each key).stays refl;
  closed = none_closed l [] l' calm.closed;
}

-- from one connection under a key to the next, also where a client's came or was closed: no device notices
pub record Plain (x y : Option Entry) : Type 0 where
  pub counts : (device : ℕ) → Counts device y → Counts device x × (due_at y ≡ due_at x)
  pub lost : (device : ℕ) → IsLost device y → IsLost device x × (due_at y ≡ due_at x)
  pub device : (device : ℕ) → IsDevice device y → IsDevice device x
  pub fresh : IsFresh x → IsFresh y

by_test : (t : Bool) (x o y : Option Entry) → (t ≡ true → Plain x o) → (t ≡ false → Plain x y) → Plain x (if t then o else y)
by_test true x o y p q = p refl
by_test false x o y p q = q refl

plain_at : (key : ℕ) (o : Option Entry) (entries : ℕ → Option Entry) → Plain (entries key) o → (other : ℕ) → Plain (entries other) (at_key key o entries other)
plain_at key o entries here other =
    by_test (other == key) (entries other) o (entries other) (λ is. subst (λ (k : ℕ). Plain (entries k) o) (sym (same_key other key is)) here) (λ is. record { counts = λ device counts. (counts, refl); lost = λ device lost. (lost, refl); device = λ device named. named; fresh = λ fresh. fresh })

-- a connection came, or was closed
pub goes_plain : (turn : Bool) (moment key : ℕ) (o : Option Entry) (l : Ledger) (hs : List Happening) (l' : Ledger) → Good l → run_notes hs ≡ [] → l'.core ≡ l.core → l'.entries ≡ at_key key o l.entries → Plain (l.entries key) o
    → ((e : Entry) → o ≡ Some e → ClientTalk e.progress → e.broken ≡ false → TalkedAs l.core key [] (l.entries key) e) → ((e : Entry) → o ≡ Some e → e.broken ≡ true → ⊥) → AllClosed l [] l' → Goes turn moment l hs l'
goes_plain turn moment key o l hs l' good silent core after here progresses unbroken closed = record {
  handled = [];
  good = record {
    one = λ device k other p q. good.one device k other ((each k).device device p) ((each other).device device q);
    fresh = λ k. (each k).fresh (good.fresh k);
  };
  run = core;
  timed = All-nil (IsAt turn moment);
  notified = silent;
  came = λ k device counts. inl ((each k).counts device counts);
  lost = λ k device is. inl ((each k).lost device is);
  progresses = λ k e is. progressed k e (k == key) refl (subst (λ (entries : ℕ → Option Entry). entries k ≡ Some e) after is);
  stops = λ k e is. stopped k e (k == key) refl (subst (λ (entries : ℕ → Option Entry). entries k ≡ Some e) after is);
  closed = closed;
}
  where
    progressed : (k : ℕ) (e : Entry) (t : Bool) → (k == key) ≡ t → (if t then o else l.entries k) ≡ Some e → ClientTalk e.progress → e.broken ≡ false → TalkedAs l.core k [] (l.entries k) e
    progressed k e true same is client sound = subst (λ (j : ℕ). TalkedAs l.core j [] (l.entries j) e) (sym (same_key k key same)) (progresses e is client sound)
    progressed k e false same is client sound = progressed_still l.core k [] (l.entries k) (l.entries k) (λ f there of. (f, there, refl, λ still. still, refl, reads_same f)) refl e is client sound

    stopped : (k : ℕ) (e : Entry) (t : Bool) → (k == key) ≡ t → (if t then o else l.entries k) ≡ Some e → ClientTalk e.progress → e.broken ≡ true → StopsAs l.core k [] (l.entries k) e
    stopped k e true same is client broken = absurd (unbroken e is broken)
    stopped k e false same is client broken = stops_still l.core k [] (l.entries k) (l.entries k) (λ f there of. (f, there, refl, λ still. still, refl, reads_same f)) refl e is client broken

    each : (k : ℕ) → Plain (l.entries k) (l'.entries k)
    each k = subst (λ (entries : ℕ → Option Entry). Plain (l.entries k) (entries k)) (sym after) (plain_at key o l.entries here k)

-- one event, as the core has it
abbrev pub one_handled : (moment : ℕ) (event : Event) (outcome : Outcome) (hs : List Happening) (l' : Ledger) (named asked : Option ℕ) → RunPart
one_handled moment event outcome hs l' named asked = record { moment = moment; what = EventComes event outcome; notes = run_notes hs; state = l'.core; named = named; asked = asked }

good_one : (moment : ℕ) (event : Event) (outcome : Outcome) (l : Ledger) (hs : List Happening) (l' : Ledger) → Good l → Handles_one moment event outcome l hs l' → Good l'
good_one moment event outcome l hs l' good it = record {
  one = λ device key other p q. good.one device key other ((it.each key).device device p) ((it.each other).device device q);
  fresh = λ key. (it.each key).fresh (good.fresh key);
}

pub goes_event : (turn : Bool) (moment : ℕ) (event : Event) (outcome : Outcome) (l : Ledger) (hs : List Happening) (l' : Ledger) → Good l → None ≡ named_by turn event → Handles_one moment event outcome l hs l' → Goes turn moment l hs l'
goes_event turn moment event outcome l hs l' good nameless it = record {
  handled = one_handled moment event outcome hs l' None None ∷ [];
  good = good_one moment event outcome l hs l' good it;
  run = (it.handles, refl);
  timed = All-cons (IsAt turn moment) (one_handled moment event outcome hs l' None None) [] (refl, nameless) (All-nil (IsAt turn moment));
  notified = sym (append-nil (run_notes hs));
  came = λ key device counts. inl ((it.each key).counts device counts);
  lost = λ key device is. lost_by device (one_handled moment event outcome hs l' None None ∷ []) (sent_by outcome l'.core) (l.entries key) (l'.entries key) refl ((it.each key).breaks device is);
  progresses = λ key. progressed_still l.core key (one_handled moment event outcome hs l' None None ∷ []) (l.entries key) (l'.entries key) (it.each key).stays refl;
  stops = λ key. stops_still l.core key (one_handled moment event outcome hs l' None None ∷ []) (l.entries key) (l'.entries key) (it.each key).stays refl;
  closed = none_closed l (one_handled moment event outcome hs l' None None ∷ []) l' it.closed;
}

-- memory is refused, and the observer is notified so
pub goes_refused : (turn : Bool) (moment : ℕ) (place : AllocationSite) (id : Option ℕ) (l : Ledger) (hs : List Happening) (l' : Ledger) → Good l → run_notes (Notified (Refused place id) ∷ []) ≡ Refused place id ∷ [] → Notifies (Refused place id) l hs l' → Goes turn moment l hs l'
goes_refused turn moment place id l hs l' good notifies it = subst (λ (x : Ledger). Goes turn moment l hs x) (sym it.1) (record {
  handled = one ∷ [];
  good = good;
  run = ((refl, refl), refl);
  timed = All-cons (IsAt turn moment) one [] (refl, refl) (All-nil (IsAt turn moment));
  notified = ap run_notes it.0 ∙ notifies;
  came = λ key device counts. inl (counts, sym (append-nil (due_at (l.entries key))));
  lost = λ key device is. inl (is, refl);
  progresses = λ key. progressed_still l.core key (one ∷ []) (l.entries key) (l.entries key) (λ f there of. (f, there, refl, λ still. still, refl, reads_same f)) refl;
  stops = λ key. stops_still l.core key (one ∷ []) (l.entries key) (l.entries key) (λ f there of. (f, there, refl, λ still. still, refl, reads_same f)) refl;
  closed = none_closed l (one ∷ []) l refl;
})
  where
    one : RunPart
    one = record { moment = moment; what = MemoryRefused place id; notes = Refused place id ∷ []; state = l.core; named = None; asked = None }

-- ---- a device's name

-- The device of a connection is to say its name: nothing is due on it, and of all others it is as it was or grew.
pub record Awaits (moment device key : ℕ) (l : Ledger) (hs : List Happening) (l' : Ledger) : Type 0 where
  pub handled : List RunPart
  pub good : Good l'
  pub run : AreHandled l.core handled l'.core
  pub timed : AreAt true moment handled
  pub notified : run_notes hs ≡ flat_map (λ (it : RunPart). it.notes) handled
  pub only : (other : ℕ) → IsDevice device (l'.entries other) → other ≡ key
  pub due : Counts device (l'.entries key) → due_at (l'.entries key) ≡ []
  pub lost_due : IsLost device (l'.entries key) → due_at (l'.entries key) ≡ []
  pub came : (other of : ℕ) → (device == of) ≡ false → Counts of (l'.entries other) → CameAs of handled (l.entries other) (l'.entries other)
  pub lost : (other of : ℕ) → (device == of) ≡ false → IsLost of (l'.entries other) → LostAs of handled (l.entries other) (l'.entries other)
  pub progresses : (other : ℕ) (e : Entry) → l'.entries other ≡ Some e → ClientTalk e.progress → e.broken ≡ false → TalkedAs l.core other handled (l.entries other) e
  pub stops : (other : ℕ) (e : Entry) → l'.entries other ≡ Some e → ClientTalk e.progress → e.broken ≡ true → StopsAs l.core other handled (l.entries other) e
  pub closed : l'.closed ≡ l.closed

prefix_nil : (bytes rest : List ℕ) → bytes ++ rest ≡ [] → bytes ≡ []
prefix_nil [] rest is = refl
prefix_nil (b ∷ bytes) rest is = cc

-- if no bytes were due and none are sent, no bytes are due once the connection broke
lost_none : (sent : ℕ → List ℕ) (device : ℕ) (x y : Option Entry) → (IsLost device x → due_at x ≡ []) → (Counts device x → due_at x ≡ []) → sent device ≡ [] → BreaksAs sent device x y → due_at y ≡ []
lost_none sent device x y lost due none (inl (was, same)) = same ∙ lost was
lost_none sent device x y lost due none (inr (counts, rest, is)) = prefix_nil (due_at y) rest (is ∙ (ap (λ (bytes : List ℕ). bytes ++ sent device) (due counts) ∙ none))

-- an event that sends nothing to it
pub awaits_event : (moment device key : ℕ) (event : Event) (outcome : Outcome) (l : Ledger) (prefix : List Happening) (mid : Ledger) (back : List Happening) (l' : Ledger) (hs : List Happening) → hs ≡ prefix ++ back
    → Awaits moment device key l prefix mid → Handles_one moment event outcome mid back l' → sent_by outcome l'.core device ≡ [] → None ≡ named_by true event → Awaits moment device key l hs l'
awaits_event moment device key event outcome l prefix mid back l' hs whole p it none nameless =
    let q = goes_event true moment event outcome mid back l' p.good nameless it in
    record {
      handled = p.handled ++ q.handled;
      good = q.good;
      run = handled_append l.core mid.core l'.core p.handled q.handled p.run q.run;
      timed = All-append (IsAt true moment) p.handled q.handled p.timed q.timed;
      notified = ap run_notes whole ∙ (notes_append prefix back ∙ (ap (λ (ns : List Note). ns ++ run_notes back) p.notified ∙ (ap (λ (ns : List Note). flat_map (λ (h : RunPart). h.notes) p.handled ++ ns) q.notified ∙ sym (flat_map-append (λ (h : RunPart). h.notes) p.handled q.handled))));
      only = λ other is. p.only other ((it.each other).device device is);
      due = λ counts.
          let was = (it.each key).counts device counts in
          was.1 ∙ (ap (λ (bytes : List ℕ). bytes ++ sent_by outcome l'.core device) (p.due was.0) ∙ none);
      lost_due = λ lost. lost_none (sent_by outcome l'.core) device (mid.entries key) (l'.entries key) p.lost_due p.due none ((it.each key).breaks device lost);
      came = λ other of apart counts. came_then of p.handled q.handled (l.entries other) (mid.entries other) (l'.entries other) (q.came other of counts) (p.came other of apart);
      lost = λ other of apart is. lost_then of p.handled q.handled (l.entries other) (mid.entries other) (l'.entries other) (q.lost other of is) (p.lost other of apart) (p.came other of apart);
      progresses = λ other e is client sound. progressed_then l.core mid.core other p.handled q.handled (l.entries other) (mid.entries other) e p.run (q.progresses other e is client sound) (λ d there of unbroken. p.progresses other d there of unbroken);
      stops = λ other e is client broken. stops_then l.core mid.core other p.handled q.handled (l.entries other) (mid.entries other) e p.run client (q.stops other e is client broken) (p.progresses other) (p.stops other);
      closed = it.closed ∙ p.closed;
    }

-- the device gives its name
pub awaits_named : (moment device key : ℕ) (name : List ℕ) (outcome : Outcome) (l : Ledger) (prefix : List Happening) (mid : Ledger) (back : List Happening) (l' : Ledger) (hs : List Happening) → hs ≡ prefix ++ back
    → Awaits moment device key l prefix mid → Handles_one moment (Is.Report device (report.Hello name)) outcome mid back l' → Goes true moment l hs l'
awaits_named moment device key name outcome l prefix mid back l' hs whole p it = record {
  handled = p.handled ++ last ∷ [];
  good = good_one moment (Is.Report device (report.Hello name)) outcome mid back l' p.good it;
  run = handled_append l.core mid.core l'.core p.handled (last ∷ []) p.run (it.handles, refl);
  timed = All-append (IsAt true moment) p.handled (last ∷ []) p.timed (All-cons (IsAt true moment) last [] (refl, refl) (All-nil (IsAt true moment)));
  notified = ap run_notes whole ∙ (notes_append prefix back ∙ (ap (λ (ns : List Note). ns ++ run_notes back) p.notified ∙ (ap (λ (ns : List Note). flat_map (λ (h : RunPart). h.notes) p.handled ++ ns) (sym (append-nil (run_notes back))) ∙ sym (flat_map-append (λ (h : RunPart). h.notes) p.handled (last ∷ [])))));
  came = λ other of counts. by other of counts (device == of) refl;
  lost = λ other of is. lost_at other of (device == of) refl ((it.each other).breaks of is);
  progresses = λ other e is client sound.
      progressed_then l.core mid.core other p.handled (last ∷ []) (l.entries other) (mid.entries other) e p.run (progressed_still mid.core other (last ∷ []) (mid.entries other) (l'.entries other) (it.each other).stays refl e is client sound)
      (λ d there of unbroken. p.progresses other d there of unbroken);
  stops = λ other e is client broken.
      stops_then l.core mid.core other p.handled (last ∷ []) (l.entries other) (mid.entries other) e p.run client (stops_still mid.core other (last ∷ []) (mid.entries other) (l'.entries other) (it.each other).stays refl e is client broken) (p.progresses other)
      (p.stops other);
  closed = none_closed l (p.handled ++ last ∷ []) l' (it.closed ∙ p.closed);
}
  where
    last : RunPart
    last = one_handled moment (Is.Report device (report.Hello name)) outcome back l' (Some device) None

    -- the name is this device's, or another's
    name_test : (of : ℕ) (t : Bool) (before : List ℕ) → (device == of) ≡ t → due_by of before (last ∷ []) ≡ (if t then [] else before) ++ sent_by outcome l'.core of
    name_test of t before same = ap (λ (s : Bool). (if s then [] else before) ++ sent_by outcome l'.core of) same

    is_named : (of : ℕ) → (device == of) ≡ true → has_named of (p.handled ++ last ∷ []) ≡ true
    is_named of same = named_append of p.handled (last ∷ []) ∙ or_right (has_named of p.handled) (has_named of (last ∷ [])) (or_left (device == of) false same)

    by : (other of : ℕ) → Counts of (l'.entries other) → (t : Bool) → (device == of) ≡ t → CameAs of (p.handled ++ last ∷ []) (l.entries other) (l'.entries other)
    by other of counts true same =
        let was = (it.each other).counts of counts in
        let this : Counts device (mid.entries other) = subst (λ (d : ℕ). Counts d (mid.entries other)) (sym (same_key device of same)) was.0 in
        let here : other ≡ key = p.only other (counts_device device (mid.entries other) this) in
        let none : due_at (mid.entries other) ≡ [] = subst (λ (k : ℕ). due_at (mid.entries k) ≡ []) (sym here) (p.due (subst (λ (k : ℕ). Counts device (mid.entries k)) here this)) in
        let sent : due_at (l'.entries other) ≡ sent_by outcome l'.core of = was.1 ∙ ap (λ (bytes : List ℕ). bytes ++ sent_by outcome l'.core of) none in
        inr (is_named of same, sent ∙ (sym (name_test of true (due_by of [] p.handled) same) ∙ sym (due_append of [] p.handled (last ∷ []))))
    by other of counts false same =
        let was = (it.each other).counts of counts in
        came_then of p.handled (last ∷ []) (l.entries other) (mid.entries other) (l'.entries other) (inl (was.0, was.1 ∙ sym (name_test of false (due_at (mid.entries other)) same))) (p.came other of same)

    sent_all : (of : ℕ) → (device == of) ≡ true → due_by of [] (p.handled ++ last ∷ []) ≡ sent_by outcome l'.core of
    sent_all of same = due_append of [] p.handled (last ∷ []) ∙ name_test of true (due_by of [] p.handled) same

    lost_at : (other of : ℕ) (t : Bool) → (device == of) ≡ t → BreaksAs (sent_by outcome l'.core) of (mid.entries other) (l'.entries other) → LostAs of (p.handled ++ last ∷ []) (l.entries other) (l'.entries other)
    lost_at other of false same breaks =
        lost_then of p.handled (last ∷ []) (l.entries other) (mid.entries other) (l'.entries other) (lost_by of (last ∷ []) (sent_by outcome l'.core) (mid.entries other) (l'.entries other) (name_test of false (due_at (mid.entries other)) same) breaks) (p.lost other of same) (p.came other of same)
    lost_at other of true same (inl (was, due)) =
        let this : IsLost device (mid.entries other) = subst (λ (d : ℕ). IsLost d (mid.entries other)) (sym (same_key device of same)) was in
        let here : other ≡ key = p.only other (lost_device device (mid.entries other) this) in
        let none : due_at (mid.entries other) ≡ [] = subst (λ (k : ℕ). due_at (mid.entries k) ≡ []) (sym here) (p.lost_due (subst (λ (k : ℕ). IsLost device (mid.entries k)) here this)) in
        inr (record {
          before = p.handled ++ last ∷ [];
          tail = [];
          whole = sym (append-nil (p.handled ++ last ∷ []));
          rest = sent_by outcome l'.core of;
          came = inr (is_named of same, ap (λ (bytes : List ℕ). bytes ++ sent_by outcome l'.core of) (due ∙ none) ∙ sym (sent_all of same));
        })
    lost_at other of true same (inr (counts, rest, due)) =
        let this : Counts device (mid.entries other) = subst (λ (d : ℕ). Counts d (mid.entries other)) (sym (same_key device of same)) counts in
        let here : other ≡ key = p.only other (counts_device device (mid.entries other) this) in
        let none : due_at (mid.entries other) ≡ [] = subst (λ (k : ℕ). due_at (mid.entries k) ≡ []) (sym here) (p.due (subst (λ (k : ℕ). Counts device (mid.entries k)) here this)) in
        inr (record {
          before = p.handled ++ last ∷ [];
          tail = [];
          whole = sym (append-nil (p.handled ++ last ∷ []));
          rest = rest;
          came = inr (is_named of same, due ∙ (ap (λ (bytes : List ℕ). bytes ++ sent_by outcome l'.core of) none ∙ sym (sent_all of same)));
        })

-- ---- a device that is gone is sent nothing

first_at : (classes : List PlannedClass) (place : ℕ) (start : Started) → first_of classes place ≡ Some start → start.device ≡ place
first_at [] place start is = cc
first_at (class ∷ classes) place start is = by_queue (queue_of class.priced.way place) (λ later. first_at classes place start later) is
  where
    by_queue : (jobs : List ℕ) → (first_of classes place ≡ Some start → start.device ≡ place) → or_next (first_of_queue class place jobs) (first_of classes place) ≡ Some start → start.device ≡ place
    by_queue [] later is = later is
    by_queue (job ∷ jobs) later is = cc

start_elsewhere : (state : State) (device place : ℕ) (o : Option Started) → ((start : Started) → o ≡ Some start → start.device ≡ place) → place ≢ device → flat_map (start_for device state) (option_to_list o) ≡ []
start_elsewhere state device place None at apart = refl
start_elsewhere state device place (Some start) at apart = ap (λ (t : Bool). (if t then job_bytes state start.job else []) ++ []) (not_key start.device device (λ same. apart (sym (at start refl) ∙ same)))

first_if : (t : Bool) (classes : List PlannedClass) (place : ℕ) (start : Started) → (if t then first_of classes place else None) ≡ Some start → start.device ≡ place
first_if true classes place start is = first_at classes place start is
first_if false classes place start is = cc

-- the starts of one device, and of those after it
starts_cons : (state : State) (now : ℕ) (classes : List PlannedClass) (place : ℕ) (it : Device) (devices : List Device) (device : ℕ)
    → flat_map (start_for device state) (option_to_list (if is_free now it then first_of classes place else None)) ≡ [] → flat_map (start_for device state) (starts_from now classes (suc place) devices) ≡ [] → flat_map (start_for device state) (starts_from now classes place (it ∷ devices)) ≡ []
starts_cons state now classes place it devices device head rest =
    flat_map-append (start_for device state) (option_to_list (if is_free now it then first_of classes place else None)) (starts_from now classes (suc place) devices)
    ∙ (ap (λ (bytes : List ℕ). bytes ++ flat_map (start_for device state) (starts_from now classes (suc place) devices)) head ∙ rest)

beside : (state : State) (now : ℕ) (classes : List PlannedClass) (place : ℕ) (it : Device) (device : ℕ) → place ≢ device → flat_map (start_for device state) (option_to_list (if is_free now it then first_of classes place else None)) ≡ []
beside state now classes place it device apart = start_elsewhere state device place (if is_free now it then first_of classes place else None) (first_if (is_free now it) classes place) apart

beyond : (state : State) (now : ℕ) (classes : List PlannedClass) (place : ℕ) (devices : List Device) (device : ℕ) → device < place → flat_map (start_for device state) (starts_from now classes place devices) ≡ []
beyond state now classes place [] device less = refl
beyond state now classes place (it ∷ devices) device less =
    starts_cons state now classes place it devices device (beside state now classes place it device (λ same. omega (arith, less, same))) (beyond state now classes (suc place) devices device (omega (arith, less)))

-- no job begins on a device that isn't free
none_begins : (state : State) (now : ℕ) (classes : List PlannedClass) (change : Device → Device) → ((it : Device) → is_free now (change it) ≡ false) → (place device at : ℕ) (devices : List Device) → at ≡ place + device
    → flat_map (start_for at state) (starts_from now classes place (with_device device change devices)) ≡ []
none_begins state now classes change never place zero at [] is = refl
none_begins state now classes change never place (suc device) at [] is = refl
none_begins state now classes change never place zero at (it ∷ devices) is =
    starts_cons state now classes place (change it) devices at (ap (λ (t : Bool). flat_map (start_for at state) (option_to_list (if t then first_of classes place else None))) (never it)) (beyond state now classes (suc place) devices at (omega (arith, is)))
none_begins state now classes change never place (suc device) at (it ∷ devices) is =
    starts_cons state now classes place it (with_device device change devices) at (beside state now classes place it at (λ same. omega (arith, is, same))) (none_begins state now classes change never (suc place) device at devices (omega (arith, is)))

-- nor at a place that no device has
none_there : (state : State) (now : ℕ) (classes : List PlannedClass) (place device at : ℕ) (devices : List Device) → at ≡ place + device → slice_get devices device ≡ None → flat_map (start_for at state) (starts_from now classes place devices) ≡ []
none_there state now classes place device at [] is none = refl
none_there state now classes place zero at (it ∷ devices) is none = cc
none_there state now classes place (suc device) at (it ∷ devices) is none =
    starts_cons state now classes place it devices at (beside state now classes place it at (λ same. omega (arith, is, same))) (none_there state now classes (suc place) device at devices (omega (arith, is)) none)

gone_never_free : (now later : ℕ) (activity : Activity) (it : Device) → is_free later (refitted now report.Gone (stopped_at now (idle activity)) it) ≡ false
gone_never_free now later (Running printing) it = refl
gone_never_free now later (Stopped interrupted) it = refl

gone_begins : (state : State) (now later device : ℕ) (classes : List PlannedClass) (old mid : State) (documents : List DocumentRecord) → Reports now device report.Gone old documents mid → flat_map (start_for device state) (starts_from later classes 0 mid.devices) ≡ []
gone_begins state now later device classes old mid documents is = by (slice_get old.devices device) refl is
  where
    by : (o : Option Device) → slice_get old.devices device ≡ o
        → MatchOption o ((mid ≡ record old { last = now }) × (documents ≡ [])) (λ it. (mid ≡ state_after now device report.Gone it old) × (documents ≡ documents_out (job_on it.activity) (change_by report.Gone it.activity) old.spool.jobs))
        → flat_map (start_for device state) (starts_from later classes 0 mid.devices) ≡ []
    by None there same = subst (λ (devices : List Device). flat_map (start_for device state) (starts_from later classes 0 devices) ≡ []) (sym (ap (λ (s : State). s.devices) same.0)) (none_there state later classes 0 device device old.devices (omega arith) there)
    by (Some it) there same =
        subst (λ (devices : List Device). flat_map (start_for device state) (starts_from later classes 0 devices) ≡ []) (sym (ap (λ (s : State). s.devices) same.0))
        (none_begins state later classes (refitted now report.Gone (stopped_at now (idle it.activity))) (gone_never_free now later it.activity) 0 device device old.devices (omega arith))

no_cancel : (device : ℕ) (cancels : List Cancel) (starts : List Started) (state : State) → cancels ≡ [] → flat_map (start_for device state) starts ≡ [] → flat_map (cancel_for device) cancels ++ flat_map (start_for device state) starts ≡ []
no_cancel device cancels starts state none begins = ap (λ (xs : List Cancel). flat_map (cancel_for device) xs ++ flat_map (start_for device state) starts) none ∙ begins

gone_starts_none : (moment now device : ℕ) (query : Bool) (old mid : State) (documents : List DocumentRecord) (made : Dispatch) (notes : List Note) (new : State) → Reports (max moment old.last) device report.Gone old documents mid → Follows query now mid made notes new → flat_map (start_for device new) (began_by made new) ≡ []
gone_starts_none moment now device query old mid documents dispatch.Query notes new gone it = refl
gone_starts_none moment now device query old mid documents dispatch.OutOfMemory notes new gone it = refl
gone_starts_none moment now device query old mid documents dispatch.Idle notes new gone it = refl
gone_starts_none moment now device query old mid documents dispatch.Planned notes new gone (is, plan, made, one) =
    subst (λ (starts : List Started). flat_map (start_for device new) starts ≡ []) (sym made.2) (gone_begins new (max moment old.last) now device plan.classes old mid documents gone)

pub gone_sends_none : (moment device : ℕ) (old : State) (outcome : Outcome) (notes : List Note) (new : State) → Handles moment (Is.Report device report.Gone) old outcome notes new → sent_by outcome new device ≡ []
gone_sends_none moment device old (Some handled) notes new it =
    no_cancel device handled.effects.cancels.items (began_by handled.dispatch new) new it.step.cancels
    (gone_starts_none moment _ device _ old it.mid handled.effects.documents.items handled.dispatch it.later new it.step.reports it.follows)
gone_sends_none moment device old None notes new it = refl
