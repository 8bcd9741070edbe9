-- The notes after those of an event: they notify of memory that was refused, and are no notes of the core.
use Rattle.std.proofs.Common.{◌≡◌, ℕ, Bool, true, false, List, [], ◌∷◌, ◌++◌, refl, sym, ◌∙◌, ap, subst, Option, Some, None, inl, inr}
use Rattle.std.specs.Prelude.{◌||◌, map}
use Rattle.std.proofs.lemmas.List.{append-nil, append_assoc}
use Rattle.std.proofs.lemmas.List.Concat.{flat_map-append}
use Rattle.device_link.specs.Orders.{cancel_line}
use Rattle.print_room.specs.declared.started.Started.{Started}
use Rattle.print_room.specs.State.{State}
use Rattle.events.specs.declared.event.Event.{Event}
use Rattle.events.specs.declared.effects.Effects.{Effects}
use Rattle.events.specs.declared.effects.Cancel.{Cancel}
use Rattle.events.specs.Event.{is_query}
use Rattle.dispatcher.specs.declared.handled.Handled.{Handled}
use Rattle.dispatcher.specs.declared.handled.Dispatch.{Dispatch}
use Rattle.dispatcher.specs.declared.handled.Dispatch.TheVariants as dispatch
use Rattle.dispatcher.specs.declared.observer.AllocationSite.{AllocationSite}
use Rattle.dispatcher.specs.declared.observer.AllocationSite.TheVariants as At
use Rattle.dispatcher.specs.Notes.{Note, Planned, Canceled, DeviceRefused, Refused}
use Rattle.dispatcher.specs.Following.{Follows}
use Rattle.dispatcher.specs.Run.{Outcome, effects_of, cancel_notes, Handles}
use Rattle.dispatcher.specs.Step.{TakesNoMemory}
use Rattle.server.specs.Polls.{Happening, Polled, Notified, Choice, Found, Chosen, seen}
use Rattle.server.specs.Ledger.{Ledger, with_entry, job_bytes}
use Rattle.server.specs.Rel.{Rel, Nothing, Notifies, Chooses, Then, If, Or, EachOf}
use Rattle.server.specs.Enqueuing.{Sets, BreaksAt, Breaks, Drops, EnqueuesOpen, EnqueuesAt, EnqueuesWhere, Enqueues, EnqueuesOn}
use Rattle.server.specs.Happening.{was_refused, found_by, Sends, SendsAll, Starts, StartsAll, StartsBy, Orders, Happens}
use Rattle.server.specs.Turn.{has_refusal}
use Rattle.server.specs.Law.{refusal_note, core_note, core_notes, IsWhole}
use Rattle.server.proofs.Steps.{refusals_append, right_false, seen_append}
use Rattle.server.proofs.DeviceOrders.{found_unseen, notes_seen, refused_of}
use Rattle.connections.specs.Entry.{Entry, broken, owing, needs_memory}

-- ---- the notes

pub notes_append : (hs ks : List Happening) → core_notes (hs ++ ks) ≡ core_notes hs ++ core_notes ks
notes_append hs ks = flat_map-append core_note hs ks

pub never : {A : Type 0} → (refused : Bool) → refused ≡ true → refused ≡ false → A
never refused is none = let same : true ≡ false = sym is ∙ none in absurd (cc)

pub no_refusal_notified : {A : Type 0} → (hs : List Happening) (place : AllocationSite) (id : Option ℕ) → has_refusal hs ≡ false → hs ≡ Notified (Refused place id) ∷ [] → A
no_refusal_notified hs place id none is = never (has_refusal hs) (ap has_refusal is) none

left_false : (x y : Bool) → x || y ≡ false → x ≡ false
left_false true y is = is
left_false false y is = refl

-- if no memory was refused in all happenings, none was refused in a part of them
pub none_before : (hs prefix back : List Happening) → hs ≡ prefix ++ back → has_refusal hs ≡ false → has_refusal prefix ≡ false
none_before hs prefix back whole none = left_false (has_refusal prefix) (has_refusal back) (sym (ap has_refusal whole ∙ refusals_append prefix back) ∙ none)

pub none_after : (hs prefix back : List Happening) → hs ≡ prefix ++ back → has_refusal hs ≡ false → has_refusal back ≡ false
none_after hs prefix back whole none = right_false (has_refusal prefix) (has_refusal back) (sym (ap has_refusal whole ∙ refusals_append prefix back) ∙ none)

-- the memory that was refused wasn't for a dispatch of the core
abbrev pub IsOther : AllocationSite → Option ℕ → Type 0
IsOther place id = refusal_note place id ≡ []

-- the happenings are notes of such memory, and choices
abbrev pub OnlyRefusals : List Happening → Type 0
OnlyRefusals [] = Unit {0}
OnlyRefusals (Notified (Planned plan started) ∷ hs) = ⊥
OnlyRefusals (Notified (Canceled cancel) ∷ hs) = ⊥
OnlyRefusals (Notified (DeviceRefused id why) ∷ hs) = ⊥
OnlyRefusals (Notified (Refused place id) ∷ hs) = IsOther place id × OnlyRefusals hs
OnlyRefusals (Polled poll ∷ hs) = ⊥
OnlyRefusals (Chosen choice ∷ hs) = OnlyRefusals hs

only_append : (hs ks : List Happening) → OnlyRefusals hs → OnlyRefusals ks → OnlyRefusals (hs ++ ks)
only_append [] ks p q = q
only_append (Notified (Planned plan started) ∷ hs) ks p q = absurd p
only_append (Notified (Canceled cancel) ∷ hs) ks p q = absurd p
only_append (Notified (DeviceRefused id why) ∷ hs) ks p q = absurd p
only_append (Notified (Refused place id) ∷ hs) ks p q = (p.0, only_append hs ks p.1 q)
only_append (Polled poll ∷ hs) ks p q = absurd p
only_append (Chosen choice ∷ hs) ks p q = only_append hs ks p q

-- these happenings have no note of the core
pub only_notes : (hs : List Happening) → OnlyRefusals hs → core_notes hs ≡ []
only_notes [] p = refl
only_notes (Notified (Planned plan started) ∷ hs) p = absurd p
only_notes (Notified (Canceled cancel) ∷ hs) p = absurd p
only_notes (Notified (DeviceRefused id why) ∷ hs) p = absurd p
only_notes (Notified (Refused place id) ∷ hs) p = ap (λ (ns : List Note). ns ++ core_notes hs) p.0 ∙ only_notes hs p.1
only_notes (Polled poll ∷ hs) p = absurd p
only_notes (Chosen choice ∷ hs) p = only_notes hs p

-- if no memory was refused, a wire and an observer see none of these happenings
only_none : (hs : List Happening) → OnlyRefusals hs → has_refusal hs ≡ false → seen hs ≡ []
only_none [] p none = refl
only_none (Notified (Planned plan started) ∷ hs) p none = absurd p
only_none (Notified (Canceled cancel) ∷ hs) p none = absurd p
only_none (Notified (DeviceRefused id why) ∷ hs) p none = absurd p
only_none (Notified (Refused place id) ∷ hs) p none = let both : true ≡ false = none in absurd (cc)
only_none (Polled poll ∷ hs) p none = absurd p
only_none (Chosen choice ∷ hs) p none = only_none hs p none

-- ---- relations that leave the core unchanged

-- the core and the closed connections are unchanged, and the notes notify only of memory that was refused
pub record Calm (l : Ledger) (hs : List Happening) (l' : Ledger) : Type 0 where
  pub core : l'.core ≡ l.core
  pub closed : l'.closed ≡ l.closed
  pub only : OnlyRefusals hs

abbrev pub Calmly : Rel → Type 0
Calmly R = (l : Ledger) (hs : List Happening) (l' : Ledger) → R l hs l' → Calm l hs l'

pub calm_by : (ks : List Happening) (m l : Ledger) (hs : List Happening) (l' : Ledger) → OnlyRefusals ks → m.core ≡ l.core → m.closed ≡ l.closed → (hs ≡ ks) × (l' ≡ m) → Calm l hs l'
calm_by ks m l hs l' only core closed (is, after) = record {
  core = ap (λ (x : Ledger). x.core) after ∙ core;
  closed = ap (λ (x : Ledger). x.closed) after ∙ closed;
  only = subst OnlyRefusals (sym is) only;
}

pub calm_nothing : Calmly Nothing
calm_nothing l hs l' it = calm_by [] l l hs l' tt refl refl it

pub calm_then : {R S : Rel} → Calmly R → Calmly S → Calmly (Then R S)
calm_then {R} {S} f g l hs l' it =
    let p = f l it.prefix it.mid it.first in
    let q = g it.mid it.back l' it.second in
    record { core = q.core ∙ p.core; closed = q.closed ∙ p.closed; only = subst OnlyRefusals (sym it.whole) (only_append it.prefix it.back p.only q.only) }

pub calm_or : {R S : Rel} → Calmly R → Calmly S → Calmly (Or R S)
calm_or f g l hs l' (inl it) = f l hs l' it
calm_or f g l hs l' (inr it) = g l hs l' it

pub calm_if : (test : Bool) (R S : Rel) → Calmly R → Calmly S → Calmly (If test R S)
calm_if true R S f g l hs l' it = f l hs l' it
calm_if false R S f g l hs l' it = g l hs l' it

pub calm_refusal : (place : AllocationSite) (id : Option ℕ) → IsOther place id → Calmly (Notifies (Refused place id))
calm_refusal place id other l hs l' it = calm_by (Notified (Refused place id) ∷ []) l l hs l' (other, tt) refl refl it

pub calm_choice : (choice : Choice) → Calmly (Chooses choice)
calm_choice choice l hs l' it = calm_by (Chosen choice ∷ []) l l hs l' tt refl refl it

pub calm_sets : (key : ℕ) (e : Entry) → Calmly (Sets key e)
calm_sets key e l hs l' it = calm_by [] (with_entry key e l) l hs l' tt refl refl it

pub calm_drops : (place : AllocationSite) (key : ℕ) (e : Entry) → IsOther place (Some e.id) → Calmly (Drops place key e)
calm_drops place key e other l hs l' it = calm_by (Notified (Refused place (Some e.id)) ∷ []) (with_entry key (broken e) l) l hs l' (other, tt) refl refl it

breaks_at : (key : ℕ) (o : Option Entry) → Calmly (BreaksAt key o)
breaks_at key None = calm_nothing
breaks_at key (Some e) = calm_sets key (broken e)

pub calm_breaks : (key : ℕ) → Calmly (Breaks key)
calm_breaks key l hs l' it = breaks_at key (l.entries key) l hs l' it

enqueues_open : (grows : Bool) (key : ℕ) (bytes : List ℕ) (e : Entry) → Calmly (EnqueuesOpen grows key bytes e)
enqueues_open grows key bytes e =
    calm_if grows (Or (Then (Chooses Found) (Sets key (owing bytes e))) (Drops At.Enqueue key e)) (Sets key (owing bytes e))
    (calm_or (calm_then (calm_choice Found) (calm_sets key (owing bytes e))) (calm_drops At.Enqueue key e refl)) (calm_sets key (owing bytes e))

enqueues_at : (grows : Entry → Bool) (key : ℕ) (bytes : List ℕ) (o : Option Entry) → Calmly (EnqueuesAt grows key bytes o)
enqueues_at grows key bytes None = calm_nothing
enqueues_at grows key bytes (Some e) = calm_if e.broken Nothing (EnqueuesOpen (grows e) key bytes e) calm_nothing (enqueues_open (grows e) key bytes e)

calm_where : (grows : Entry → Bool) (key : ℕ) (bytes : List ℕ) → Calmly (EnqueuesWhere grows key bytes)
calm_where grows key bytes l hs l' it = enqueues_at grows key bytes (l.entries key) l hs l' it

pub calm_enqueues : (key : ℕ) (bytes : List ℕ) → Calmly (Enqueues key bytes)
calm_enqueues key bytes = calm_where (needs_memory bytes) key bytes

pub calm_enqueues_on : (grows : Entry → Bool) (device : ℕ) (bytes : List ℕ) → Calmly (EnqueuesOn grows device bytes)
calm_enqueues_on grows device bytes l hs l' (inl (key, is, it)) = calm_where grows key bytes l hs l' it
calm_enqueues_on grows device bytes l hs l' (inr (none, it)) = calm_nothing l hs l' it

-- ---- an event

each_sent : (cancels : List Cancel) → Calmly (EachOf cancels Sends)
each_sent [] = calm_nothing
each_sent (cancel ∷ cancels) = calm_then (calm_enqueues_on (needs_memory (cancel_line cancel.job)) cancel.device (cancel_line cancel.job)) (each_sent cancels)

starts : (start : Started) → Calmly (Starts start)
starts start l hs l' it = calm_enqueues_on (λ e. true) start.device (job_bytes l.core start.job) l hs l' it

each_started : (started : List Started) → Calmly (EachOf started Starts)
each_started [] = calm_nothing
each_started (start ∷ started) = calm_then (starts start) (each_started started)

all_started : Calmly StartsAll
all_started l hs l' it = each_started l.core.begun l hs l' it

calm_starts : (made : Dispatch) → Calmly (StartsBy made)
calm_starts dispatch.Query = calm_nothing
calm_starts dispatch.OutOfMemory = calm_nothing
calm_starts dispatch.Idle = calm_nothing
calm_starts dispatch.Planned = all_started

calm_orders : (outcome : Outcome) → Calmly (Orders outcome)
calm_orders (Some handled) = calm_then {R = SendsAll handled.effects} {S = StartsBy handled.dispatch} (each_sent handled.effects.cancels.items) (calm_starts handled.dispatch)
calm_orders None = calm_nothing

-- the notes of an event are notes of the core
notified_last : (cancels : List Cancel) (last : List Note) → core_notes (map Notified last) ≡ last → core_notes (map Notified (map Canceled cancels ++ last)) ≡ map Canceled cancels ++ last
notified_last [] last is = is
notified_last (cancel ∷ cancels) last is = ap (λ (ns : List Note). Canceled cancel ∷ ns) (notified_last cancels last is)

notified_by : (notes : List Note) (reply : Effects) (last : List Note) → notes ≡ cancel_notes reply ++ last → core_notes (map Notified last) ≡ last → core_notes (map Notified notes) ≡ notes
notified_by notes reply last is notified = subst (λ (ns : List Note). core_notes (map Notified ns) ≡ ns) (sym is) (notified_last reply.cancels.items last notified)

follows_back : (query : Bool) (now : ℕ) (old : State) (made : Dispatch) (notes : List Note) (new : State) → Follows query now old made notes new → core_notes (map Notified notes) ≡ notes
follows_back query now old dispatch.Query notes new (is, same, none) = subst (λ (ns : List Note). core_notes (map Notified ns) ≡ ns) (sym none) refl
follows_back query now old dispatch.OutOfMemory notes new (is, ready, same, one) = subst (λ (ns : List Note). core_notes (map Notified ns) ≡ ns) (sym one) refl
follows_back query now old dispatch.Idle notes new (is, made, one) = subst (λ (ns : List Note). core_notes (map Notified ns) ≡ ns) (sym one) refl
follows_back query now old dispatch.Planned notes new (is, plan, made, one) = subst (λ (ns : List Note). core_notes (map Notified ns) ≡ ns) (sym one) refl

notified_back : (moment : ℕ) (event : Event) (old : State) (outcome : Outcome) (notes : List Note) (new : State) → Handles moment event old outcome notes new → core_notes (map Notified notes) ≡ notes
notified_back moment event old (Some handled) notes new it = notified_by notes handled.effects it.later it.notes_are (follows_back (is_query event) _ it.mid handled.dispatch it.later new it.follows)
notified_back moment event old None notes new (same, none, heavy) = subst (λ (ns : List Note). core_notes (map Notified ns) ≡ ns) (sym none) refl

-- an event came; its notes come first, and later notes notify only of memory that was refused
pub record Happened (moment : ℕ) (event : Event) (outcome : Outcome) (l : Ledger) (hs : List Happening) (l' : Ledger) : Type 0 where
  pub notes : List Note
  pub later : List Happening
  pub handled : Handles moment event l.core outcome notes l'.core
  pub closed : l'.closed ≡ l.closed
  pub whole : hs ≡ found_by outcome ++ (map Notified notes ++ later)
  pub only : OnlyRefusals later

-- the choice that memory was found is no note of the core
found_notes : (outcome : Outcome) (hs : List Happening) → core_notes (found_by outcome ++ hs) ≡ core_notes hs
found_notes (Some handled) hs = refl
found_notes None hs = refl

-- the notes of the event are all notes of the core
pub happened_notes : (moment : ℕ) (event : Event) (outcome : Outcome) (l : Ledger) (hs : List Happening) (l' : Ledger) (it : Happened moment event outcome l hs l') → core_notes hs ≡ it.notes
happened_notes moment event outcome l hs l' it =
    ap core_notes it.whole ∙ (found_notes outcome (map Notified it.notes ++ it.later) ∙ (notes_append (map Notified it.notes) it.later
    ∙ (ap (λ (ns : List Note). core_notes (map Notified it.notes) ++ ns) (only_notes it.later it.only)
    ∙ (append-nil (core_notes (map Notified it.notes)) ∙ notified_back moment event l.core outcome it.notes l'.core it.handled))))

-- if no memory was refused, a wire and an observer see the notes of the event, and nothing else
pub happened_whole : (moment : ℕ) (event : Event) (outcome : Outcome) (l : Ledger) (hs : List Happening) (l' : Ledger) (it : Happened moment event outcome l hs l') → has_refusal hs ≡ false → seen hs ≡ map Notified it.notes
happened_whole moment event outcome l hs l' it none =
    let rest : has_refusal (map Notified it.notes ++ it.later) ≡ false = none_after hs (found_by outcome) (map Notified it.notes ++ it.later) it.whole none in
    let silent : seen it.later ≡ [] = only_none it.later it.only (none_after (map Notified it.notes ++ it.later) (map Notified it.notes) it.later refl rest) in
    ap seen it.whole ∙ (found_unseen outcome (map Notified it.notes ++ it.later) ∙ (seen_append (map Notified it.notes) it.later
    ∙ (ap (λ (ks : List Happening). ks ++ seen it.later) (notes_seen it.notes) ∙ (ap (λ (ks : List Happening). map Notified it.notes ++ ks) silent ∙ append-nil (map Notified it.notes)))))

pub happened : (moment : ℕ) (event : Event) (outcome : Outcome) (l : Ledger) (hs : List Happening) (l' : Ledger) → Happens moment event outcome l hs l' → Happened moment event outcome l hs l'
happened moment event outcome l hs l' it =
    let made = it.first in
    let rest = calm_orders outcome it.mid it.back l' it.second in
    let core : l'.core ≡ made.state = rest.core ∙ ap (λ (x : Ledger). x.core) made.after in
    record {
      notes = made.notes;
      later = it.back;
      handled = subst (λ (s : State). Handles moment event l.core outcome made.notes s) (sym core) made.handles;
      closed = rest.closed ∙ ap (λ (x : Ledger). x.closed) made.after;
      whole = it.whole ∙ (ap (λ (ks : List Happening). ks ++ it.back) made.notified ∙ append_assoc (found_by outcome) (map Notified made.notes) it.back);
      only = rest.only;
    }

-- an event came, and then its reply became due
pub happened_then : (moment : ℕ) (event : Event) (outcome : Outcome) (Q : Rel) → Calmly Q → (l : Ledger) (hs : List Happening) (l' : Ledger) → Then (Happens moment event outcome) Q l hs l' → Happened moment event outcome l hs l'
happened_then moment event outcome Q calm l hs l' it =
    let one = happened moment event outcome l it.prefix it.mid it.first in
    let rest = calm it.mid it.back l' it.second in
    record {
      notes = one.notes;
      later = one.later ++ it.back;
      handled = subst (λ (s : State). Handles moment event l.core outcome one.notes s) (sym rest.core) one.handled;
      closed = rest.closed ∙ one.closed;
      whole = it.whole ∙ (ap (λ (ks : List Happening). ks ++ it.back) one.whole ∙ (append_assoc (found_by outcome) (map Notified one.notes ++ one.later) it.back
          ∙ ap (λ (ks : List Happening). found_by outcome ++ ks) (append_assoc (map Notified one.notes) one.later it.back)));
      only = only_append one.later it.back one.only rest.only;
    }

-- ---- happenings without refused memory

-- the dispatch of an event wasn't refused memory
dispatched : (moment : ℕ) (event : Event) (handled : Handled) (l : Ledger) (hs : List Happening) (l' : Ledger) → Happened moment event (Some handled) l hs l' → has_refusal hs ≡ false → was_refused handled.dispatch ≡ false
dispatched moment event handled l hs l' it none =
    sym (refused_of moment event l.core (Some handled) it.notes l'.core it.handled)
    ∙ none_before (map Notified it.notes ++ it.later) (map Notified it.notes) it.later refl (none_after hs (found_by (Some handled)) (map Notified it.notes ++ it.later) it.whole none)

-- if no memory was refused, an event that takes no memory wasn't dropped
pub whole_light : (moment : ℕ) (event : Event) (outcome : Outcome) (l : Ledger) (hs : List Happening) (l' : Ledger) → Happened moment event outcome l hs l' → TakesNoMemory event moment l.core → has_refusal hs ≡ false → IsWhole outcome
whole_light moment event (Some handled) l hs l' it light none = dispatched moment event handled l hs l' it none
whole_light moment event None l hs l' it light none = it.handled.2 light

-- if no memory was refused, an event wasn't dropped whose caller notifies of a drop
pub whole_notified : (moment : ℕ) (event : Event) (outcome : Outcome) (Q : Option Effects → Rel) → ((l : Ledger) (hs : List Happening) (l' : Ledger) → Q None l hs l' → has_refusal hs ≡ true)
    → (l : Ledger) (hs : List Happening) (l' : Ledger) → Then (Happens moment event outcome) (Q (effects_of outcome)) l hs l' → Happened moment event outcome l hs l' → has_refusal hs ≡ false → IsWhole outcome
whole_notified moment event (Some handled) Q notified l hs l' it done none = dispatched moment event handled l hs l' done none
whole_notified moment event None Q notified l hs l' it done none = never (has_refusal it.back) (notified it.mid it.back l' it.second) (none_after hs it.prefix it.back it.whole none)
