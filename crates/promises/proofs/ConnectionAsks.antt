-- The asks of a connection come about.
use Rattle.std.proofs.Common.{◌≡◌, ◌≢◌, ℕ, Bool, true, false, List, [], ◌∷◌, ◌++◌, refl, sym, ◌∙◌, ap, subst, append-nil, Option, Some, None, ◌⊎◌, inl, inr}
use Rattle.std.specs.Prelude.{◌==◌, ◌||◌, if◌then◌else◌}
use Rattle.std.specs.List.{flat_map}
use Rattle.std.proofs.lemmas.List.Elements.{All-cons, All-nil}
use Rattle.settings_file.specs.Settings.{ServerSettings}
use Rattle.print_room.specs.State.{State}
use Rattle.events.specs.declared.event.Event.{Event}
use Rattle.events.specs.declared.event.Event.TheVariants as Is
use Rattle.events.specs.Event.{is_query}
use Rattle.dispatcher.specs.declared.observer.AllocationSite.{AllocationSite}
use Rattle.dispatcher.specs.declared.observer.AllocationSite.TheVariants as At
use Rattle.dispatcher.specs.Notes.{Note, Refused}
use Rattle.dispatcher.specs.Run.{effects_of}
use Rattle.connections.specs.declared.ask.Ask.{Ask}
use Rattle.connections.specs.declared.ask.Ask.TheVariants as ask
use Rattle.connections.specs.declared.ask.Client.{Client}
use Rattle.connections.specs.declared.ask.Client.TheVariants as client
use Rattle.connections.specs.declared.ask.AllocFailure.TheVariants as growth
use Rattle.connections.specs.declared.step.Step.{Step}
use Rattle.connections.specs.declared.step.Step.TheVariants as step
use Rattle.connections.specs.Steps.{no_memory, due_bytes}
use Rattle.connections.specs.Entry.{PeerRecord, Http, Queue, Link, Entry, closes_of}
use Rattle.connections.specs.Asking.{ItemComes, StepsTo}
use Rattle.server.specs.Polls.{Happening, Rested}
use Rattle.server.specs.Ledger.{Ledger}
use Rattle.server.specs.Rel.{Nothing, Notifies, Chooses, Many}
use Rattle.server.specs.Enqueuing.{IsDevice}
use Rattle.server.specs.Closing.{ClosesBroken}
use Rattle.server.specs.Answering as Ans
use Rattle.server.specs.Acting.{place_of, place_of_part, Asks, ActsOn, ActsNext}
use Rattle.server.specs.Polling.{Acts, Serves}
use Rattle.promises.specs.Orders.{MemoryRefused, RunPart, AreHandled, named_by, IsAt, AreAt, run_notes, due_by}
use Rattle.promises.proofs.AnswerKinds.{EventOf, typed}
use Rattle.promises.specs.Answers.{Act, ClientTalk, drains, IsPrefixOf, IsNext, IsOwed, IsStateOf, asked_by, IsLast, BrokeAfter, IsOneAtMost}
use Rattle.promises.proofs.SentToDevices.{Counts, due_at, FreshTalk, IsFresh, IsClient, same_key, other_key, is_key, Ordered, notes_append, calm_sets, Good, one_entry, not_key, client_none, client_fresh, no_true, counts_device, ordered_then, sent_by, IsLost, lost_device, breaks_same, ReadsOn, reads_still, reads_then}
use Rattle.promises.proofs.HandledEvents.{happened, CameAs, Goes, goes_then, goes_calm, TalkedAs, Went, progressed_still, one_handled, none_closed, LostAs, lost_by, StopsAs, stops_still, acts_on}
use Rattle.promises.proofs.DueToClients.{calms_chooses, Gave, gave_still, gives_nothing, at_aside, at_here, Just_these, Loose, notified_of, refusal_at, one_refusal, given, No_memory, gives_dropped, gives_declines, gives_answers}
use Rattle.promises.proofs.EventsOfTurns.{Moves, moves_calm, moves_then, moves_many, moves_closes_broken}
use Rattle.promises.proofs.StreamSteps.{IsClientAsk, silent_run, notifies_part, device_does, IsClientStep, client_keeps, DeviceAsks, device_keeps}
use Rattle.promises.proofs.DeviceNames.{Just, greets}

-- ---- the asks come about

pub not_draining : (draining is : Bool) → (draining || is) ≡ false → draining ≡ false
not_draining true is none = none
not_draining false is none = refl

pub not_broken : (draining is : Bool) → (draining || is) ≡ false → is ≡ false
not_broken true is none = cc
not_broken false is none = none

-- if the connection broke, none of the step's bytes are due, or all of them
abbrev pub HaltsAs : Step → Entry → List ℕ → List RunPart → Entry → Type 0
HaltsAs comes new base asked e = (e.due ≡ base) ⊎ ((bytes : List ℕ) × IsOwed new.id (closes_of new.progress) comes asked bytes × (e.due ≡ base ++ bytes))

-- the result of a client's step: the events that the core handled, and the bytes that are due by the step after the earlier bytes
pub record Acted (moment key : ℕ) (comes : Step) (new : Entry) (base : List ℕ) (l : Ledger) (hs : List Happening) (l' : Ledger) : Type 0 where
  pub handled : List RunPart
  pub sent : ℕ → List ℕ
  pub run : AreHandled l.core handled l'.core
  pub timed : AreAt true moment handled
  pub notified : run_notes hs ≡ flat_map (λ (it : RunPart). it.notes) handled
  pub sends : (device : ℕ) (before : List ℕ) → due_by device before handled ≡ before ++ sent device
  pub others : (k : ℕ) → k ≢ key → Ordered sent (l.entries k) (l'.entries k)
  pub aside : (k : ℕ) → k ≢ key → asked_by k handled ≡ []
  pub one : IsOneAtMost (asked_by key handled)
  pub client : IsClient (l'.entries key)
  pub closed : l'.closed ≡ l.closed
  pub here : (e : Entry) → l'.entries key ≡ Some e → ClientTalk e.progress → e.broken ≡ false → (e.progress ≡ new.progress) × ((bytes : List ℕ) × IsOwed new.id (closes_of new.progress) comes (asked_by key handled) bytes × (e.due ≡ base ++ bytes)) × ReadsOn new e
  pub halts : (e : Entry) → l'.entries key ≡ Some e → ClientTalk e.progress → e.broken ≡ true → (e.progress ≡ new.progress) × HaltsAs comes new base (asked_by key handled) e × ReadsOn new e

halts_due : (comes : Step) (new d e : Entry) (base : List ℕ) (asked : List RunPart) → d.due ≡ e.due → HaltsAs comes new base asked d → HaltsAs comes new base asked e
halts_due comes new d e base asked same (inl is) = inl (sym same ∙ is)
halts_due comes new d e base asked same (inr (bytes, owed, is)) = inr (bytes, owed, sym same ∙ is)

-- the core handles no event, and memory may be refused
pub refusal_run : (moment id key : ℕ) (lost : Option AllocationSite) (old new : State) → new ≡ old → AreHandled old (refusal_at moment id key new lost) new
refusal_run moment id key None old new same = same
refusal_run moment id key (Some place) old new same = ((refl, same), refl)

pub refusal_timed : (moment id key : ℕ) (lost : Option AllocationSite) (core : State) → AreAt true moment (refusal_at moment id key core lost)
refusal_timed moment id key None core = All-nil (IsAt true moment)
refusal_timed moment id key (Some place) core =
    All-cons (IsAt true moment) (record { moment = moment; what = MemoryRefused place (Some id); notes = Refused place (Some id) ∷ []; state = core; named = None; asked = Some key }) [] (refl, refl) (All-nil (IsAt true moment))

pub refusal_notified : (moment id key : ℕ) (lost : Option AllocationSite) (core : State) → notified_of id lost ≡ flat_map (λ (it : RunPart). it.notes) (refusal_at moment id key core lost)
refusal_notified moment id key None core = refl
refusal_notified moment id key (Some place) core = refl

pub refusal_sends : (moment id key : ℕ) (lost : Option AllocationSite) (core : State) (device : ℕ) (before : List ℕ) → due_by device before (refusal_at moment id key core lost) ≡ before
refusal_sends moment id key None core device before = refl
refusal_sends moment id key (Some place) core device before = append-nil before

pub refusal_aside : (moment id key : ℕ) (lost : Option AllocationSite) (core : State) (k : ℕ) → k ≢ key → asked_by k (refusal_at moment id key core lost) ≡ []
refusal_aside moment id key None core k apart = refl
refusal_aside moment id key (Some place) core k apart = ap (λ (t : Bool). (if t then refusal_at moment id key core (Some place) else []) ++ []) (not_key key k (λ same. apart (sym same)))

pub refusal_asked : (moment id key : ℕ) (lost : Option AllocationSite) (core : State) → asked_by key (refusal_at moment id key core lost) ≡ refusal_at moment id key core lost
refusal_asked moment id key None core = refl
refusal_asked moment id key (Some place) core = ap (λ (t : Bool). (if t then refusal_at moment id key core (Some place) else []) ++ []) (is_key key)

pub refusal_few : (moment id key : ℕ) (lost : Option AllocationSite) (core : State) → IsOneAtMost (refusal_at moment id key core lost)
refusal_few moment id key None core = tt
refusal_few moment id key (Some place) core = tt

pub acted_calm : (moment key : ℕ) (lost : Option AllocationSite) (comes : Step) (new : Entry) (base : List ℕ) (Q : Bool → List ℕ → Type 0) (l : Ledger) (hs : List Happening) (l' : Ledger) → l.entries key ≡ Some new → ClientTalk new.progress
    → ((bytes : List ℕ) → new.broken ≡ false → Q (closes_of new.progress) bytes → (given : List ℕ) × IsOwed new.id (closes_of new.progress) comes (refusal_at moment new.id key l'.core lost) given × (new.due ++ bytes ≡ base ++ given)) → HaltsAs comes new base (refusal_at moment new.id key l'.core lost) new
    → Gave (notified_of new.id lost) key Q l hs l' → Acted moment key comes new base l hs l'
acted_calm moment key lost comes new base Q l hs l' there client owed halted g = record {
  handled = refusal_at moment new.id key l'.core lost;
  sent = λ device. [];
  run = refusal_run moment new.id key lost l.core l'.core g.core;
  timed = refusal_timed moment new.id key lost l'.core;
  notified = g.notes ∙ refusal_notified moment new.id key lost l'.core;
  sends = λ device before. refusal_sends moment new.id key lost l'.core device before ∙ sym (append-nil before);
  others = g.others;
  aside = refusal_aside moment new.id key lost l'.core;
  one = subst IsOneAtMost (sym (refusal_asked moment new.id key lost l'.core)) (refusal_few moment new.id key lost l'.core);
  client = g.client (subst IsClient (sym there) client);
  closed = g.closed;
  here = λ e is of sound.
      let it = g.here e is of sound in
      let this : new ≡ it.0 = one_entry new it.0 (sym there ∙ it.1) in
      let given = owed it.4.0 (ap (λ (x : Entry). x.broken) this ∙ it.3) (subst (λ (x : Entry). Q (closes_of x.progress) it.4.0) (sym this) it.4.1) in (
        sym it.2 ∙ ap (λ (x : Entry). x.progress) (sym this),
        (given.0, subst (λ (its : List RunPart). IsOwed new.id (closes_of new.progress) comes its given.0) (sym (refusal_asked moment new.id key lost l'.core)) given.1, it.4.2 ∙ (ap (λ (x : Entry). x.due ++ it.4.0) (sym this) ∙ given.2)),
        subst (λ (x : Entry). ReadsOn x e) (sym this) it.5,
      );
  halts = λ e is of broken.
      let it = g.halts e is of broken in
      let this : new ≡ it.0 = one_entry new it.0 (sym there ∙ it.1) in (
        sym it.2 ∙ ap (λ (x : Entry). x.progress) (sym this),
        subst (λ (its : List RunPart). HaltsAs comes new base its e) (sym (refusal_asked moment new.id key lost l'.core)) (halts_due comes new new e base (refusal_at moment new.id key l'.core lost) (ap (λ (x : Entry). x.due) this ∙ it.3) halted),
        subst (λ (x : Entry). ReadsOn x e) (sym this) it.4,
      );
}

-- a client's event gives no device's name
own_nameless : (turn : Bool) (who : Client) (event : Event) → EventOf who event → named_by turn event ≡ None
own_nameless turn (client.Ipp request) (Is.Report device parsed) own = absurd own
own_nameless turn client.LpdJob (Is.Report device parsed) own = absurd own
own_nameless turn client.LpdCommand (Is.Report device parsed) own = absurd own
own_nameless turn who event own = refl

-- the core handles the client's event
pub acted_event : (moment key : ℕ) (who : Client) (event : Event) (last : Bool) (new : Entry) (l : Ledger) (hs : List Happening) (l' : Ledger) → EventOf who event → Good l → l.entries key ≡ Some new → ClientTalk new.progress → Ans.IsAnswered moment key new.id who event l hs l'
    → Acted moment key (step.Asks (ask.Event who event) last) new new.due l hs l'
acted_event moment key who event last new l hs l' own good there client (outcome, it) = by (gives_answers key new.id who (is_query event) (effects_of outcome) it.mid it.back l' it.second)
  where
    h : RunPart
    h = one_handled moment event outcome it.prefix it.mid None (Some key)

    more : (k : ℕ) → Ordered (λ device. sent_by outcome it.mid.core device ++ []) (l.entries k) (l'.entries k) → Ordered (sent_by outcome it.mid.core) (l.entries k) (l'.entries k)
    more k o = record {
      counts = λ device is. let c = o.counts device is in (c.0, c.1 ∙ ap (λ (bytes : List ℕ). due_at (l.entries k) ++ bytes) (append-nil (sent_by outcome it.mid.core device)));
      breaks = λ device is. breaks_same (λ of. sent_by outcome it.mid.core of ++ []) (sent_by outcome it.mid.core) device (l.entries k) (l'.entries k) (sym (append-nil (sent_by outcome it.mid.core device))) (o.breaks device is);
      device = o.device;
      fresh = o.fresh;
      client = o.client;
      stays = o.stays;
    }

    event_few : (lost : Option AllocationSite) → IsOneAtMost (one_handled moment event outcome it.prefix it.mid None (Some key) ∷ refusal_at moment new.id key l'.core lost)
    event_few None = tt
    event_few (Some place) = (tt, λ is. is)

    by : (given : (lost : Option AllocationSite) × Gave (notified_of new.id lost) key (λ closes bytes. Loose closes who (is_query event) (effects_of outcome) lost bytes) it.mid it.back l') → Acted moment key (step.Asks (ask.Event who event) last) new new.due l hs l'
    by (lost, g) =
        let one = happened moment event outcome l it.prefix it.mid good it.first in
        let refused : List RunPart = refusal_at moment new.id key l'.core lost in
        let asked : asked_by key (one_handled moment event outcome it.prefix it.mid None (Some key) ∷ refusal_at moment new.id key l'.core lost) ≡ one_handled moment event outcome it.prefix it.mid None (Some key) ∷ refusal_at moment new.id key l'.core lost =
        ap (λ (t : Bool). (if t then h ∷ [] else []) ++ asked_by key (refusal_at moment new.id key l'.core lost)) (is_key key) ∙ ap (λ (its : List RunPart). h ∷ its) (refusal_asked moment new.id key lost l'.core) in
        record {
          handled = h ∷ refusal_at moment new.id key l'.core lost;
          sent = sent_by outcome it.mid.core;
          run = (one.handles, refusal_run moment new.id key lost it.mid.core l'.core g.core);
          timed = All-cons (IsAt true moment) h (refusal_at moment new.id key l'.core lost) (refl, sym (own_nameless true who event own)) (refusal_timed moment new.id key lost l'.core);
          notified = ap run_notes it.whole ∙ (notes_append it.prefix it.back ∙ ap (λ (ns : List Note). run_notes it.prefix ++ ns) (g.notes ∙ refusal_notified moment new.id key lost l'.core));
          sends = λ device before. refusal_sends moment new.id key lost l'.core device (before ++ sent_by outcome it.mid.core device);
          others = λ k apart. more k (ordered_then (sent_by outcome it.mid.core) (λ device. []) (l.entries k) (it.mid.entries k) (l'.entries k) (one.each k) (g.others k apart));
          aside = λ k apart. ap (λ (t : Bool). (if t then h ∷ [] else []) ++ asked_by k (refusal_at moment new.id key l'.core lost)) (not_key key k (λ same. apart (sym same))) ∙ refusal_aside moment new.id key lost l'.core k apart;
          one = subst IsOneAtMost (sym asked) (event_few lost);
          client = g.client ((one.each key).client (subst IsClient (sym there) client));
          closed = g.closed ∙ one.closed;
          here = λ e is of sound.
              let gave = g.here e is of sound in
              let was = (one.each key).stays gave.0 gave.1 (subst ClientTalk (sym gave.2) of) in
              let this : new ≡ was.0 = one_entry new was.0 (sym there ∙ was.1) in
              let progress : new.progress ≡ gave.0.progress = ap (λ (x : Entry). x.progress) this ∙ was.2 in (
                sym gave.2 ∙ sym progress,
                (
                  gave.4.0,
                  (
                    h,
                    outcome,
                    refusal_at moment new.id key l'.core lost,
                    asked,
                    refl,
                    given moment new.id key l'.core (closes_of new.progress) who (is_query event) (effects_of outcome) lost gave.4.0 (typed who moment event l.core outcome (run_notes it.prefix) it.mid.core own one.handles)
                        (subst (λ (x : PeerRecord). Loose (closes_of x) who (is_query event) (effects_of outcome) lost gave.4.0) (sym progress) gave.4.1),
                  ),
                  gave.4.2 ∙ ap (λ (due : List ℕ). due ++ gave.4.0) (sym was.4 ∙ ap (λ (x : Entry). x.due) (sym this)),
                ),
                reads_then new gave.0 e (subst (λ (x : Entry). ReadsOn x gave.0) (sym this) was.5) gave.5,
              );
          halts = λ e is of broken.
              let gave = g.halts e is of broken in
              let was = (one.each key).stays gave.0 gave.1 (subst ClientTalk (sym gave.2) of) in
              let this : new ≡ was.0 = one_entry new was.0 (sym there ∙ was.1) in (
                sym gave.2 ∙ (sym was.2 ∙ ap (λ (x : Entry). x.progress) (sym this)),
                inl (sym gave.3 ∙ (sym was.4 ∙ ap (λ (x : Entry). x.due) (sym this))),
                reads_then new gave.0 e (subst (λ (x : Entry). ReadsOn x gave.0) (sym this) was.5) gave.4,
              );
        }

pub acted_asks : (moment key : ℕ) (what : Ask) (last : Bool) (new : Entry) (l : Ledger) (hs : List Happening) (l' : Ledger) → IsClientAsk what → Good l → l.entries key ≡ Some new → ClientTalk new.progress → ActsOn moment key new.id what l hs l' → Acted moment key (step.Asks what last) new new.due l hs l'
acted_asks moment key ask.Nothing last new l hs l' is good there client it = absurd is
acted_asks moment key (ask.Broke growth) last new l hs l' is good there client it = absurd is
acted_asks moment key (ask.Event who event) last new l hs l' is good there client it = acted_event moment key who event last new l hs l' is good there client it
acted_asks moment key (ask.Unread request) last new l hs l' is good there client it =
    acted_calm moment key (Some At.Event) (step.Asks (ask.Unread request) last) new new.due (No_memory request) l hs l' there client (λ bytes sound these. (bytes, (one_refusal moment new.id key l'.core (Some At.Event) At.Event refl, these), refl)) (inl refl)
    (gives_dropped key new.id request l hs l' it)
acted_asks moment key (ask.Lost part) last new l hs l' is good there client it =
    acted_calm moment key (Some (place_of_part part)) (step.Asks (ask.Lost part) last) new new.due (Just_these (1 ∷ [])) l hs l' there client (λ bytes sound these. (bytes, (one_refusal moment new.id key l'.core (Some (place_of_part part)) (place_of_part part) refl, these), refl)) (inl refl)
    (gives_declines (place_of_part part) key new.id (notifies_part part new.id) l hs l' it)
acted_asks moment key (ask.Hello device name) last new l hs l' is good there client it = absurd is
acted_asks moment key (ask.Report device report) last new l hs l' is good there client it = absurd is
acted_asks moment key (ask.UnknownDevice name) last new l hs l' is good there client it = absurd is
acted_asks moment key (ask.Fault device) last new l hs l' is good there client it = absurd is

-- of any step of a client
pub acted_by : (moment key id : ℕ) (comes : Step) (m new : Entry) (what : Ask) (l : Ledger) (hs : List Happening) (l' : Ledger) → IsClientStep comes → StepsTo comes m what new → ClientTalk m.progress → id ≡ new.id → Good l → l.entries key ≡ Some new → ActsOn moment key id what l hs l' → Acted moment key comes new m.due l hs l'
acted_by moment key id (step.Due due last) m new what l hs l' fine (inl (is, after)) client its good there it =
    let nothing : Nothing l hs l' = subst (λ (a : Ask). ActsOn moment key id a l hs l') is it in
    acted_calm moment key None (step.Due due last) new m.due (Just_these []) l hs l' there (subst (λ (x : Entry). ClientTalk x.progress) (sym after) client)
    (λ bytes sound none. (due_bytes due, (refl, refl), ap (λ (more : List ℕ). new.due ++ more) none ∙ (append-nil new.due ∙ ap (λ (x : Entry). x.due) after))) (inr (due_bytes due, (refl, refl), ap (λ (x : Entry). x.due) after)) (gives_nothing key (Just_these []) (λ closes. refl) l hs l' nothing)
acted_by moment key id (step.Due due last) m new what l hs l' fine (inr (is, needs, after)) client its good there it =
    let notified : Notifies (Refused (place_of growth.Output) (Some id)) l hs l' = subst (λ (a : Ask). ActsOn moment key id a l hs l') is it in
    acted_calm moment key None (step.Due due last) new m.due (Just_these []) l hs l' there (subst (λ (x : Entry). ClientTalk x.progress) (sym after) client)
    (λ bytes sound none. absurd (no_true new.broken (ap (λ (x : Entry). x.broken) after) sound)) (inl (ap (λ (x : Entry). x.due) after)) (gave_still key (Just_these []) l hs l' (ap run_notes notified.0 ∙ silent_run growth.Output id) notified.1 (λ closes. refl))
acted_by moment key id (step.Asks asked last) m new what l hs l' fine (is, after) client its good there it =
    let a = acted_asks moment key asked last new l hs l' fine good there (subst (λ (x : Entry). ClientTalk x.progress) (sym after) client) (subst (λ (i : ℕ). ActsOn moment key i asked l hs l') its (subst (λ (a : Ask). ActsOn moment key id a l hs l') is it)) in
    subst (λ (due : List ℕ). Acted moment key (step.Asks asked last) new due l hs l') (ap (λ (x : Entry). x.due) after) a
acted_by moment key id (step.Breaks asked) m new what l hs l' fine (is, after) client its good there it =
    let notified : Notifies (Refused (place_of growth.Input) (Some id)) l hs l' = subst (λ (a : Ask). ActsOn moment key id a l hs l') (is ∙ fine) it in
    acted_calm moment key None (step.Breaks asked) new m.due (Just_these []) l hs l' there (subst (λ (x : Entry). ClientTalk x.progress) (sym after) client)
    (λ bytes sound none. absurd (no_true new.broken (ap (λ (x : Entry). x.broken) after) sound)) (inl (ap (λ (x : Entry). x.due) after)) (gave_still key (Just_these []) l hs l' (ap run_notes notified.0 ∙ silent_run growth.Input id) notified.1 (λ closes. refl))

-- the next of a client's stream, as an act has it
pub next_of : (settings : ServerSettings) (progress : PeerRecord) (e : Entry) (comes : Step) (mid : Entry) → ClientTalk progress → e.progress ≡ progress → IsClientStep comes → ItemComes settings progress e comes mid → (mid.due ≡ e.due) × (((comes ≡ no_memory) × (mid.progress ≡ progress)) ⊎ IsNext settings e.read progress comes mid.progress) × ReadsOn e mid
next_of settings (Http parsed closes body) e comes mid client is fine next = (ap (λ (x : Entry). x.due) next.after, inr (record { item = next.item; part = next.part; first = next.next; comes = next.comes; is = ap (λ (x : Entry). x.progress) next.after }), reads_still e mid (ap (λ (x : Entry). x.id) next.after) (ap (λ (x : Entry). x.read) next.after) (ap (λ (x : Entry). x.draining) next.after))
next_of settings (Queue items session) e comes mid client is fine (inl next) =
    (ap (λ (x : Entry). x.due) next.after, inr (inl (record { parsed = next.parsed; session_after = next.session_after; first = next.next; comes = next.comes; is = ap (λ (x : Entry). x.progress) next.after })), reads_still e mid (ap (λ (x : Entry). x.id) next.after) (ap (λ (x : Entry). x.read) next.after) (ap (λ (x : Entry). x.draining) next.after))
next_of settings (Queue items session) e comes mid client is fine (inr (inl next)) = (ap (λ (x : Entry). x.due) next.after, inr (inr (record { fault = next.fault; reads_as = next.is; comes = next.comes; is = ap (λ (x : Entry). x.progress) next.after ∙ is })), reads_still e mid (ap (λ (x : Entry). x.id) next.after) (ap (λ (x : Entry). x.read) next.after) (ap (λ (x : Entry). x.draining) next.after))
next_of settings (Queue items session) e comes mid client is fine (inr (inr next)) = (ap (λ (x : Entry). x.due) next.1, inl (next.0, ap (λ (x : Entry). x.progress) next.1 ∙ is), reads_still e mid (ap (λ (x : Entry). x.id) next.1) (ap (λ (x : Entry). x.read) next.1) (ap (λ (x : Entry). x.draining) next.1))
next_of settings (Link reports device) e comes mid client is fine next = absurd client

pub steps_progress : (comes : Step) (mid new : Entry) (what : Ask) → StepsTo comes mid what new → new.progress ≡ mid.progress
steps_progress (step.Due due last) mid new what (inl is) = ap (λ (x : Entry). x.progress) is.1
steps_progress (step.Due due last) mid new what (inr is) = ap (λ (x : Entry). x.progress) is.2
steps_progress (step.Asks it last) mid new what is = ap (λ (x : Entry). x.progress) is.1
steps_progress (step.Breaks it) mid new what is = ap (λ (x : Entry). x.progress) is.1

-- a step leaves the number and the bytes read
pub steps_read : (comes : Step) (mid new : Entry) (what : Ask) → StepsTo comes mid what new → (new.id ≡ mid.id) × (new.read ≡ mid.read) × (drains comes ≡ true → new.draining ≡ true)
steps_read (step.Due due last) mid new what (inl is) = (ap (λ (x : Entry). x.id) is.1, ap (λ (x : Entry). x.read) is.1, λ ends. ap (λ (x : Entry). x.draining) is.1 ∙ ends)
steps_read (step.Due due last) mid new what (inr is) = (ap (λ (x : Entry). x.id) is.2, ap (λ (x : Entry). x.read) is.2, λ ends. ap (λ (x : Entry). x.draining) is.2 ∙ ends)
steps_read (step.Asks it last) mid new what is = (ap (λ (x : Entry). x.id) is.1, ap (λ (x : Entry). x.read) is.1, λ ends. ap (λ (x : Entry). x.draining) is.1 ∙ ends)
steps_read (step.Breaks it) mid new what is = (ap (λ (x : Entry). x.id) is.1, ap (λ (x : Entry). x.read) is.1, λ ends. cc)

pub not_given : (id : ℕ) (closes : Bool) (asked : List RunPart) (bytes : List ℕ) (comes : Step) → comes ≡ no_memory → IsOwed id closes comes asked bytes → ⊥
not_given id closes asked bytes comes is owed = subst (λ (s : Step). IsOwed id closes s asked bytes) is owed

pub same_state : (core : State) (handled : List RunPart) → IsStateOf core core handled
same_state core [] = refl
same_state core (it ∷ later) = inl refl

pub client_acts : (moment key id : ℕ) (what : Ask) (l : Ledger) (prefix : List Happening) (mid : Ledger) (back : List Happening) (l' : Ledger) (hs : List Happening) → hs ≡ prefix ++ back → Good l
    → (a : Asks key id what l prefix mid) → ClientTalk a.entry.progress → ActsOn moment key id what mid back l' → Goes true moment l hs l'
client_acts moment key id what l prefix mid back l' hs whole good a client does = record {
  handled = acted.handled;
  good = record { one = λ device k other p q. one device k other (k == key) refl (other == key) refl p q; fresh = λ k. fresh k (k == key) refl };
  run = subst (λ (s : State). AreHandled s acted.handled l'.core) core acted.run;
  timed = acted.timed;
  notified = ap run_notes whole ∙ (notes_append prefix back ∙ (ap (λ (ns : List Note). ns ++ run_notes back) (ap run_notes a.chosen) ∙ acted.notified));
  came = λ k device counts. came k device (k == key) refl counts;
  lost = λ k device is. lost k device (k == key) refl is;
  progresses = λ k e is of sound. progresses k e (k == key) refl is of sound;
  stops = λ k e is of broken. stops k e (k == key) refl is of broken;
  closed = none_closed l acted.handled l' (acted.closed ∙ ap (λ (x : Ledger). x.closed) a.after);
}
  where
    core : mid.core ≡ l.core
    core = ap (λ (x : Ledger). x.core) a.after

    acted_on_so : IsClientStep a.asks.comes × ClientTalk a.asks.mid.progress
    acted_on_so = client_keeps l.core.settings a.entry.progress a.entry a.asks.comes a.asks.mid client client a.asks.takes_item

    new_progress : a.new.progress ≡ a.asks.mid.progress
    new_progress = steps_progress a.asks.comes a.asks.mid a.new what a.asks.steps

    read_on : ReadsOn a.entry a.new
    read_on =
        let next = (next_of l.core.settings a.entry.progress a.entry a.asks.comes a.asks.mid client refl acted_on_so.0 a.asks.takes_item).2 in
        let step = steps_read a.asks.comes a.asks.mid a.new what a.asks.steps in
        record { same = step.0 ∙ next.same; more = next.more; grown = step.1 ∙ next.grown; drains = λ is. absurd (no_true a.entry.draining is (not_draining a.entry.draining a.entry.broken a.asks.counts)) }

    set : mid.entries key ≡ Some a.new
    set = ap (λ (x : Ledger). x.entries key) a.after ∙ at_here key a.new l.entries

    beside : (k : ℕ) → k ≢ key → mid.entries k ≡ l.entries k
    beside k apart = ap (λ (x : Ledger). x.entries k) a.after ∙ at_aside key a.new l.entries k apart

    of_client : IsClient (mid.entries key)
    of_client = subst IsClient (sym set) (subst ClientTalk (sym new_progress) acted_on_so.1)

    good_mid : Good mid
    good_mid = record {
      one = λ device k other p q. one_mid device k other (k == key) refl (other == key) refl p q;
      fresh = λ k. fresh_mid k (k == key) refl;
    }
      where
        no_device : (device : ℕ) (o : Option Entry) → IsClient o → IsDevice device o → ⊥
        no_device device None of is = is
        no_device device (Some e) of is = client_none e.progress device of is

        here : (k : ℕ) → (k == key) ≡ true → IsClient (mid.entries k)
        here k same = subst (λ (j : ℕ). IsClient (mid.entries j)) (sym (same_key k key same)) of_client

        one_mid : (device k other : ℕ) (s : Bool) → (k == key) ≡ s → (t : Bool) → (other == key) ≡ t → IsDevice device (mid.entries k) → IsDevice device (mid.entries other) → k ≡ other
        one_mid device k other true is t its p q = absurd (no_device device (mid.entries k) (here k is) p)
        one_mid device k other false is true its p q = absurd (no_device device (mid.entries other) (here other its) q)
        one_mid device k other false is false its p q =
            good.one device k other (subst (λ (o : Option Entry). IsDevice device o) (beside k (other_key k key is)) p) (subst (λ (o : Option Entry). IsDevice device o) (beside other (other_key other key its)) q)

        fresh_client : (o : Option Entry) → IsClient o → IsFresh o
        fresh_client None of = tt
        fresh_client (Some e) of = client_fresh e.progress e of

        fresh_mid : (k : ℕ) (t : Bool) → (k == key) ≡ t → IsFresh (mid.entries k)
        fresh_mid k true is = fresh_client (mid.entries k) (here k is)
        fresh_mid k false is = subst IsFresh (sym (beside k (other_key k key is))) (good.fresh k)

    acted : Acted moment key a.asks.comes a.new a.asks.mid.due mid back l'
    acted = acted_by moment key id a.asks.comes a.asks.mid a.new what mid back l' acted_on_so.0 a.asks.steps acted_on_so.1 (a.its ∙ sym read_on.same) good_mid set does

    ordered : (k : ℕ) → k ≢ key → Ordered acted.sent (l.entries k) (l'.entries k)
    ordered k apart = subst (λ (o : Option Entry). Ordered acted.sent o (l'.entries k)) (beside k apart) (acted.others k apart)

    last : (k : ℕ) → (k == key) ≡ true → IsClient (l'.entries k)
    last k same = subst (λ (j : ℕ). IsClient (l'.entries j)) (sym (same_key k key same)) acted.client

    no_name : (device : ℕ) (o : Option Entry) → IsClient o → IsDevice device o → ⊥
    no_name device None of is = is
    no_name device (Some e) of is = client_none e.progress device of is

    one : (device k other : ℕ) (s : Bool) → (k == key) ≡ s → (t : Bool) → (other == key) ≡ t → IsDevice device (l'.entries k) → IsDevice device (l'.entries other) → k ≡ other
    one device k other true is t its p q = absurd (no_name device (l'.entries k) (last k is) p)
    one device k other false is true its p q = absurd (no_name device (l'.entries other) (last other its) q)
    one device k other false is false its p q = good.one device k other ((ordered k (other_key k key is)).device device p) ((ordered other (other_key other key its)).device device q)

    fresh_last : (o : Option Entry) → IsClient o → IsFresh o
    fresh_last None of = tt
    fresh_last (Some e) of = client_fresh e.progress e of

    fresh : (k : ℕ) (t : Bool) → (k == key) ≡ t → IsFresh (l'.entries k)
    fresh k true is = fresh_last (l'.entries k) (last k is)
    fresh k false is = (ordered k (other_key k key is)).fresh (good.fresh k)

    came : (k device : ℕ) (t : Bool) → (k == key) ≡ t → Counts device (l'.entries k) → CameAs device acted.handled (l.entries k) (l'.entries k)
    came k device true is counts = absurd (no_name device (l'.entries k) (last k is) (counts_device device (l'.entries k) counts))
    came k device false is counts = let it = (ordered k (other_key k key is)).counts device counts in inl (it.0, it.1 ∙ sym (acted.sends device (due_at (l.entries k))))

    lost : (k device : ℕ) (t : Bool) → (k == key) ≡ t → IsLost device (l'.entries k) → LostAs device acted.handled (l.entries k) (l'.entries k)
    lost k device true is broke = absurd (no_name device (l'.entries k) (last k is) (lost_device device (l'.entries k) broke))
    lost k device false is broke = lost_by device acted.handled acted.sent (l.entries k) (l'.entries k) (acted.sends device (due_at (l.entries k))) ((ordered k (other_key k key is)).breaks device broke)

    or_false : (t : Bool) → t || false ≡ true → t ≡ true
    or_false true is = refl
    or_false false is = is

    prefix_on : (e : Entry) → ReadsOn a.new e → IsPrefixOf a.entry.read e.read
    prefix_on e later = let reads = reads_then a.entry a.new e read_on later in (reads.more, reads.grown)

    went : (e : Entry) → l'.entries key ≡ Some e → ClientTalk e.progress → e.broken ≡ false → ((a.asks.comes ≡ no_memory) × (a.asks.mid.progress ≡ a.entry.progress)) ⊎ IsNext l.core.settings a.entry.read a.entry.progress a.asks.comes a.asks.mid.progress → a.asks.mid.due ≡ a.entry.due → Went l.core key acted.handled (l.entries key) e
    went e is of sound (inl (none, still)) due = let it = acted.here e is of sound in absurd (not_given a.new.id (closes_of a.new.progress) (asked_by key acted.handled) it.1.0 a.asks.comes none it.1.1)
    went e is of sound (inr next) due =
        let it = acted.here e is of sound in
        let act : Act = record { read = a.entry.read; before = a.entry.progress; after = a.new.progress; what = a.asks.comes; asked = asked_by key acted.handled; bytes = it.1.0; state = l.core } in
        record {
          before = a.entry;
          there = a.there;
          client = client;
          sound = not_broken a.entry.draining a.entry.broken a.asks.counts;
          reads = reads_then a.entry a.new e read_on it.2;
          acts = act ∷ [];
          are = acts_on a.new e a.entry.progress e.progress (act ∷ []) it.2 (refl, record { next = subst (λ (t : PeerRecord). IsNext l.core.settings a.entry.read a.entry.progress a.asks.comes t) (sym new_progress) next; owed = it.1.1 }, λ last. refl, it.0);
          prefixes = All-cons (λ (x : Act). IsPrefixOf x.read e.read) act [] (prefix_on e it.2) (All-nil (λ (x : Act). IsPrefixOf x.read e.read));
          quiet = λ is. absurd (no_true a.entry.draining is (not_draining a.entry.draining a.entry.broken a.asks.counts));
          over = λ last. it.2.drains ((steps_read a.asks.comes a.asks.mid a.new what a.asks.steps).2 (or_false (drains a.asks.comes) last));
          states = All-cons (λ (x : Act). IsStateOf x.state l.core acted.handled) act [] (same_state l.core acted.handled) (All-nil (λ (x : Act). IsStateOf x.state l.core acted.handled));
          asked = sym (append-nil (asked_by key acted.handled));
          due = it.1.2 ∙ (ap (λ (bytes : List ℕ). bytes ++ it.1.0) due ∙ ap (λ (bytes : List ℕ). a.entry.due ++ bytes) (sym (append-nil it.1.0)));
        }

    acted_on_next : (a.asks.mid.due ≡ a.entry.due) × (((a.asks.comes ≡ no_memory) × (a.asks.mid.progress ≡ a.entry.progress)) ⊎ IsNext l.core.settings a.entry.read a.entry.progress a.asks.comes a.asks.mid.progress) × ReadsOn a.entry a.asks.mid
    acted_on_next = next_of l.core.settings a.entry.progress a.entry a.asks.comes a.asks.mid client refl acted_on_so.0 a.asks.takes_item

    -- the connection broke: the bytes of its last step aren't due, or they are
    broke : (e : Entry) → e.progress ≡ a.new.progress → ReadsOn a.new e → ((a.asks.comes ≡ no_memory) × (a.asks.mid.progress ≡ a.entry.progress)) ⊎ IsNext l.core.settings a.entry.read a.entry.progress a.asks.comes a.asks.mid.progress → a.asks.mid.due ≡ a.entry.due → HaltsAs a.asks.comes a.new a.asks.mid.due (asked_by key acted.handled) e
        → BrokeAfter l.core key acted.handled acted.handled a.entry.progress a.entry.due e
    broke e progress reads next due (inl is) = record {
      acts = [];
      after = a.entry.progress;
      are = refl;
      prefixes = All-nil (λ (x : Act). IsPrefixOf x.read e.read);
      states = All-nil (λ (x : Act). IsStateOf x.state l.core acted.handled);
      unanswered = asked_by key acted.handled;
      one = acted.one;
      asked = refl;
      last = by next;
      over = λ is. cc;
      due = is ∙ (due ∙ sym (append-nil a.entry.due));
    }
      where
        by : ((a.asks.comes ≡ no_memory) × (a.asks.mid.progress ≡ a.entry.progress)) ⊎ IsNext l.core.settings a.entry.read a.entry.progress a.asks.comes a.asks.mid.progress → IsLast l.core acted.handled e.read a.entry.progress e.progress
        by (inl (none, still)) = inl (sym (progress ∙ (new_progress ∙ still)))
        by (inr comes) = inr (l.core, a.entry.read, a.asks.comes, same_state l.core acted.handled, prefix_on e reads, subst (λ (t : PeerRecord). IsNext l.core.settings a.entry.read a.entry.progress a.asks.comes t) (sym (progress ∙ new_progress)) comes)
    broke e progress reads (inl (none, still)) due (inr (bytes, owed, is)) = absurd (not_given a.new.id (closes_of a.new.progress) (asked_by key acted.handled) bytes a.asks.comes none owed)
    broke e progress reads (inr next) due (inr (bytes, owed, is)) =
        let act : Act = record { read = a.entry.read; before = a.entry.progress; after = a.new.progress; what = a.asks.comes; asked = asked_by key acted.handled; bytes = bytes; state = l.core } in
        record {
          acts = act ∷ [];
          after = a.new.progress;
          are = acts_on a.new e a.entry.progress a.new.progress (act ∷ []) reads (refl, record { next = subst (λ (t : PeerRecord). IsNext l.core.settings a.entry.read a.entry.progress a.asks.comes t) (sym new_progress) next; owed = owed }, λ last. refl, refl);
          prefixes = All-cons (λ (x : Act). IsPrefixOf x.read e.read) act [] (prefix_on e reads) (All-nil (λ (x : Act). IsPrefixOf x.read e.read));
          states = All-cons (λ (x : Act). IsStateOf x.state l.core acted.handled) act [] (same_state l.core acted.handled) (All-nil (λ (x : Act). IsStateOf x.state l.core acted.handled));
          unanswered = [];
          one = tt;
          asked = sym (append-nil (asked_by key acted.handled)) ∙ sym (append-nil (asked_by key acted.handled ++ []));
          last = inl (sym progress);
          over = λ last. (progress, refl);
          due = is ∙ (ap (λ (more : List ℕ). more ++ bytes) due ∙ ap (λ (more : List ℕ). a.entry.due ++ more) (sym (append-nil bytes)));
        }

    stops : (k : ℕ) (e : Entry) (t : Bool) → (k == key) ≡ t → l'.entries k ≡ Some e → ClientTalk e.progress → e.broken ≡ true → StopsAs l.core k acted.handled (l.entries k) e
    stops k e true same is of broken =
        let at : k ≡ key = same_key k key same in
        let it = acted.halts e (subst (λ (j : ℕ). l'.entries j ≡ Some e) at is) of broken in
        subst (λ (j : ℕ). StopsAs l.core j acted.handled (l.entries j) e) (sym at) (inr (inl (a.entry, a.there, client, not_broken a.entry.draining a.entry.broken a.asks.counts, broke e it.0 it.2 acted_on_next.1 acted_on_next.0 it.1, reads_then a.entry a.new e read_on it.2, λ is. absurd (no_true a.entry.draining is (not_draining a.entry.draining a.entry.broken a.asks.counts)))))
    stops k e false same is of broken = stops_still l.core k acted.handled (l.entries k) (l'.entries k) (ordered k (other_key k key same)).stays (acted.aside k (other_key k key same)) e is of broken

    progresses : (k : ℕ) (e : Entry) (t : Bool) → (k == key) ≡ t → l'.entries k ≡ Some e → ClientTalk e.progress → e.broken ≡ false → TalkedAs l.core k acted.handled (l.entries k) e
    progresses k e true same is of sound =
        let at : k ≡ key = same_key k key same in
        subst (λ (j : ℕ). TalkedAs l.core j acted.handled (l.entries j) e) (sym at) (inl (went e (subst (λ (j : ℕ). l'.entries j ≡ Some e) at is) of sound acted_on_next.1 acted_on_next.0))
    progresses k e false same is of sound = progressed_still l.core k acted.handled (l.entries k) (l'.entries k) (ordered k (other_key k key same)).stays (acted.aside k (other_key k key same)) e is of sound

pub device_acts : (moment key id : ℕ) (what : Ask) (l : Ledger) (prefix : List Happening) (mid : Ledger) (back : List Happening) (l' : Ledger) (hs : List Happening) → hs ≡ prefix ++ back → Good l
    → (a : Asks key id what l prefix mid) → DeviceAsks what a.entry a.new → ActsOn moment key id what mid back l' → Goes true moment l hs l'
device_acts moment key id what l prefix mid back l' hs whole good a (inl (is, sent)) does =
    let first = goes_calm true moment l prefix mid good (calm_sets key a.entry a.new l prefix mid a.there sent (ap run_notes a.chosen) a.after) in
    goes_then true moment l prefix mid back l' hs whole first (device_does moment key id what mid back l' is first.good does)
device_acts moment key id what l prefix mid back l' hs whole good a (inr names) does =
    let sound : a.entry.broken ≡ false = not_broken a.entry.draining a.entry.broken a.asks.counts in
    let none : a.entry.due ≡ [] = names.fresh (subst IsFresh a.there (good.fresh key)) sound in
    let just : Just key names.device names.name a.entry a.new l prefix mid =
    record { good = good; silent = ap run_notes a.chosen; there = a.there; after = a.after; named = names.after; fresh = names.open_progress; due = names.due ∙ none; link = names.link } in
    greets moment key id names.device names.name a.entry a.new l prefix mid back l' hs whole just (subst (λ (it : Ask). ActsOn moment key id it mid back l') names.asks does)

pub acts_by : (moment key id : ℕ) (what : Ask) (l : Ledger) (prefix : List Happening) (mid : Ledger) (back : List Happening) (l' : Ledger) (hs : List Happening) → hs ≡ prefix ++ back → Good l
    → (a : Asks key id what l prefix mid) → (progress : PeerRecord) → a.entry.progress ≡ progress → ActsOn moment key id what mid back l' → Goes true moment l hs l'
acts_by moment key id what l prefix mid back l' hs whole good a (Http parsed closes body) is does = client_acts moment key id what l prefix mid back l' hs whole good a (subst ClientTalk (sym is) tt) does
acts_by moment key id what l prefix mid back l' hs whole good a (Queue items session) is does = client_acts moment key id what l prefix mid back l' hs whole good a (subst ClientTalk (sym is) tt) does
acts_by moment key id what l prefix mid back l' hs whole good a (Link reports device) is does =
    device_acts moment key id what l prefix mid back l' hs whole good a
    (device_keeps l.core.settings reports device a.entry a.asks.comes a.asks.mid what a.new is (subst (λ (t : PeerRecord). FreshTalk t a.entry) is (subst IsFresh a.there (good.fresh key))) (not_broken a.entry.draining a.entry.broken a.asks.counts) (subst (λ (t : PeerRecord). ItemComes l.core.settings t a.entry a.asks.comes a.asks.mid) is a.asks.takes_item) a.asks.steps) does

pub moves_acts_next : (moment key : ℕ) → Moves true moment (ActsNext moment key)
moves_acts_next moment key l hs l' good (id, what, it) = acts_by moment key id what l it.prefix it.mid it.back l' hs it.whole good it.first it.first.entry.progress refl it.second

pub moves_acts : (moment key : ℕ) → Moves true moment (Acts moment key)
moves_acts moment key = moves_then true moment (ActsNext moment key) (ClosesBroken moment) (moves_acts_next moment key) (moves_closes_broken moment)

pub moves_serves : (moment key : ℕ) → Moves true moment (Serves moment key)
moves_serves moment key l hs l' good it = moves_then true moment (Many (Acts moment key)) (Chooses Rested) (moves_many true moment (Acts moment key) (moves_acts moment key)) (moves_calm true moment (Chooses Rested) (calms_chooses Rested)) l hs l' good it.0
