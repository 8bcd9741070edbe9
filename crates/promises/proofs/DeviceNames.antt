-- A device gives its name on a connection.
use Rattle.std.proofs.Common.{◌≡◌, ◌≢◌, ℕ, Bool, true, false, List, [], ◌++◌, refl, sym, ◌∙◌, ap, subst, append_assoc, append-nil, Option, Some, None, ◌⊎◌, inl, inr}
use Rattle.std.specs.Prelude.{◌==◌, if◌then◌else◌}
use Rattle.std.proofs.lemmas.List.Elements.{All-nil}
use Rattle.base_types.specs.declared.report.Report.TheVariants as report
use Rattle.events.specs.declared.event.Event.TheVariants as Is
use Rattle.dispatcher.specs.Notes.{Note}
use Rattle.connections.specs.Steps.{silent}
use Rattle.connections.specs.Entry.{PeerRecord, Http, Queue, Link, Entry, device_of, superseded_entry, unnamed}
use Rattle.server.specs.Polls.{Happening}
use Rattle.server.specs.Ledger.{Ledger, at_key, with_entry}
use Rattle.server.specs.Enqueuing.{IsDevice}
use Rattle.server.specs.Hello.{IsAlone, IsSupersededAt, HandlesHello}
use Rattle.promises.specs.Orders.{IsAt, run_notes}
use Rattle.promises.specs.Answers.{ClientTalk}
use Rattle.promises.proofs.Lowest.{as_device}
use Rattle.promises.proofs.SentToDevices.{Counts, due_at, FreshTalk, IsFresh, same_key, other_key, Ordered, ordered_still, ordered_broken, ordered_given_up, notes_append, Good, one_entry, client_none, IsLost}
use Rattle.promises.proofs.HandledEvents.{happened, CameAs, Goes, goes_calm, Awaits, awaits_event, awaits_named, gone_sends_none, TalkedAs, progressed_still, LostAs, lost_by, StopsAs, stops_still}
use Rattle.promises.proofs.DueToClients.{at_here}

-- ---- a device gives its name

-- the connection under a key once another connection is set there, and under each other key
pub at_cases : (key : ℕ) (new : Entry) (entries : ℕ → Option Entry) (k : ℕ) → ((k ≡ key) × (at_key key (Some new) entries k ≡ Some new)) ⊎ ((k ≢ key) × (at_key key (Some new) entries k ≡ entries k))
at_cases key new entries k = by (k == key) refl
  where
    by : (t : Bool) → (k == key) ≡ t → ((k ≡ key) × (at_key key (Some new) entries k ≡ Some new)) ⊎ ((k ≢ key) × (at_key key (Some new) entries k ≡ entries k))
    by true is = inl (same_key k key is, ap (λ (t : Bool). if t then Some new else entries k) is)
    by false is = inr (other_key k key is, ap (λ (t : Bool). if t then Some new else entries k) is)

-- this connection has the device's name; no other connection has the name, and nothing was sent on the others
pub record Alone (device key : ℕ) (new : Entry) (l l' : Ledger) : Type 0 where
  pub core : l'.core ≡ l.core
  pub closed : l'.closed ≡ l.closed
  pub each : (k : ℕ) → ((k ≡ key) × (l'.entries k ≡ Some new)) ⊎ ((k ≢ key) × Ordered (λ d. []) (l.entries k) (l'.entries k) × (IsDevice device (l'.entries k) → ⊥))

pub other_device : (o : Option ℕ) (device of : ℕ) → o ≡ Some device → o ≡ Some of → (device == of) ≡ false → ⊥
other_device o device of p q apart = other_key device of apart cc

pub awaits : (moment device key : ℕ) (e new : Entry) (l : Ledger) (hs : List Happening) (l' : Ledger) → Good l → run_notes hs ≡ [] → device_of new.progress ≡ Some device → FreshTalk new.progress new → new.due ≡ [] → Alone device key new l l' → Awaits moment device key l hs l'
awaits moment device key e new l hs l' good silent named fresh due alone = record {
  handled = [];
  good = record { one = λ d k o p q. one d k o p q (alone.each k) (alone.each o); fresh = λ k. fresh_at k (alone.each k) };
  run = alone.core;
  timed = All-nil (IsAt true moment);
  notified = silent;
  only = λ other is. only other is (alone.each other);
  due = λ counts. due_here (alone.each key);
  lost_due = λ lost. due_here (alone.each key);
  came = λ other of apart counts. came other of apart counts (alone.each other);
  lost = λ other of apart is. lost other of apart is (alone.each other);
  progresses = λ other f is of sound. progresses other f is of sound (alone.each other);
  stops = λ other f is of broken. stops other f is of broken (alone.each other);
  closed = alone.closed;
}
  where
    Each : ℕ → Type 0
    Each k = ((k ≡ key) × (l'.entries k ≡ Some new)) ⊎ ((k ≢ key) × Ordered (λ d. []) (l.entries k) (l'.entries k) × (IsDevice device (l'.entries k) → ⊥))

    is_new : (d k : ℕ) → l'.entries k ≡ Some new → IsDevice d (l'.entries k) → d ≡ device
    is_new d k here is = let its : device_of new.progress ≡ Some d = subst (λ (o : Option Entry). IsDevice d o) here is in cc

    one : (d k o : ℕ) → IsDevice d (l'.entries k) → IsDevice d (l'.entries o) → Each k → Each o → k ≡ o
    one d k o p q (inl (here, is)) (inl (there, its)) = here ∙ sym there
    one d k o p q (inl (here, is)) (inr (apart, sent, none)) = absurd (none (subst (λ (x : ℕ). IsDevice x (l'.entries o)) (is_new d k is p) q))
    one d k o p q (inr (apart, sent, none)) (inl (there, its)) = absurd (none (subst (λ (x : ℕ). IsDevice x (l'.entries k)) (is_new d o its q) p))
    one d k o p q (inr (apart, sent, none)) (inr (aside, more, never)) = good.one d k o (sent.device d p) (more.device d q)

    fresh_at : (k : ℕ) → Each k → IsFresh (l'.entries k)
    fresh_at k (inl (here, is)) = subst IsFresh (sym is) fresh
    fresh_at k (inr (apart, sent, none)) = sent.fresh (good.fresh k)

    only : (other : ℕ) → IsDevice device (l'.entries other) → Each other → other ≡ key
    only other is (inl (here, its)) = here
    only other is (inr (apart, sent, none)) = absurd (none is)

    due_here : Each key → due_at (l'.entries key) ≡ []
    due_here (inl (here, is)) = ap due_at is ∙ due
    due_here (inr (apart, sent, none)) = absurd (apart refl)

    came : (other of : ℕ) → (device == of) ≡ false → Counts of (l'.entries other) → Each other → CameAs of [] (l.entries other) (l'.entries other)
    came other of apart counts (inl (here, is)) = absurd (other_device (device_of new.progress) device of named (subst (λ (o : Option Entry). Counts of o) is counts).0 apart)
    came other of apart counts (inr (aside, sent, none)) = let it = sent.counts of counts in inl (it.0, it.1 ∙ append-nil (due_at (l.entries other)))

    lost : (other of : ℕ) → (device == of) ≡ false → IsLost of (l'.entries other) → Each other → LostAs of [] (l.entries other) (l'.entries other)
    lost other of apart broke (inl (here, is)) = absurd (other_device (device_of new.progress) device of named (subst (λ (o : Option Entry). IsLost of o) is broke).0 apart)
    lost other of apart broke (inr (aside, sent, none)) = lost_by of [] (λ d. []) (l.entries other) (l'.entries other) (sym (append-nil (due_at (l.entries other)))) (sent.breaks of broke)

    progresses : (other : ℕ) (f : Entry) → l'.entries other ≡ Some f → ClientTalk f.progress → f.broken ≡ false → Each other → TalkedAs l.core other [] (l.entries other) f
    progresses other f is of sound (inl (here, its)) = absurd (client_none new.progress device (subst ClientTalk (sym (ap (λ (x : Entry). x.progress) (one_entry new f (sym its ∙ is)))) of) named)
    progresses other f is of sound (inr (aside, sent, none)) = progressed_still l.core other [] (l.entries other) (l'.entries other) sent.stays refl f is of sound

    stops : (other : ℕ) (f : Entry) → l'.entries other ≡ Some f → ClientTalk f.progress → f.broken ≡ true → Each other → StopsAs l.core other [] (l.entries other) f
    stops other f is of broken (inl (here, its)) = absurd (client_none new.progress device (subst ClientTalk (sym (ap (λ (x : Entry). x.progress) (one_entry new f (sym its ∙ is)))) of) named)
    stops other f is of broken (inr (aside, sent, none)) = stops_still l.core other [] (l.entries other) (l'.entries other) sent.stays refl f is of broken

pub unnamed_device : (progress : PeerRecord) (device : ℕ) → device_of (unnamed progress) ≡ Some device → ⊥
unnamed_device (Http parsed closes body) device is = cc
unnamed_device (Queue items session) device is = cc
unnamed_device (Link reports other) device is = cc

named_client : (progress : PeerRecord) (device : ℕ) → device_of progress ≡ Some device → ClientTalk (unnamed progress) → ⊥
named_client (Http parsed closes body) device is client = cc
named_client (Queue items session) device is client = cc
named_client (Link reports other) device is client = client

-- the device has no other connection
pub alone_now : (device key : ℕ) (new : Entry) (l l' : Ledger) → l' ≡ with_entry key new l → IsAlone device key l' → Alone device key new l l'
alone_now device key new l l' after alone = record {
  core = ap (λ (x : Ledger). x.core) after;
  closed = ap (λ (x : Ledger). x.closed) after;
  each = λ k. by k (at_cases key new l.entries k);
}
  where
    here : (k : ℕ) → l'.entries k ≡ at_key key (Some new) l.entries k
    here k = ap (λ (x : Ledger). x.entries k) after

    by : (k : ℕ) → ((k ≡ key) × (at_key key (Some new) l.entries k ≡ Some new)) ⊎ ((k ≢ key) × (at_key key (Some new) l.entries k ≡ l.entries k)) → ((k ≡ key) × (l'.entries k ≡ Some new)) ⊎ ((k ≢ key) × Ordered (λ d. []) (l.entries k) (l'.entries k) × (IsDevice device (l'.entries k) → ⊥))
    by k (inl (same, is)) = inl (same, here k ∙ is)
    by k (inr (apart, is)) = inr (apart, subst (λ (o : Option Entry). Ordered (λ d. []) (l.entries k) o) (sym (here k ∙ is)) (ordered_still (l.entries k)), alone k apart)

-- the device's other connection is superseded
pub alone_then : (device key old : ℕ) (new other : Entry) (l mid l' : Ledger) → Good l → mid ≡ with_entry key new l → old ≢ key → mid.entries old ≡ Some other → IsDevice device (mid.entries old) → l' ≡ with_entry old (superseded_entry other) mid → Alone device key new l l'
alone_then device key old new other l mid l' good begun apart there is after = record {
  core = ap (λ (x : Ledger). x.core) after ∙ ap (λ (x : Ledger). x.core) begun;
  closed = ap (λ (x : Ledger). x.closed) after ∙ ap (λ (x : Ledger). x.closed) begun;
  each = λ k. by k (at_cases old (superseded_entry other) mid.entries k) (at_cases key new l.entries k);
}
  where
    here : (k : ℕ) → l'.entries k ≡ at_key old (Some (superseded_entry other)) mid.entries k
    here k = ap (λ (x : Ledger). x.entries k) after

    before : (k : ℕ) → mid.entries k ≡ at_key key (Some new) l.entries k
    before k = ap (λ (x : Ledger). x.entries k) begun

    was : ((old ≡ key) × (at_key key (Some new) l.entries old ≡ Some new)) ⊎ ((old ≢ key) × (at_key key (Some new) l.entries old ≡ l.entries old)) → l.entries old ≡ Some other
    was (inl (same, its)) = absurd (apart same)
    was (inr (aside, its)) = sym its ∙ (sym (before old) ∙ there)

    stood : l.entries old ≡ Some other
    stood = was (at_cases key new l.entries old)

    by : (k : ℕ) → ((k ≡ old) × (at_key old (Some (superseded_entry other)) mid.entries k ≡ Some (superseded_entry other))) ⊎ ((k ≢ old) × (at_key old (Some (superseded_entry other)) mid.entries k ≡ mid.entries k))
        → ((k ≡ key) × (at_key key (Some new) l.entries k ≡ Some new)) ⊎ ((k ≢ key) × (at_key key (Some new) l.entries k ≡ l.entries k)) → ((k ≡ key) × (l'.entries k ≡ Some new)) ⊎ ((k ≢ key) × Ordered (λ d. []) (l.entries k) (l'.entries k) × (IsDevice device (l'.entries k) → ⊥))
    by k (inl (same, its)) (inl (one, two)) = absurd (apart (sym same ∙ one))
    by k (inl (same, its)) (inr (aside, two)) =
        inr (
          aside,
          subst (λ (o : Option Entry). Ordered (λ d. []) o (l'.entries k)) (sym (ap l.entries same ∙ stood)) (subst (λ (o : Option Entry). Ordered (λ d. []) (Some other) o) (sym (here k ∙ its)) (ordered_given_up other)),
          λ named. unnamed_device other.progress device (subst (λ (o : Option Entry). IsDevice device o) (here k ∙ its) named),
        )
    by k (inr (apart_old, its)) (inl (one, two)) = inl (one, here k ∙ (its ∙ (before k ∙ two)))
    by k (inr (apart_old, its)) (inr (aside, two)) =
        let same : l'.entries k ≡ l.entries k = here k ∙ (its ∙ (before k ∙ two)) in
        inr (
          aside,
          subst (λ (o : Option Entry). Ordered (λ d. []) (l.entries k) o) (sym same) (ordered_still (l.entries k)),
          λ named. apart_old (good.one device k old (subst (λ (o : Option Entry). IsDevice device o) same named) (subst (λ (o : Option Entry). IsDevice device o) (there ∙ sym stood) is)),
        )

pub gives_way_at : (key : ℕ) (o : Option Entry) (e : Entry) (l : Ledger) (hs : List Happening) (l' : Ledger) → o ≡ Some e → IsSupersededAt key o l hs l' → (hs ≡ []) × (l' ≡ with_entry key (superseded_entry e) l)
gives_way_at key None e l hs l' is it = cc
gives_way_at key (Some d) e l hs l' is it = let same : d ≡ e = cc in (it.0, it.1 ∙ ap (λ (x : Entry). with_entry key (superseded_entry x) l) same)

pub device_there : (device : ℕ) (o : Option Entry) → IsDevice device o → (e : Entry) × (o ≡ Some e)
device_there device None is = absurd is
device_there device (Some e) is = (e, refl)

-- the connection under the key has just given the name of this device
pub record Just (key device : ℕ) (name : List ℕ) (e new : Entry) (l : Ledger) (hs : List Happening) (mid : Ledger) : Type 0 where
  pub good : Good l
  pub silent : run_notes hs ≡ []
  pub there : l.entries key ≡ Some e
  pub after : mid ≡ with_entry key new l
  pub named : device_of new.progress ≡ Some device
  pub fresh : FreshTalk new.progress new
  pub due : new.due ≡ []
  pub link : ClientTalk e.progress → ⊥

pub greets : (moment key id device : ℕ) (name : List ℕ) (e new : Entry) (l : Ledger) (prefix : List Happening) (mid : Ledger) (back : List Happening) (l' : Ledger) (hs : List Happening) → hs ≡ prefix ++ back
    → Just key device name e new l prefix mid → HandlesHello moment key id device name mid back l' → Goes true moment l hs l'
greets moment key id device name e new l prefix mid back l' hs whole just (inl (alone, (outcome, it))) =
    let waits = awaits moment device key e new l prefix mid just.good just.silent just.named just.fresh just.due (alone_now device key new l mid just.after alone) in
    awaits_named moment device key name outcome l prefix mid back l' hs whole waits (happened moment (Is.Report device (report.Hello name)) outcome mid back l' waits.good it)
greets moment key id device name e new l prefix mid back l' hs whole just (inr (inl (old, has, it))) =
    let is_old : IsDevice device (mid.entries old) = as_device true device (mid.entries old) has.1 in
    let found = device_there device (mid.entries old) is_old in
    let way = gives_way_at old (mid.entries old) found.0 mid it.prefix it.mid found.1 it.first in
    let alone = alone_then device key old new found.0 l mid it.mid just.good just.after has.0 found.1 is_old way.1 in
    let quiet : run_notes (prefix ++ it.prefix) ≡ [] = notes_append prefix it.prefix ∙ (ap (λ (ns : List Note). ns ++ run_notes it.prefix) just.silent ∙ ap run_notes way.0) in
    let waits = awaits moment device key e new l (prefix ++ it.prefix) it.mid just.good quiet just.named just.fresh just.due alone in
    let ends = it.second in
    let gone = happened moment (Is.Report device report.Gone) ends.first.0 it.mid ends.prefix ends.mid waits.good ends.first.1 in
    let none = gone_sends_none moment device it.mid.core ends.first.0 (run_notes ends.prefix) ends.mid.core gone.handles in
    let still = awaits_event moment device key (Is.Report device report.Gone) ends.first.0 l (prefix ++ it.prefix) it.mid ends.prefix ends.mid ((prefix ++ it.prefix) ++ ends.prefix) refl waits gone none refl in
    let last = happened moment (Is.Report device (report.Hello name)) ends.second.0 ends.mid ends.back l' still.good ends.second.1 in
    awaits_named moment device key name ends.second.0 l ((prefix ++ it.prefix) ++ ends.prefix) ends.mid ends.back l' hs (whole ∙ joined it.prefix ends.prefix ends.back back it.back it.whole ends.whole) still last
  where
    joined : (a b c back rest : List Happening) → back ≡ a ++ rest → rest ≡ b ++ c → prefix ++ back ≡ ((prefix ++ a) ++ b) ++ c
    joined a b c back rest p q =
        ap (λ (xs : List Happening). prefix ++ xs) (p ∙ ap (λ (xs : List Happening). a ++ xs) q) ∙ (sym (append_assoc prefix a (b ++ c)) ∙ sym (append_assoc (prefix ++ a) b c))
greets moment key id device name e new l prefix mid back l' hs whole just (inr (inr (old, has, it))) =
    let here : mid.entries key ≡ Some new = ap (λ (x : Ledger). x.entries key) just.after ∙ at_here key new l.entries in
    let way = gives_way_at key (mid.entries key) new mid it.prefix it.mid here it.first in
    let ended : l' ≡ with_entry key (superseded_entry new) mid = it.second.1 ∙ way.1 in
    let quiet : run_notes back ≡ [] = ap run_notes it.whole ∙ (notes_append it.prefix it.back ∙ (ap (λ (ns : List Note). ns ++ run_notes it.back) (ap run_notes way.0) ∙ ap run_notes it.second.0)) in
    let silent_all : run_notes hs ≡ [] = ap run_notes whole ∙ (notes_append prefix back ∙ (ap (λ (ns : List Note). ns ++ run_notes back) just.silent ∙ quiet)) in
    goes_calm true moment l hs l' just.good (record {
      core = ap (λ (x : Ledger). x.core) ended ∙ ap (λ (x : Ledger). x.core) just.after;
      closed = ap (λ (x : Ledger). x.closed) ended ∙ ap (λ (x : Ledger). x.closed) just.after;
      notes = silent_all;
      each = λ k. by ended k (at_cases key (superseded_entry new) mid.entries k) (at_cases key new l.entries k);
    })
  where
    by : l' ≡ with_entry key (superseded_entry new) mid → (k : ℕ) → ((k ≡ key) × (at_key key (Some (superseded_entry new)) mid.entries k ≡ Some (superseded_entry new))) ⊎ ((k ≢ key) × (at_key key (Some (superseded_entry new)) mid.entries k ≡ mid.entries k))
        → ((k ≡ key) × (at_key key (Some new) l.entries k ≡ Some new)) ⊎ ((k ≢ key) × (at_key key (Some new) l.entries k ≡ l.entries k)) → Ordered (λ d. []) (l.entries k) (l'.entries k)
    by ended k (inl (same, its)) second =
        subst (λ (o : Option Entry). Ordered (λ d. []) o (l'.entries k)) (sym (ap l.entries same ∙ just.there))
        (subst (λ (o : Option Entry). Ordered (λ d. []) (Some e) o) (sym (ap (λ (x : Ledger). x.entries k) ended ∙ its))
        (ordered_broken (λ d. []) e (superseded_entry new) refl (λ d is. absurd (unnamed_device new.progress d is)) (λ client. absurd (just.link client)) (λ client. absurd (named_client new.progress device just.named client))))
    by ended k (inr (apart, its)) (inl (same, two)) = absurd (apart same)
    by ended k (inr (apart, its)) (inr (aside, two)) =
        subst (λ (o : Option Entry). Ordered (λ d. []) (l.entries k) o) (sym (ap (λ (x : Ledger). x.entries k) ended ∙ (its ∙ (ap (λ (x : Ledger). x.entries k) just.after ∙ two)))) (ordered_still (l.entries k))
