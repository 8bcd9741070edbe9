-- The bytes sent to devices between one ledger and the next: those by which the due bytes of their connections grow.
use Rattle.std.proofs.Common.{◌≡◌, ◌≢◌, ℕ, Bool, true, false, List, [], ◌∷◌, ◌++◌, refl, sym, ◌∙◌, ap, subst, append_assoc, append-nil, Option, Some, None, inl, inr, arith}
use Rattle.std.specs.Prelude.{◌==◌, ◌⊎◌, if◌then◌else◌}
use Rattle.std.specs.List.{flat_map}
use Rattle.std.proofs.lemmas.Grind.{flat_map-append}
use Rattle.std.proofs.lemmas.Bool.Decides.{nat_tests}
use Rattle.base_types.specs.Report.{ReportRecord}
use Rattle.device_link.specs.Orders.{cancel_line}
use Rattle.print_room.specs.declared.started.Started.{Started}
use Rattle.print_room.specs.State.{State}
use Rattle.events.specs.declared.effects.Cancel.{Cancel}
use Rattle.dispatcher.specs.Notes.{Note}
use Rattle.dispatcher.specs.declared.handled.Dispatch.{Dispatch}
use Rattle.dispatcher.specs.declared.handled.Dispatch.TheVariants as dispatch
use Rattle.dispatcher.specs.Run.{Outcome}
use Rattle.connections.specs.Entry.{PeerRecord, Http, Queue, Link, Entry, device_of, broken, owing, superseded_entry, needs_memory, unnamed}
use Rattle.server.specs.Polls.{Happening}
use Rattle.server.specs.Ledger.{Ledger, at_key, with_entry, job_bytes}
use Rattle.server.specs.Rel.{Rel, Nothing, If, EachOf}
use Rattle.server.specs.Enqueuing.{EnqueuesOpen, EnqueuesAt, IsDevice, EnqueuesOn}
use Rattle.server.specs.Happening.{Sends, Starts, StartsBy, Orders}
use Rattle.promises.specs.Answers.{ClientTalk}
use Rattle.promises.specs.Orders.{began, began_by, canceled, cancel_for, start_for, run_note, run_notes}

-- ---- connections

-- a device gave its name on this connection, and it isn't broken
abbrev pub Counts : ℕ → Option Entry → Type 0
Counts device None = ⊥
Counts device (Some e) = (device_of e.progress ≡ Some device) × (e.broken ≡ false)

-- the connection has the device's name, and is broken
abbrev pub IsLost : ℕ → Option Entry → Type 0
IsLost device None = ⊥
IsLost device (Some e) = (device_of e.progress ≡ Some device) × (e.broken ≡ true)

abbrev pub due_at : Option Entry → List ℕ
due_at None = []
due_at (Some e) = e.due

-- the name is among the reports
abbrev pub HasReport : List ReportRecord → Type 0
HasReport [] = ⊥
HasReport (parsed ∷ reports) = Unit {0}

-- before a device gives its name nothing is due, and the name is a report
abbrev pub FreshTalk : PeerRecord → Entry → Type 0
FreshTalk (Http parsed closes body) e = Unit {0}
FreshTalk (Queue items session) e = Unit {0}
FreshTalk (Link reports None) e = e.broken ≡ false → e.due ≡ []
FreshTalk (Link reports (Some device)) e = e.broken ≡ false → HasReport reports

abbrev pub IsFresh : Option Entry → Type 0
IsFresh None = Unit {0}
IsFresh (Some e) = FreshTalk e.progress e

abbrev pub IsClient : Option Entry → Type 0
IsClient None = Unit {0}
IsClient (Some e) = ClientTalk e.progress

pub counts_device : (device : ℕ) (o : Option Entry) → Counts device o → IsDevice device o
counts_device device None is = absurd is
counts_device device (Some e) is = is.0

pub lost_device : (device : ℕ) (o : Option Entry) → IsLost device o → IsDevice device o
lost_device device None is = absurd is
lost_device device (Some e) is = is.0

pub same_key : (k key : ℕ) → (k == key) ≡ true → k ≡ key
same_key k key is = grind (arith, nat_tests, is)

pub other_key : (k key : ℕ) → (k == key) ≡ false → k ≢ key
other_key k key is = λ same. grind (arith, nat_tests, is, same)

pub is_key : (k : ℕ) → (k == k) ≡ true
is_key k = grind (arith, nat_tests)

pub not_key : (k key : ℕ) → k ≢ key → (k == key) ≡ false
not_key k key apart = grind (arith, nat_tests, apart)

-- the connection has the same number, more bytes may have been read on it, and it still drains if it did
pub record ReadsOn (d e : Entry) : Type 0 where
  pub same : e.id ≡ d.id
  pub more : List ℕ
  pub grown : e.read ≡ d.read ++ more
  pub drains : d.draining ≡ true → e.draining ≡ true

pub reads_still : (d e : Entry) → e.id ≡ d.id → e.read ≡ d.read → e.draining ≡ d.draining → ReadsOn d e
reads_still d e same read drains = record { same = same; more = []; grown = read ∙ sym (append-nil d.read); drains = λ is. drains ∙ is }

pub reads_same : (e : Entry) → ReadsOn e e
reads_same e = reads_still e e refl refl refl

pub reads_then : (d m e : Entry) → ReadsOn d m → ReadsOn m e → ReadsOn d e
reads_then d m e p q = record { same = q.same ∙ p.same; more = p.more ++ q.more; grown = q.grown ∙ (ap (λ (bytes : List ℕ). bytes ++ q.more) p.grown ∙ append_assoc d.read p.more q.more); drains = λ is. q.drains (p.drains is) }

-- a client's connection is unchanged, except that bytes may have been read or taken and that it may have broken
abbrev pub Stays : Option Entry → Option Entry → Type 0
Stays x y = (e : Entry) → y ≡ Some e → ClientTalk e.progress → (d : Entry) × (x ≡ Some d) × (d.progress ≡ e.progress) × (e.broken ≡ false → d.broken ≡ false) × (d.due ≡ e.due) × ReadsOn d e

stays_then : (x y z : Option Entry) → Stays x y → Stays y z → Stays x z
stays_then x y z p q e is client =
    let mid = q e is client in
    let first = p mid.0 mid.1 (subst ClientTalk (sym mid.2) client) in
    (first.0, first.1, first.2 ∙ mid.2, λ sound. first.3 (mid.3 sound), first.4 ∙ mid.4, reads_then first.0 mid.0 e first.5 mid.5)

pub one_entry : (d e : Entry) → Some d ≡ Some e → d ≡ e
one_entry d e same = cc

-- a broken connection was broken before, with the same bytes due; or it broke, and the bytes due on it are a prefix of the bytes that would be due
abbrev pub BreaksAs : (ℕ → List ℕ) → ℕ → Option Entry → Option Entry → Type 0
BreaksAs sent device x y = (IsLost device x × (due_at y ≡ due_at x)) ⊎ (Counts device x × (rest : List ℕ) × (due_at y ++ rest ≡ due_at x ++ sent device))

breaks_then : (sent more : ℕ → List ℕ) (device : ℕ) (x y z : Option Entry) → BreaksAs more device y z → (IsLost device y → BreaksAs sent device x y) → (Counts device y → Counts device x × (due_at y ≡ due_at x ++ sent device)) → BreaksAs (λ of. sent of ++ more of) device x z
breaks_then sent more device x y z (inl (was, same)) lost counts = by (lost was)
  where
    by : BreaksAs sent device x y → BreaksAs (λ of. sent of ++ more of) device x z
    by (inl (before, is)) = inl (before, same ∙ is)
    by (inr (before, rest, is)) =
        inr (before, rest ++ more device, ap (λ (bytes : List ℕ). bytes ++ (rest ++ more device)) same ∙ (sym (append_assoc (due_at y) rest (more device)) ∙ (ap (λ (bytes : List ℕ). bytes ++ more device) is ∙ append_assoc (due_at x) (sent device) (more device))))
breaks_then sent more device x y z (inr (is, rest, due)) lost counts =
    let first = counts is in
    inr (first.0, rest, due ∙ (ap (λ (bytes : List ℕ). bytes ++ more device) first.1 ∙ append_assoc (due_at x) (sent device) (more device)))

-- from one connection under a key to the next: the bytes sent to each device
pub record Ordered (sent : ℕ → List ℕ) (x y : Option Entry) : Type 0 where
  pub counts : (device : ℕ) → Counts device y → Counts device x × (due_at y ≡ due_at x ++ sent device)
  pub breaks : (device : ℕ) → IsLost device y → BreaksAs sent device x y
  pub device : (device : ℕ) → IsDevice device y → IsDevice device x
  pub fresh : IsFresh x → IsFresh y
  pub client : IsClient x → IsClient y
  pub stays : Stays x y

-- nothing is sent to a device
abbrev pub Unsent : (ℕ → List ℕ) → Option Entry → Type 0
Unsent sent o = (device : ℕ) → Counts device o → sent device ≡ []

pub ordered_same : (sent : ℕ → List ℕ) (x : Option Entry) → Unsent sent x → Ordered sent x x
ordered_same sent x none = record {
  counts = λ device is. (is, sym (append-nil (due_at x)) ∙ ap (λ (bytes : List ℕ). due_at x ++ bytes) (sym (none device is)));
  breaks = λ device is. inl (is, refl);
  device = λ device is. is;
  fresh = λ is. is;
  client = λ is. is;
  stays = λ e is client. (e, is, refl, λ sound. sound, refl, reads_same e);
}

pub ordered_still : (x : Option Entry) → Ordered (λ device. []) x x
ordered_still x = ordered_same (λ device. []) x (λ device is. refl)

pub ordered_then : (sent more : ℕ → List ℕ) (x y z : Option Entry) → Ordered sent x y → Ordered more y z → Ordered (λ device. sent device ++ more device) x z
ordered_then sent more x y z p q = record {
  counts = λ device is.
      let later = q.counts device is in
      let first = p.counts device later.0 in
      (first.0, later.1 ∙ (ap (λ (bytes : List ℕ). bytes ++ more device) first.1 ∙ append_assoc (due_at x) (sent device) (more device)));
  breaks = λ device is. breaks_then sent more device x y z (q.breaks device is) (p.breaks device) (p.counts device);
  device = λ device is. p.device device (q.device device is);
  fresh = λ is. q.fresh (p.fresh is);
  client = λ is. q.client (p.client is);
  stays = stays_then x y z p.stays q.stays;
}

-- ---- one connection

pub no_true : (t : Bool) → t ≡ true → t ≡ false → ⊥
no_true true p q = cc
no_true false p q = cc

pub client_none : (progress : PeerRecord) (device : ℕ) → ClientTalk progress → device_of progress ≡ Some device → ⊥
client_none (Http parsed closes body) device client is = cc
client_none (Queue items session) device client is = cc
client_none (Link reports other) device client is = client

pub client_fresh : (progress : PeerRecord) (e : Entry) → ClientTalk progress → FreshTalk progress e
client_fresh (Http parsed closes body) e client = tt
client_fresh (Queue items session) e client = tt
client_fresh (Link reports device) e client = absurd client

broken_fresh : (progress : PeerRecord) (e : Entry) → e.broken ≡ true → FreshTalk progress e
broken_fresh (Http parsed closes body) e is = tt
broken_fresh (Queue items session) e is = tt
broken_fresh (Link reports None) e is = λ not_broken. absurd (no_true e.broken is not_broken)
broken_fresh (Link reports (Some device)) e is = λ not_broken. absurd (no_true e.broken is not_broken)

-- a connection that is broken now, of the same peer, on which the same is due
pub ordered_broken : (sent : ℕ → List ℕ) (d e : Entry) → e.broken ≡ true → ((device : ℕ) → device_of e.progress ≡ Some device → (device_of d.progress ≡ Some device) × (e.due ≡ d.due)) → (ClientTalk d.progress → ClientTalk e.progress) → (ClientTalk e.progress → (d.progress ≡ e.progress) × (d.due ≡ e.due) × ReadsOn d e) → Ordered sent (Some d) (Some e)
ordered_broken sent d e is of_device of_client same_client = record {
  counts = λ device counts. absurd (no_true e.broken is counts.1);
  breaks = λ device lost. by device (of_device device lost.0) d.broken refl;
  device = λ device named. (of_device device named).0;
  fresh = λ fresh. broken_fresh e.progress e is;
  client = of_client;
  stays = λ f same client.
      let this = one_entry e f same in
      let it = same_client (subst (λ (x : Entry). ClientTalk x.progress) (sym this) client) in
      (d, refl, it.0 ∙ ap (λ (x : Entry). x.progress) this, λ sound. absurd (no_true e.broken is (ap (λ (x : Entry). x.broken) this ∙ sound)), it.1 ∙ ap (λ (x : Entry). x.due) this, subst (λ (x : Entry). ReadsOn d x) this it.2);
}
  where
    by : (device : ℕ) → (device_of d.progress ≡ Some device) × (e.due ≡ d.due) → (t : Bool) → d.broken ≡ t → BreaksAs sent device (Some d) (Some e)
    by device (named, due) true was = inl ((named, was), due)
    by device (named, due) false was = inr ((named, was), sent device, ap (λ (bytes : List ℕ). bytes ++ sent device) due)

still_fresh : (progress : PeerRecord) (d e : Entry) → e.broken ≡ d.broken → e.due ≡ d.due → FreshTalk progress d → FreshTalk progress e
still_fresh (Http parsed closes body) d e same due fresh = tt
still_fresh (Queue items session) d e same due fresh = tt
still_fresh (Link reports None) d e same due fresh = λ is. due ∙ fresh (sym same ∙ is)
still_fresh (Link reports (Some device)) d e same due fresh = λ is. fresh (sym same ∙ is)

-- a connection that changed in parts that no device notices
pub ordered_keeps : (d e : Entry) → e.progress ≡ d.progress → e.broken ≡ d.broken → e.due ≡ d.due → ReadsOn d e → Ordered (λ device. []) (Some d) (Some e)
ordered_keeps d e progress same due reads = record {
  counts = λ device is. ((ap device_of (sym progress) ∙ is.0, sym same ∙ is.1), due ∙ sym (append-nil d.due));
  breaks = λ device is. inl ((ap device_of (sym progress) ∙ is.0, sym same ∙ is.1), due);
  device = λ device is. ap device_of (sym progress) ∙ is;
  fresh = λ fresh. subst (λ (t : PeerRecord). FreshTalk t e) (sym progress) (still_fresh d.progress d e same due fresh);
  client = λ client. subst ClientTalk (sym progress) client;
  stays = λ f is client. let this = one_entry e f is in (d, refl, sym progress ∙ ap (λ (x : Entry). x.progress) this, λ sound. sym same ∙ (ap (λ (x : Entry). x.broken) this ∙ sound), sym due ∙ ap (λ (x : Entry). x.due) this, subst (λ (x : Entry). ReadsOn d x) this reads);
}

unnamed_none : (progress : PeerRecord) (device : ℕ) → device_of (unnamed progress) ≡ Some device → device_of progress ≡ Some device
unnamed_none (Http parsed closes body) device is = is
unnamed_none (Queue items session) device is = is
unnamed_none (Link reports other) device is = cc

unnamed_client : (progress : PeerRecord) → ClientTalk progress → ClientTalk (unnamed progress)
unnamed_client (Http parsed closes body) client = tt
unnamed_client (Queue items session) client = tt
unnamed_client (Link reports device) client = absurd client

unnamed_progress : (progress : PeerRecord) → ClientTalk (unnamed progress) → progress ≡ unnamed progress
unnamed_progress (Http parsed closes body) client = refl
unnamed_progress (Queue items session) client = refl
unnamed_progress (Link reports device) client = absurd client

pub ordered_given_up : (e : Entry) → Ordered (λ device. []) (Some e) (Some (superseded_entry e))
ordered_given_up e = ordered_broken (λ device. []) e (superseded_entry e) refl (λ device named. (unnamed_none e.progress device named, refl)) (unnamed_client e.progress) (λ client. (unnamed_progress e.progress client, refl, reads_still e (superseded_entry e) refl refl refl))

-- ---- ledgers

-- the core stays and notifies nothing, and this was sent to each device
pub record Sent (sent : ℕ → List ℕ) (l : Ledger) (hs : List Happening) (l' : Ledger) : Type 0 where
  pub core : l'.core ≡ l.core
  pub closed : l'.closed ≡ l.closed
  pub notes : run_notes hs ≡ []
  pub each : (key : ℕ) → Ordered sent (l.entries key) (l'.entries key)

-- nothing was sent
abbrev pub Calm : Rel
Calm = Sent (λ device. [])

pub notes_append : (hs ks : List Happening) → run_notes (hs ++ ks) ≡ run_notes hs ++ run_notes ks
notes_append hs ks = flat_map-append run_note hs ks

no_notes : (hs prefix back : List Happening) → hs ≡ prefix ++ back → run_notes prefix ≡ [] → run_notes back ≡ [] → run_notes hs ≡ []
no_notes hs prefix back whole p q = ap run_notes whole ∙ (notes_append prefix back ∙ (ap (λ (ns : List Note). ns ++ run_notes back) p ∙ q))

pub sent_then : (sent more : ℕ → List ℕ) (l : Ledger) (prefix : List Happening) (mid : Ledger) (back : List Happening) (l' : Ledger) (hs : List Happening) → hs ≡ prefix ++ back → Sent sent l prefix mid → Sent more mid back l' → Sent (λ device. sent device ++ more device) l hs l'
sent_then sent more l prefix mid back l' hs whole p q = record {
  core = q.core ∙ p.core;
  closed = q.closed ∙ p.closed;
  notes = no_notes hs prefix back whole p.notes q.notes;
  each = λ key. ordered_then sent more (l.entries key) (mid.entries key) (l'.entries key) (p.each key) (q.each key);
}

pub breaks_same : (sent other : ℕ → List ℕ) (device : ℕ) (x y : Option Entry) → other device ≡ sent device → BreaksAs sent device x y → BreaksAs other device x y
breaks_same sent other device x y same (inl was) = inl was
breaks_same sent other device x y same (inr (counts, rest, is)) = inr (counts, rest, is ∙ ap (λ (bytes : List ℕ). due_at x ++ bytes) (sym same))

pub calm_still : (l : Ledger) (hs : List Happening) (l' : Ledger) → run_notes hs ≡ [] → l' ≡ l → Calm l hs l'
calm_still l hs l' silent same = record {
  core = ap (λ (x : Ledger). x.core) same;
  closed = ap (λ (x : Ledger). x.closed) same;
  notes = silent;
  each = λ key. subst (λ (x : Ledger). Ordered (λ device. []) (l.entries key) (x.entries key)) (sym same) (ordered_still (l.entries key));
}

-- if each connection is unchanged, nothing was sent
pub sent_still : (sent : ℕ → List ℕ) (l : Ledger) (hs : List Happening) (l' : Ledger) → run_notes hs ≡ [] → l' ≡ l → ((key : ℕ) → Unsent sent (l.entries key)) → Sent sent l hs l'
sent_still sent l hs l' silent same none = record {
  core = ap (λ (x : Ledger). x.core) same;
  closed = ap (λ (x : Ledger). x.closed) same;
  notes = silent;
  each = λ key. subst (λ (x : Ledger). Ordered sent (l.entries key) (x.entries key)) (sym same) (ordered_same sent (l.entries key) (none key));
}

by_test : (sent : ℕ → List ℕ) (t : Bool) (x o y : Option Entry) → (t ≡ true → Ordered sent x o) → (t ≡ false → Ordered sent x y) → Ordered sent x (if t then o else y)
by_test sent true x o y p q = p refl
by_test sent false x o y p q = q refl

-- another connection, or none, under one key
pub ordered_at : (sent : ℕ → List ℕ) (key : ℕ) (o : Option Entry) (entries : ℕ → Option Entry) → Ordered sent (entries key) o → ((other : ℕ) → other ≢ key → Unsent sent (entries other)) → (other : ℕ) → Ordered sent (entries other) (at_key key o entries other)
ordered_at sent key o entries here there other =
    by_test sent (other == key) (entries other) o (entries other) (λ is. subst (λ (k : ℕ). Ordered sent (entries k) o) (sym (same_key other key is)) here) (λ is. ordered_same sent (entries other) (there other (other_key other key is)))

pub sent_sets : (sent : ℕ → List ℕ) (key : ℕ) (d e : Entry) (l : Ledger) (hs : List Happening) (l' : Ledger) → l.entries key ≡ Some d → Ordered sent (Some d) (Some e) → ((other : ℕ) → other ≢ key → Unsent sent (l.entries other)) → run_notes hs ≡ [] → l' ≡ with_entry key e l → Sent sent l hs l'
sent_sets sent key d e l hs l' there here others silent after = record {
  core = ap (λ (x : Ledger). x.core) after;
  closed = ap (λ (x : Ledger). x.closed) after;
  notes = silent;
  each = λ other.
      subst (λ (x : Ledger). Ordered sent (l.entries other) (x.entries other)) (sym after)
      (ordered_at sent key (Some e) l.entries (subst (λ (o : Option Entry). Ordered sent o (Some e)) (sym there) here) others other);
}

pub calm_sets : (key : ℕ) (d e : Entry) (l : Ledger) (hs : List Happening) (l' : Ledger) → l.entries key ≡ Some d → Ordered (λ device. []) (Some d) (Some e) → run_notes hs ≡ [] → l' ≡ with_entry key e l → Calm l hs l'
calm_sets key d e l hs l' there here silent after = sent_sets (λ device. []) key d e l hs l' there here (λ other apart device is. refl) silent after

pub breaking : (e : Entry) → Ordered (λ device. []) (Some e) (Some (broken e))
breaking e = ordered_broken (λ device. []) e (broken e) refl (λ device is. (is, refl)) (λ client. client) (λ client. (refl, refl, reads_still e (broken e) refl refl refl))

-- ---- bytes that are enqueued on a device's connection

-- two open connections are two devices', none has anything due before its name, and the name is a report
pub record Good (l : Ledger) : Type 0 where
  pub one : (device key other : ℕ) → IsDevice device (l.entries key) → IsDevice device (l.entries other) → key ≡ other
  pub fresh : (key : ℕ) → IsFresh (l.entries key)

pub good_sent : (sent : ℕ → List ℕ) (l : Ledger) (hs : List Happening) (l' : Ledger) → Sent sent l hs l' → Good l → Good l'
good_sent sent l hs l' s good = record {
  one = λ device key other p q. good.one device key other ((s.each key).device device p) ((s.each other).device device q);
  fresh = λ key. (s.each key).fresh (good.fresh key);
}

-- these bytes, to this device
abbrev pub to_device : ℕ → List ℕ → ℕ → List ℕ
to_device device bytes other = if device == other then bytes else []

sent_if : (t : Bool) (bytes : List ℕ) → (t ≡ true → ⊥) → (if t then bytes else []) ≡ []
sent_if true bytes never = absurd (never refl)
sent_if false bytes never = refl

-- no connection of the device is there
unsent_to : (device : ℕ) (bytes : List ℕ) (o : Option Entry) → (IsDevice device o → ⊥) → Unsent (to_device device bytes) o
unsent_to device bytes o absent other is = sent_if (device == other) bytes (λ same. absent (subst (λ (d : ℕ). IsDevice d o) (sym (same_key device other same)) (counts_device other o is)))

one_device : (o : Option ℕ) (device other : ℕ) → o ≡ Some device → o ≡ Some other → device ≡ other
one_device o device other p q = cc

to_this : (device other : ℕ) (bytes : List ℕ) → device ≡ other → bytes ≡ to_device device bytes other
to_this device other bytes same = subst (λ (d : ℕ). bytes ≡ to_device device bytes d) same (sym (ap (λ (t : Bool). if t then bytes else []) (is_key device)))

owing_to : (device : ℕ) (bytes : List ℕ) (e : Entry) → device_of e.progress ≡ Some device → e.broken ≡ false → Ordered (to_device device bytes) (Some e) (Some (owing bytes e))
owing_to device bytes e is unbroken = record {
  breaks = λ other lost. absurd (no_true e.broken lost.1 unbroken);
  counts = λ other counts. (counts, ap (λ (more : List ℕ). e.due ++ more) (to_this device other bytes (one_device (device_of e.progress) device other is counts.0)));
  device = λ other named. named;
  fresh = λ fresh. named_fresh e.progress is fresh;
  client = λ client. client;
  stays = λ f same client. absurd (client_none e.progress device (subst ClientTalk (sym (ap (λ (x : Entry). x.progress) (one_entry (owing bytes e) f same))) client) is);
}
  where
    named_fresh : (progress : PeerRecord) → device_of progress ≡ Some device → FreshTalk progress e → FreshTalk progress (owing bytes e)
    named_fresh (Http parsed closes body) named fresh = tt
    named_fresh (Queue items session) named fresh = tt
    named_fresh (Link reports None) named fresh = cc
    named_fresh (Link reports (Some other)) named fresh = fresh

broken_unsent : (sent : ℕ → List ℕ) (e : Entry) → e.broken ≡ true → Unsent sent (Some e)
broken_unsent sent e is device counts = absurd (no_true e.broken is counts.1)

enqueues_open : (grows : Bool) (device key : ℕ) (bytes : List ℕ) (e : Entry) (l : Ledger) (hs : List Happening) (l' : Ledger) → e.broken ≡ false → l.entries key ≡ Some e → device_of e.progress ≡ Some device → ((other : ℕ) → other ≢ key → IsDevice device (l.entries other) → ⊥) → EnqueuesOpen grows key bytes e l hs l' → Sent (to_device device bytes) l hs l'
enqueues_open false device key bytes e l hs l' unbroken there is others it =
    sent_sets (to_device device bytes) key e (owing bytes e) l hs l' there (owing_to device bytes e is unbroken) (λ other apart. unsent_to device bytes (l.entries other) (others other apart))
    (ap run_notes it.0) it.1
enqueues_open true device key bytes e l hs l' unbroken there is others (inl it) =
    let started : it.mid ≡ l = it.first.1 in
    sent_sets (to_device device bytes) key e (owing bytes e) l hs l' there (owing_to device bytes e is unbroken) (λ other apart. unsent_to device bytes (l.entries other) (others other apart))
    (no_notes hs it.prefix it.back it.whole (ap run_notes it.first.0) (ap run_notes it.second.0)) (it.second.1 ∙ ap (λ (x : Ledger). with_entry key (owing bytes e) x) started)
enqueues_open true device key bytes e l hs l' unbroken there is others (inr it) =
    sent_sets (to_device device bytes) key e (broken e) l hs l' there (ordered_broken (to_device device bytes) e (broken e) refl (λ other named. (named, refl)) (λ client. client) (λ client. (refl, refl, reads_still e (broken e) refl refl refl))) (λ other apart. unsent_to device bytes (l.entries other) (others other apart))
    (ap run_notes it.0) it.1

enqueues_if : (t grows : Bool) (device key : ℕ) (bytes : List ℕ) (e : Entry) (l : Ledger) (hs : List Happening) (l' : Ledger) → e.broken ≡ t → l.entries key ≡ Some e → device_of e.progress ≡ Some device → ((other : ℕ) → other ≢ key → IsDevice device (l.entries other) → ⊥) → If t Nothing (EnqueuesOpen grows key bytes e) l hs l' → Sent (to_device device bytes) l hs l'
enqueues_if false grows device key bytes e l hs l' broken there is others it = enqueues_open grows device key bytes e l hs l' broken there is others it
enqueues_if true grows device key bytes e l hs l' broken there is others it = sent_still (to_device device bytes) l hs l' (ap run_notes it.0) it.1 unsent
  where
    here : (k : ℕ) → k ≡ key → Unsent (to_device device bytes) (l.entries k)
    here k same = subst (λ (o : Option Entry). Unsent (to_device device bytes) o) (sym (ap l.entries same ∙ there)) (broken_unsent (to_device device bytes) e broken)

    by : (k : ℕ) (s : Bool) → (k == key) ≡ s → Unsent (to_device device bytes) (l.entries k)
    by k true same = here k (same_key k key same)
    by k false same = unsent_to device bytes (l.entries k) (others k (other_key k key same))

    unsent : (k : ℕ) → Unsent (to_device device bytes) (l.entries k)
    unsent k = by k (k == key) refl

enqueues_at : (refusable : Entry → Bool) (device key : ℕ) (bytes : List ℕ) (o : Option Entry) (l : Ledger) (hs : List Happening) (l' : Ledger) → l.entries key ≡ o → IsDevice device o → ((other : ℕ) → other ≢ key → IsDevice device (l.entries other) → ⊥) → EnqueuesAt refusable key bytes o l hs l' → Sent (to_device device bytes) l hs l'
enqueues_at refusable device key bytes None l hs l' there is others it = absurd is
enqueues_at refusable device key bytes (Some e) l hs l' there is others it = enqueues_if e.broken (refusable e) device key bytes e l hs l' refl there is others it

-- bytes enqueued for a device are sent to that device, and to no other
pub enqueues_on : (refusable : Entry → Bool) (device : ℕ) (bytes : List ℕ) (l : Ledger) (hs : List Happening) (l' : Ledger) → Good l → EnqueuesOn refusable device bytes l hs l' → Sent (to_device device bytes) l hs l'
enqueues_on refusable device bytes l hs l' good (inl (key, is, it)) =
    enqueues_at refusable device key bytes (l.entries key) l hs l' refl is.0 (λ other apart there. apart (good.one device other key there is.0)) it
enqueues_on refusable device bytes l hs l' good (inr (absent, it)) = sent_still (to_device device bytes) l hs l' (ap run_notes it.0) it.1 (λ key. unsent_to device bytes (l.entries key) (absent key))

-- ---- all of an event

sends_each : (cancels : List Cancel) (l : Ledger) (hs : List Happening) (l' : Ledger) → Good l → EachOf cancels Sends l hs l' → Sent (λ device. flat_map (cancel_for device) cancels) l hs l'
sends_each [] l hs l' good it = calm_still l hs l' (ap run_notes it.0) it.1
sends_each (cancel ∷ cancels) l hs l' good it =
    let first = enqueues_on (needs_memory (cancel_line cancel.job)) cancel.device (cancel_line cancel.job) l it.prefix it.mid good it.first in
    let later = sends_each cancels it.mid it.back l' (good_sent (to_device cancel.device (cancel_line cancel.job)) l it.prefix it.mid first good) it.second in
    sent_then (to_device cancel.device (cancel_line cancel.job)) (λ device. flat_map (cancel_for device) cancels) l it.prefix it.mid it.back l' hs it.whole first later

starts_each : (core : State) (starts : List Started) (l : Ledger) (hs : List Happening) (l' : Ledger) → l.core ≡ core → Good l → EachOf starts Starts l hs l' → Sent (λ device. flat_map (start_for device core) starts) l hs l'
starts_each core [] l hs l' is good it = calm_still l hs l' (ap run_notes it.0) it.1
starts_each core (start ∷ starts) l hs l' is good it =
    let kept : EnqueuesOn (λ e. true) start.device (job_bytes core start.job) l it.prefix it.mid = subst (λ (c : State). EnqueuesOn (λ e. true) start.device (job_bytes c start.job) l it.prefix it.mid) is it.first in
    let first = enqueues_on (λ e. true) start.device (job_bytes core start.job) l it.prefix it.mid good kept in
    let later = starts_each core starts it.mid it.back l' (first.core ∙ is) (good_sent (to_device start.device (job_bytes core start.job)) l it.prefix it.mid first good) it.second in
    sent_then (to_device start.device (job_bytes core start.job)) (λ device. flat_map (start_for device core) starts) l it.prefix it.mid it.back l' hs it.whole first later

-- the bytes that an event sends to a device
abbrev pub sent_by : Outcome → State → ℕ → List ℕ
sent_by outcome core device = flat_map (cancel_for device) (canceled outcome) ++ flat_map (start_for device core) (began outcome core)

starts_by : (made : Dispatch) (core : State) (l : Ledger) (hs : List Happening) (l' : Ledger) → l.core ≡ core → Good l → StartsBy made l hs l' → Sent (λ device. flat_map (start_for device core) (began_by made core)) l hs l'
starts_by dispatch.Query core l hs l' is good it = calm_still l hs l' (ap run_notes it.0) it.1
starts_by dispatch.OutOfMemory core l hs l' is good it = calm_still l hs l' (ap run_notes it.0) it.1
starts_by dispatch.Idle core l hs l' is good it = calm_still l hs l' (ap run_notes it.0) it.1
starts_by dispatch.Planned core l hs l' is good it = starts_each core core.begun l hs l' is good (subst (λ (c : State). EachOf c.begun Starts l hs l') is it)

pub orders : (outcome : Outcome) (l : Ledger) (hs : List Happening) (l' : Ledger) → Good l → Orders outcome l hs l' → Sent (sent_by outcome l.core) l hs l'
orders (Some handled) l hs l' good it =
    let first = sends_each handled.effects.cancels.items l it.prefix it.mid good it.first in
    let later = starts_by handled.dispatch l.core it.mid it.back l' first.core (good_sent (λ device. flat_map (cancel_for device) handled.effects.cancels.items) l it.prefix it.mid first good) it.second in
    sent_then (λ device. flat_map (cancel_for device) handled.effects.cancels.items) (λ device. flat_map (start_for device l.core) (began_by handled.dispatch l.core)) l it.prefix it.mid it.back l' hs it.whole first later
orders None l hs l' good it = calm_still l hs l' (ap run_notes it.0) it.1
