-- The engine makes bytes due on a connection.
use Rattle.std.proofs.Common.{◌≡◌, ◌≤◌, ◌<◌, ◌+◌, arith, ℕ, Bool, true, false, List, [], ◌∷◌, ◌++◌, length, drop, refl, sym, ◌∙◌, ap, subst, append_assoc, Option, Some, None, inl, inr}
use Rattle.std.specs.Prelude.{slice_index_or, slice_set, nat_lt, is_some, ◌||◌, if◌then◌else◌}
use Rattle.std.specs.Option.{option_map_or}
use Rattle.std.proofs.lemmas.Bool.Decides.{nat_tests}
use Rattle.connections.specs.Reply.{http_reply}
use Rattle.connections.specs.declared.queue.TheConstants.{RESERVED_BYTES}
use Rattle.events.specs.declared.status.Status.{Status}
use Rattle.dispatcher.specs.declared.observer.AllocationSite.TheVariants.{Enqueue}
use Rattle.dispatcher.specs.Notes.{Note, Refused}
use Rattle.ipp_operations.specs.Reply.{refusal_bytes}
use Rattle.connections.specs.declared.peer.Peer.{Peer}
use Rattle.connections.specs.declared.peer.Peer.TheVariants as of
use Rattle.connections.specs.Entry.{PeerRecord, Entry, waiting, broken, owing, needs_memory, unnamed, superseded_entry, closes_of}
use Rattle.connections.specs.Peers.{work, closes_of as closes_in, unnamed as has_no_name}
use Rattle.connections.specs.Steps.{http_status}
use Rattle.connections.specs.Connections.{ConnectionState, EnqueuesAs, is_kept, is_broken, superseded, load}
use Rattle.connections.specs.Representation.{FitsPeer, RepresentsConnection}
use Rattle.connections.specs.Slots.{EnqueuesAt as EnqueuesSlot, IsGrowth, output_at, closes_at}
use Rattle.server.specs.Polls.{Happening, Notified, Chosen, Found, seen, alone}
use Rattle.server.specs.Ledger.{Ledger, with_entry}
use Rattle.server.specs.Rel.{Nothing}
use Rattle.server.specs.Enqueuing.{Sets, EnqueuesOpen, EnqueuesAt, EnqueuesWhere, Enqueues, EnqueuesReplyAt, EnqueuesResponse, EnqueuesStatus}
use Rattle.server.specs.State.{EngineState, slot_at, with_slots}
use Rattle.server.specs.Refinement.{RepresentsOpen, RefinesQuietly, RefinesReporting, NotifiedOf}
use Rattle.server.proofs.Steps.{quietly_same, quietly_as, reporting_flag, if_true, if_false, chosen_first}
use Rattle.server.proofs.Slots.{set_same}
use Rattle.server.proofs.Places.{absent, found, refines_at, quietly_at}

-- new due bytes are after the waiting bytes
pub fits_kept : (e : Entry) (c : ConnectionState) (bytes : List ℕ) → RepresentsConnection e c → RepresentsConnection (owing bytes e) (is_kept bytes c)
fits_kept e c bytes f = record {
  id = f.id;
  peer = f.peer;
  ended = f.ended;
  draining = f.draining;
  broken = f.broken;
  due = sym (append_assoc e.taken c.output bytes) ∙ ap (λ (o : List ℕ). o ++ bytes) f.due;
}

-- a peer fits the entry of a broken connection if it fitted the entry before
broken_peer : (read : List ℕ) (progress : PeerRecord) (off : Bool) (p : Peer) → FitsPeer read progress off p → FitsPeer read progress true p
broken_peer read progress off (of.Ipp t) f = f
broken_peer read progress off (of.Lpd t) f = f
broken_peer read progress off (of.Device t) f = record { reports = f.reports; is = f.is; linked = λ no. let never : true ≡ false = no in cc }

pub fits_broken : (e : Entry) (c : ConnectionState) → RepresentsConnection e c → RepresentsConnection (broken e) (is_broken c)
fits_broken e c f = record { id = f.id; peer = broken_peer e.read e.progress e.broken c.peer f.peer; ended = f.ended; draining = f.draining; broken = refl; due = f.due }

given_peer : (read : List ℕ) (progress : PeerRecord) (off : Bool) (p : Peer) → FitsPeer read progress off p → FitsPeer read (unnamed progress) true (has_no_name p)
given_peer read progress off (of.Ipp t) f = record { parsed = f.parsed; body = f.body; unreported = f.unreported; all_reported = f.all_reported; is = ap unnamed f.is; reaches = f.reaches; body_read = f.body_read }
given_peer read progress off (of.Lpd t) f = record { items = f.items; is = ap unnamed f.is; reaches = f.reaches }
given_peer read progress off (of.Device t) f = record { reports = f.reports; is = ap unnamed f.is; linked = λ no. let never : true ≡ false = no in cc }

pub fits_given : (e : Entry) (c : ConnectionState) → RepresentsConnection e c → RepresentsConnection (superseded_entry e) (superseded c)
fits_given e c f = record { id = f.id; peer = given_peer e.read e.progress e.broken c.peer f.peer; ended = f.ended; draining = f.draining; broken = refl; due = f.due }

-- ---- the load of a connection

nothing_off : (x y : Bool) (n : ℕ) → (if x || true then 0 else n) ≤ (if x || y then 0 else n)
nothing_off true y n = omega arith
nothing_off false y n = omega arith

pub load_broken : (c : ConnectionState) → load (is_broken c) ≤ load c
load_broken c = nothing_off c.draining c.broken (1 + work c.peer)

none_off : (x : Bool) (n m : ℕ) → (if x || true then 0 else n) ≤ m
none_off true n m = omega arith
none_off false n m = omega arith

pub load_given : (c : ConnectionState) → load (superseded c) ≤ load c
load_given c = none_off c.draining (1 + work (has_no_name c.peer)) (load c)

pub load_as : (c d e : ConnectionState) → d ≡ e → load e ≤ load c → load d ≤ load c
load_as c d e is less = subst (λ (x : ConnectionState). load x ≤ load c) (sym is) less

-- ---- the waiting bytes

drop_prefix-append : (xs ys : List ℕ) → drop (length xs) (xs ++ ys) ≡ ys
drop_prefix-append [] ys = refl
drop_prefix-append (x ∷ xs) ys = drop_prefix-append xs ys

-- the waiting bytes by the entry are the bytes that the connection holds
pub waits : (e : Entry) (c : ConnectionState) → RepresentsConnection e c → waiting e ≡ c.output
waits e c f = ap (λ (due : List ℕ). drop (length e.taken) due) (sym f.due) ∙ drop_prefix-append e.taken c.output

-- ---- due bytes

-- if memory was refused, `grows` says that memory may be refused for the connection
abbrev pub IsGrowthWhere : (Entry → Bool) → List (Option ConnectionState) → ℕ → Option ℕ → Type 0
IsGrowthWhere grows slots key broke = is_some broke ≡ true → (c : ConnectionState) (e : Entry) → slice_index_or slots key None ≡ Some c → RepresentsConnection e c → grows e ≡ true

pub enqueues_from : (grows : Entry → Bool) (key : ℕ) (bytes : List ℕ) (l : Ledger) (hs : List Happening) (l' : Ledger) (o : Option Entry) → l.entries key ≡ o → EnqueuesAt grows key bytes o l hs l' → EnqueuesWhere grows key bytes l hs l'
enqueues_from grows key bytes l hs l' o is it = subst (λ (x : Option Entry). EnqueuesAt grows key bytes x l hs l') (sym is) it

-- the choice that memory was found, if memory may be refused
abbrev pub found_where : Bool → List Happening
found_where true = Chosen Found ∷ []
found_where false = []

pub nothing_seen : (grows : Bool) → seen (found_where grows) ≡ []
nothing_seen true = refl
nothing_seen false = refl

pub open_kept : (grows : Bool) (key : ℕ) (bytes : List ℕ) (e : Entry) (l : Ledger) → EnqueuesOpen grows key bytes e l (found_where grows) (with_entry key (owing bytes e) l)
open_kept true key bytes e l = inl (chosen_first Found (Sets key (owing bytes e)) l [] (with_entry key (owing bytes e) l) (refl, refl))
open_kept false key bytes e l = (refl, refl)

pub open_dropped : (grows : Bool) (key : ℕ) (bytes : List ℕ) (e : Entry) (l : Ledger) (hs : List Happening) → grows ≡ true → hs ≡ Notified (Refused Enqueue (Some e.id)) ∷ [] → EnqueuesOpen grows key bytes e l hs (with_entry key (broken e) l)
open_dropped true key bytes e l hs is notified = inr (notified, refl)
open_dropped false key bytes e l hs is notified = cc

-- bytes become due on a connection, or the connection is broken and unchanged
unfoldable pub kept_where : {N : Type 0} (notified : N → Note → N → Type 0) (n n' : N) (a : EngineState) (slots : List (Option ConnectionState)) (key : ℕ) (bytes : List ℕ) (grows : Entry → Bool) (c d : ConnectionState)
    → slice_index_or a.slots key None ≡ Some c → slots ≡ slice_set a.slots key (Some d) → EnqueuesAs bytes false c d → n' ≡ n → RefinesQuietly (alone notified) (EnqueuesWhere grows key bytes) n a n' (with_slots slots a)
unfolding quietly_same quietly_at refines_at
kept_where notified n n' a slots key bytes grows c d was is (inl (off, still)) same =
    let as_before : slots ≡ a.slots = is ∙ (ap (λ (k : ConnectionState). slice_set a.slots key (Some k)) still ∙ set_same a.slots key c was) in
    quietly_same (alone notified) (EnqueuesWhere grows key bytes) [] n n' a (with_slots slots a) same (ap (λ (xs : List (Option ConnectionState)). with_slots xs a) as_before)
    (λ l fits.
    let f = found l a key c fits was in
    ([], refl, enqueues_from grows key bytes l [] l (Some f.entry) f.there (if_true f.entry.broken Nothing (EnqueuesOpen (grows f.entry) key bytes f.entry) l [] l (sym f.fits.broken ∙ off) (refl, refl))))
kept_where notified n n' a slots key bytes grows c d was is (inr (whole, now)) same =
    quietly_at (alone notified) (EnqueuesWhere grows key bytes) [] n n' a slots key c d same was is (load_as c d (is_kept bytes c) now (omega arith))
    (λ l e fits there f.
    let e' : Entry = owing bytes e in (
      e',
      subst (λ (k : ConnectionState). RepresentsConnection e' k) (sym now) (fits_kept e c bytes f),
      (
        found_where (grows e),
        nothing_seen (grows e),
        enqueues_from grows key bytes l (found_where (grows e)) (with_entry key e' l) (Some e) there
            (if_false e.broken Nothing (EnqueuesOpen (grows e) key bytes e) l (found_where (grows e)) (with_entry key e' l) (sym f.broken ∙ whole) (open_kept (grows e) key bytes e l)),
      ),
    ))

-- bytes are enqueued in the table, and the observer is notified of a connection that broke
unfoldable pub enqueues_where : {N : Type 0} (notified : N → Note → N → Type 0) (n n' : N) (a : EngineState) (slots : List (Option ConnectionState)) (key : ℕ) (bytes : List ℕ) (grows : Entry → Bool) (broke : Option ℕ)
    → EnqueuesSlot key bytes broke a.slots slots → IsGrowthWhere grows a.slots key broke → NotifiedOf notified broke n n' → RefinesQuietly (alone notified) (EnqueuesWhere grows key bytes) n a n' (with_slots slots a)
enqueues_where notified n n' a slots key bytes grows None (inl none) growth same =
    quietly_same (alone notified) (EnqueuesWhere grows key bytes) [] n n' a (with_slots slots a) same (ap (λ (xs : List (Option ConnectionState)). with_slots xs a) none.same)
    (λ l fits. ([], refl, enqueues_from grows key bytes l [] l None (absent l a key fits none.there) (refl, refl)))
enqueues_where notified n n' a slots key bytes grows None (inr on) growth same = kept_where notified n n' a slots key bytes grows on.before on.after on.there on.slots on.changes same
enqueues_where notified n n' a slots key bytes grows (Some id) on growth notifies =
    quietly_at (alone notified) (EnqueuesWhere grows key bytes) (Notified (Refused Enqueue (Some id)) ∷ []) n n' a slots key on.before on.after (n', notifies, refl) on.there on.slots (load_as on.before on.after (is_broken on.before) on.changes.1.1 (load_broken on.before))
    (λ l e fits there f.
    let hs : List Happening = Notified (Refused Enqueue (Some id)) ∷ [] in
    let same : id ≡ e.id = sym on.changes.0 ∙ f.id in
    let it : EnqueuesOpen (grows e) key bytes e l hs (with_entry key (broken e) l) = open_dropped (grows e) key bytes e l hs (growth refl on.before e on.there f) (ap (λ (i : ℕ). Notified (Refused Enqueue (Some i)) ∷ []) same) in (
      broken e,
      subst (λ (d : ConnectionState). RepresentsConnection (broken e) d) (sym on.changes.1.1) (fits_broken e on.before f),
      (hs, refl, enqueues_from grows key bytes l hs (with_entry key (broken e) l) (Some e) there (if_false e.broken Nothing (EnqueuesOpen (grows e) key bytes e) l hs (with_entry key (broken e) l) (sym f.broken ∙ on.changes.1.0) it)),
    ))

above : (most n : ℕ) → most < n → nat_lt most n ≡ true
above most n more = grind (arith, nat_tests, more)

-- bytes without room in the reserve need memory
growth_at : (bytes : List ℕ) (slots : List (Option ConnectionState)) (key id : ℕ) (c : ConnectionState) (e : Entry) → RESERVED_BYTES < length (output_at key slots ++ bytes) → slice_index_or slots key None ≡ Some c → RepresentsConnection e c → needs_memory bytes e ≡ true
growth_at bytes slots key id c e more there f =
    let held : output_at key slots ≡ waiting e = ap (λ (o : Option ConnectionState). option_map_or (λ (d : ConnectionState). d.output) o []) there ∙ sym (waits e c f) in
    above RESERVED_BYTES (length (waiting e ++ bytes)) (subst (λ (w : List ℕ). RESERVED_BYTES < length (w ++ bytes)) held more)

pub growth_as : (bytes : List ℕ) (slots : List (Option ConnectionState)) (key : ℕ) (broke : Option ℕ) → IsGrowth key bytes broke slots → IsGrowthWhere (needs_memory bytes) slots key broke
growth_as bytes slots key None more is c e there f = cc
growth_as bytes slots key (Some id) more is c e there f = growth_at bytes slots key id c e more there f

pub enqueues : {N : Type 0} (notified : N → Note → N → Type 0) (n n' : N) (a : EngineState) (slots : List (Option ConnectionState)) (key : ℕ) (bytes : List ℕ) (broke : Option ℕ)
    → EnqueuesSlot key bytes broke a.slots slots → IsGrowth key bytes broke a.slots → NotifiedOf notified broke n n' → RefinesQuietly (alone notified) (Enqueues key bytes) n a n' (with_slots slots a)
enqueues notified n n' a slots key bytes broke enqueue full notifies = enqueues_where notified n n' a slots key bytes (needs_memory bytes) broke enqueue (growth_as bytes a.slots key broke full) notifies

-- ---- a reply, by whether the connection closes after it

closes_by : (read : List ℕ) (progress : PeerRecord) (off : Bool) (p : Peer) → FitsPeer read progress off p → closes_in p ≡ closes_of progress
closes_by read progress off (of.Ipp t) f = sym (ap closes_of f.is)
closes_by read progress off (of.Lpd t) f = sym (ap closes_of f.is)
closes_by read progress off (of.Device t) f = sym (ap closes_of f.is)

closes_as : (e : Entry) (c : ConnectionState) → RepresentsConnection e c → closes_in c.peer ≡ closes_of e.progress
closes_as e c f = closes_by e.read e.progress e.broken c.peer f.peer

enqueues_reply_from : (bytes : Bool → List ℕ) (key : ℕ) (l : Ledger) (a : EngineState) (hs : List Happening) (l' : Ledger) (x : Option Entry) (y : Option ConnectionState) → l.entries key ≡ x → RepresentsOpen x y → Enqueues key (bytes (option_map_or (λ c. closes_in c.peer) y false)) l hs l' → EnqueuesReplyAt bytes key x l hs l'
enqueues_reply_from bytes key l a hs l' None y there fits it = subst (λ (o : Option Entry). EnqueuesAt (needs_memory (bytes (option_map_or (λ c. closes_in c.peer) y false))) key (bytes (option_map_or (λ c. closes_in c.peer) y false)) o l hs l') there it
enqueues_reply_from bytes key l a hs l' (Some e) None there fits it = absurd fits
enqueues_reply_from bytes key l a hs l' (Some e) (Some c) there fits it = subst (λ (closes : Bool). Enqueues key (bytes closes) l hs l') (closes_as e c fits) it

pub enqueues_reply : {S : Type 0} {moves : S → Happening → S → Type 0} {u v : S} {a b : EngineState} {key : ℕ} (body : List ℕ) (closes : Bool) → closes ≡ closes_at key a.slots
    → RefinesQuietly moves (Enqueues key (http_reply closes body)) u a v b → RefinesQuietly moves (EnqueuesResponse key body) u a v b
enqueues_reply {S} {moves} {u} {v} {a} {b} {key} body closes is enqueue =
    quietly_as moves (Enqueues key (http_reply closes body)) (EnqueuesResponse key body) u v a b
    (λ l hs l' fits fits' it. enqueues_reply_from (λ closes. http_reply closes body) key l a hs l' (l.entries key) (slot_at a key) refl (fits.each key) (subst (λ (x : Bool). Enqueues key (http_reply x body) l hs l') is it)) enqueue

-- a reply of the bytes of a status alone
pub enqueues_status : {S : Type 0} {moves : S → Happening → S → Type 0} {u v : S} {a b : EngineState} {bytes : List ℕ} (key : ℕ) (status : Status) (request : ℕ) → bytes ≡ refusal_bytes status request
    → RefinesQuietly moves (EnqueuesResponse key bytes) u a v b → RefinesQuietly moves (EnqueuesStatus key status request) u a v b
unfolding http_status
enqueues_status {S} {moves} {u} {v} {a} {b} key status request is reply = subst (λ (xs : List ℕ). RefinesQuietly moves (EnqueuesResponse key xs) u a v b) is reply

kept_openly : {N : Type 0} (notified : N → Note → N → Type 0) (n n' : N) (a : EngineState) (slots : List (Option ConnectionState)) (key : ℕ) (bytes : List ℕ) (grows : Entry → Bool) (c d : ConnectionState)
    → slice_index_or a.slots key None ≡ Some c → slots ≡ slice_set a.slots key (Some d) → EnqueuesAs bytes false c d → n' ≡ n → RefinesReporting (alone notified) (EnqueuesWhere grows key bytes) n a n' (with_slots slots a) false
unfolding quietly_same quietly_at refines_at kept_where
kept_openly notified n n' a slots key bytes grows c d was is (inl still) same = record { refines = kept_where notified n n' a slots key bytes grows c d was is (inl still) same; is = refl }
kept_openly notified n n' a slots key bytes grows c d was is (inr now) same = record { refines = kept_where notified n n' a slots key bytes grows c d was is (inr now) same; is = refl }

-- as `enqueues_where`, and the flag says whether memory was refused
pub enqueues_openly : {N : Type 0} (notified : N → Note → N → Type 0) (n n' : N) (a : EngineState) (slots : List (Option ConnectionState)) (key : ℕ) (bytes : List ℕ) (grows : Entry → Bool) (broke : Option ℕ)
    → EnqueuesSlot key bytes broke a.slots slots → IsGrowthWhere grows a.slots key broke → NotifiedOf notified broke n n' → RefinesReporting (alone notified) (EnqueuesWhere grows key bytes) n a n' (with_slots slots a) (is_some broke)
unfolding quietly_same quietly_at refines_at enqueues_where kept_where
enqueues_openly notified n n' a slots key bytes grows None (inl none) growth same = record { refines = enqueues_where notified n n' a slots key bytes grows None (inl none) growth same; is = refl }
enqueues_openly notified n n' a slots key bytes grows None (inr on) growth same =
    reporting_flag (alone notified) (EnqueuesWhere grows key bytes) n n' a (with_slots slots a) false (is_some {T = ℕ} None) refl (kept_openly notified n n' a slots key bytes grows on.before on.after on.there on.slots on.changes same)
enqueues_openly notified n n' a slots key bytes grows (Some id) on growth notifies = record { refines = enqueues_where notified n n' a slots key bytes grows (Some id) on growth notifies; is = refl }
