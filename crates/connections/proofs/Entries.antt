-- The asks of a connection, as its entry has them.
use Rattle.std.proofs.Common.{◌≡◌, ◌<◌, arith, ℕ, Bool, true, false, List, [], ◌∷◌, ◌++◌, length, drop, refl, sym, ◌∙◌, ap, subst, append_assoc, Some, None, inl, inr}
use Rattle.std.specs.Prelude.{◌||◌, nat_lt}
use Rattle.std.proofs.lemmas.Bool.Decides.{nat_tests}
use Rattle.settings_file.specs.Settings.{ServerSettings}
use Rattle.connections.specs.declared.queue.TheConstants.{RESERVED_BYTES}
use Rattle.connections.specs.declared.ask.Ask.{Ask}
use Rattle.connections.specs.declared.connection.Fed.TheVariants as how
use Rattle.connections.specs.declared.peer.Peer.{Peer}
use Rattle.connections.specs.declared.step.Step.{Step}
use Rattle.connections.specs.declared.step.Step.TheVariants as step
use Rattle.connections.specs.Entry.{PeerRecord, Entry, waiting, with_progress, reading, finishing, broken, owing, needs_memory}
use Rattle.connections.specs.Steps.{due_bytes}
use Rattle.connections.specs.Asking.{StepsTo, Asking, Feeds}
use Rattle.connections.specs.Peers.{NextPeer, IsFedPeer}
use Rattle.connections.specs.Connections.{ConnectionState, with_peer, Takes}
use Rattle.connections.specs.Representation.{FitsPeer, RepresentsConnection, Becomes}
use Rattle.connections.proofs.Readers.{Goes, peer_next, rested, fed_peer}

-- ---- the waiting bytes

drop_prefix-append : (xs ys : List ℕ) → drop (length xs) (xs ++ ys) ≡ ys
drop_prefix-append [] ys = refl
drop_prefix-append (x ∷ xs) ys = drop_prefix-append xs ys

-- the waiting bytes by the entry are the bytes that the connection holds
pub waits : (e : Entry) (c : ConnectionState) → RepresentsConnection e c → waiting e ≡ c.output
waits e c f = ap (λ (due : List ℕ). drop (length e.taken) due) (sym f.due) ∙ drop_prefix-append e.taken c.output

above : (most n : ℕ) → most < n → nat_lt most n ≡ true
above most n more = grind (arith, nat_tests, more)

-- bytes without room in the reserve need memory
grows : (bytes : List ℕ) (e : Entry) (c : ConnectionState) → RepresentsConnection e c → RESERVED_BYTES < length (c.output ++ bytes) → needs_memory bytes e ≡ true
grows bytes e c f more = above RESERVED_BYTES (length (waiting e ++ bytes)) (subst (λ (w : List ℕ). RESERVED_BYTES < length (w ++ bytes)) (sym (waits e c f)) more)

-- bytes that become due follow the waiting bytes
more_due : (e : Entry) (c : ConnectionState) (bytes : List ℕ) → RepresentsConnection e c → e.taken ++ (c.output ++ bytes) ≡ e.due ++ bytes
more_due e c bytes f = sym (append_assoc e.taken c.output bytes) ∙ ap (λ (o : List ℕ). o ++ bytes) f.due

-- ---- a step

-- the result of a step of a connection whose peer is now `p`
takes : (e : Entry) (progress : PeerRecord) (c d : ConnectionState) (p : Peer) (what : Step) (asked : Ask) → RepresentsConnection e c → e.broken ≡ false → FitsPeer e.read progress true p → (Goes what → FitsPeer e.read progress false p) → Takes what (with_peer p c) asked d
    → (new : Entry) × StepsTo what (with_progress progress e) asked new × RepresentsConnection new d
takes e progress c d p (step.Due due last) asked f whole off on (inl (is, now)) =
    let new : Entry = owing (due_bytes due) (finishing last (with_progress progress e)) in
    let on' : FitsPeer e.read progress e.broken p = subst (λ (b : Bool). FitsPeer e.read progress b p) (sym whole) (on tt) in (
      owing (due_bytes due) (finishing last (with_progress progress e)),
      inl (is, refl),
      subst (λ (k : ConnectionState). RepresentsConnection new k) (sym now) (record { id = f.id; peer = on'; ended = f.ended; draining = refl; broken = f.broken; due = more_due e c (due_bytes due) f }),
    )
takes e progress c d p (step.Due due last) asked f whole off on (inr (is, full, now)) =
    let new : Entry = broken (finishing last (with_progress progress e)) in (
      broken (finishing last (with_progress progress e)),
      inr (is, grows (due_bytes due) e c f full, refl),
      subst (λ (k : ConnectionState). RepresentsConnection new k) (sym now) (record { id = f.id; peer = off; ended = f.ended; draining = refl; broken = refl; due = f.due }),
    )
takes e progress c d p (step.Asks ask last) asked f whole off on (is, now) =
    let new : Entry = finishing last (with_progress progress e) in
    let on' : FitsPeer e.read progress e.broken p = subst (λ (b : Bool). FitsPeer e.read progress b p) (sym whole) (on tt) in (
      finishing last (with_progress progress e),
      (is, refl),
      subst (λ (k : ConnectionState). RepresentsConnection new k) (sym now) (record { id = f.id; peer = on'; ended = f.ended; draining = refl; broken = f.broken; due = f.due }),
    )
takes e progress c d p (step.Breaks ask) asked f whole off on (is, now) =
    let new : Entry = broken (with_progress progress e) in (
      broken (with_progress progress e),
      (is, refl),
      subst (λ (k : ConnectionState). RepresentsConnection new k) (sym now) (record { id = f.id; peer = off; ended = f.ended; draining = f.draining; broken = refl; due = f.due }),
    )

right_false : (x y : Bool) → (x || y) ≡ false → y ≡ false
right_false true y is = cc
right_false false y is = is

-- whether nothing counts any more, as the entry has it
counts_as : (e : Entry) (c : ConnectionState) (counts : Bool) → RepresentsConnection e c → (c.draining || c.broken) ≡ counts → (e.draining || e.broken) ≡ counts
counts_as e c counts f is = sym (ap (λ (x : Bool). x || c.broken) f.draining ∙ ap (λ (y : Bool). e.draining || y) f.broken) ∙ is

-- ---- the next ask

pub asks : (settings : ServerSettings) (what : Step) (asked : Ask) (c d : ConnectionState) (p : Peer) → (c.draining || c.broken) ≡ false → NextPeer settings (Some what) c.peer p → Takes what (with_peer p c) asked d → Becomes (Asking settings (Some asked)) c d
asks settings what asked c d p counts next takes_ e f =
    let counts' : (e.draining || e.broken) ≡ false = counts_as e c false f counts in
    let whole : e.broken ≡ false = right_false e.draining e.broken counts' in
    let h = peer_next settings e c.peer p what (subst (λ (b : Bool). FitsPeer e.read e.progress b c.peer) whole f.peer) next in
    let t = takes e h.progress c d p what asked f whole h.broken h.whole takes_ in
    (t.0, record { counts = counts'; comes = what; mid = with_progress h.progress e; takes_item = h.takes_item; steps = t.1 }, t.2)

pub rests : (settings : ServerSettings) (c d : ConnectionState) (p : Peer) → (c.draining || c.broken) ≡ false → NextPeer settings None c.peer p → d ≡ with_peer p c → Becomes (Asking settings None) c d
rests settings c d p counts next is e f =
    let whole : e.broken ≡ false = right_false e.draining e.broken (counts_as e c false f counts) in
    let h = rested settings e.read e.progress c.peer p (subst (λ (b : Bool). FitsPeer e.read e.progress b c.peer) whole f.peer) next in
    let peer : FitsPeer e.read e.progress e.broken p = subst (λ (b : Bool). FitsPeer e.read e.progress b p) (sym whole) h.1 in
    (e, (inr h.0, refl), subst (λ (k : ConnectionState). RepresentsConnection e k) (sym is) (record { id = f.id; peer = peer; ended = f.ended; draining = f.draining; broken = f.broken; due = f.due }))

pub counts_no_more : (settings : ServerSettings) (c d : ConnectionState) → (c.draining || c.broken) ≡ true → d ≡ c → Becomes (Asking settings None) c d
counts_no_more settings c d off is e f = (e, (inl (counts_as e c true f off), refl), subst (λ (k : ConnectionState). RepresentsConnection e k) (sym is) f)

-- a segment was fed
pub fed : (segment : List ℕ) (c d : ConnectionState) (p : Peer) → c.draining ≡ false → IsFedPeer segment c.peer p → d ≡ with_peer p c → Becomes (Feeds segment how.Fed) c d
fed segment c d p counts feeds is e f = (
  reading segment e,
  (sym f.draining ∙ counts, refl),
  subst (λ (k : ConnectionState). RepresentsConnection (reading segment e) k) (sym is) (record { id = f.id; peer = fed_peer e.read segment e.progress e.broken c.peer p f.peer feeds; ended = f.ended; draining = f.draining; broken = f.broken; due = f.due }),
)
