-- The bytes that are due on a client's connection by an answer.
use Rattle.std.proofs.Common.{◌≡◌, ◌≢◌, ℕ, Bool, true, false, List, [], ◌∷◌, ◌++◌, refl, sym, ◌∙◌, ap, subst, append-nil, Option, Some, None, ◌⊎◌, inl, inr}
use Rattle.std.specs.Prelude.{if◌then◌else◌}
use Rattle.print_room.specs.State.{State}
use Rattle.events.specs.declared.effects.Response.{Response}
use Rattle.events.specs.declared.effects.Response.TheVariants as answered
use Rattle.events.specs.declared.effects.LpdResponse.{LpdResponse}
use Rattle.events.specs.declared.effects.LpdResponse.TheVariants as shown
use Rattle.events.specs.declared.effects.Effects.{Effects}
use Rattle.events.specs.declared.status.Status.{Status}
use Rattle.events.specs.declared.status.Status.TheVariants.{TemporaryError}
use Rattle.dispatcher.specs.declared.observer.AllocationSite.{AllocationSite}
use Rattle.dispatcher.specs.declared.observer.AllocationSite.TheVariants as At
use Rattle.dispatcher.specs.Notes.{Note, Refused}
use Rattle.ipp_operations.specs.Reply.{IsReply}
use Rattle.ipp_operations.specs.QueueText.{ack_of, text_of}
use Rattle.connections.specs.Reply.{http_reply}
use Rattle.connections.specs.declared.ask.Client.{Client}
use Rattle.connections.specs.declared.ask.Client.TheVariants as client
use Rattle.connections.specs.Steps.{http_status, silent}
use Rattle.connections.specs.Entry.{Entry, closes_of, broken, owing, needs_memory}
use Rattle.server.specs.Polls.{Happening, Notified, Choice, Found}
use Rattle.server.specs.Ledger.{Ledger, at_key, with_entry}
use Rattle.server.specs.Rel.{Rel, Nothing, Notifies, Chooses, Then, If}
use Rattle.server.specs.Enqueuing.{BreaksAt, Breaks, EnqueuesOpen, EnqueuesAt, Enqueues, EnqueuesReplyAt, EnqueuesResponse, EnqueuesStatus}
use Rattle.server.specs.Answering as Ans
use Rattle.promises.proofs.AnswerKinds.{IsTyped, IsTypedReply}
use Rattle.promises.specs.Orders.{RunPart, MemoryRefused, run_notes}
use Rattle.promises.specs.Answers.{ClientTalk, IsRefusal, GivenIpp, GivenJob, GivenCommand, Given}
use Rattle.promises.proofs.SentToDevices.{IsClient, is_key, Ordered, ordered_still, Calm, notes_append, sent_then, calm_still, calm_sets, breaking, one_entry, not_key, no_true, ReadsOn, reads_still, reads_same}

-- ---- calm parts

-- the part sends nothing
abbrev pub Calms : Rel → Type 0
Calms R = (l : Ledger) (hs : List Happening) (l' : Ledger) → R l hs l' → Calm l hs l'

pub calms_nothing : Calms Nothing
calms_nothing l hs l' it = calm_still l hs l' (ap run_notes it.0) it.1

pub calms_chooses : (choice : Choice) → Calms (Chooses choice)
calms_chooses choice l hs l' it = calm_still l hs l' (ap run_notes it.0) it.1

pub calms_then : (R S : Rel) → Calms R → Calms S → Calms (Then R S)
calms_then R S r s l hs l' it = sent_then (λ device. []) (λ device. []) l it.prefix it.mid it.back l' hs it.whole (r l it.prefix it.mid it.first) (s it.mid it.back l' it.second)

pub calms_refusal : (place : AllocationSite) (id : Option ℕ) → run_notes (Notified (Refused place id) ∷ []) ≡ [] → Calms (Notifies (Refused place id))
calms_refusal place id silent l hs l' it = calm_still l hs l' (ap run_notes it.0 ∙ silent) it.1

pub breaks_at : (key : ℕ) (o : Option Entry) (l : Ledger) (hs : List Happening) (l' : Ledger) → l.entries key ≡ o → BreaksAt key o l hs l' → Calm l hs l'
breaks_at key None l hs l' there it = calm_still l hs l' (ap run_notes it.0) it.1
breaks_at key (Some e) l hs l' there it = calm_sets key e (broken e) l hs l' there (breaking e) (ap run_notes it.0) it.1

pub calms_breaks : (key : ℕ) → Calms (Breaks key)
calms_breaks key l hs l' it = breaks_at key (l.entries key) l hs l' refl it

-- ---- at a client's connection

-- The observer is notified this, and bytes become due on the connection under a key, as the test has it, where it isn't broken then; of all others nothing is sent.
pub record Gave (notified : List Note) (key : ℕ) (Q : Bool → List ℕ → Type 0) (l : Ledger) (hs : List Happening) (l' : Ledger) : Type 0 where
  pub core : l'.core ≡ l.core
  pub closed : l'.closed ≡ l.closed
  pub notes : run_notes hs ≡ notified
  pub others : (k : ℕ) → k ≢ key → Ordered (λ device. []) (l.entries k) (l'.entries k)
  pub client : IsClient (l.entries key) → IsClient (l'.entries key)
  pub here : (e : Entry) → l'.entries key ≡ Some e → ClientTalk e.progress → e.broken ≡ false → (d : Entry) × (l.entries key ≡ Some d) × (d.progress ≡ e.progress) × (d.broken ≡ false) × ((bytes : List ℕ) × Q (closes_of d.progress) bytes × (e.due ≡ d.due ++ bytes)) × ReadsOn d e
  pub halts : (e : Entry) → l'.entries key ≡ Some e → ClientTalk e.progress → e.broken ≡ true → (d : Entry) × (l.entries key ≡ Some d) × (d.progress ≡ e.progress) × (d.due ≡ e.due) × ReadsOn d e

abbrev pub Gives : ℕ → (Bool → List ℕ → Type 0) → Rel → Type 0
Gives key Q R = (l : Ledger) (hs : List Happening) (l' : Ledger) → R l hs l' → Gave [] key Q l hs l'

-- if each connection is unchanged, nothing is sent
pub gave_still : (key : ℕ) (Q : Bool → List ℕ → Type 0) (l : Ledger) (hs : List Happening) (l' : Ledger) → run_notes hs ≡ [] → l' ≡ l → ((closes : Bool) → Q closes []) → Gave [] key Q l hs l'
gave_still key Q l hs l' silent same none = record {
  core = ap (λ (x : Ledger). x.core) same;
  closed = ap (λ (x : Ledger). x.closed) same;
  notes = silent;
  others = λ k apart. subst (λ (x : Ledger). Ordered (λ device. []) (l.entries k) (x.entries k)) (sym same) (ordered_still (l.entries k));
  client = λ is. subst (λ (x : Ledger). IsClient (x.entries key)) (sym same) is;
  here = λ e is client sound. (e, subst (λ (x : Ledger). x.entries key ≡ Some e) same is, refl, sound, ([], none (closes_of e.progress), sym (append-nil e.due)), reads_same e);
  halts = λ e is client broken. (e, subst (λ (x : Ledger). x.entries key ≡ Some e) same is, refl, refl, reads_same e);
}

pub gives_nothing : (key : ℕ) (Q : Bool → List ℕ → Type 0) → ((closes : Bool) → Q closes []) → Gives key Q Nothing
gives_nothing key Q none l hs l' it = gave_still key Q l hs l' (ap run_notes it.0) it.1 none

pub at_aside : (key : ℕ) (new : Entry) (entries : ℕ → Option Entry) (k : ℕ) → k ≢ key → at_key key (Some new) entries k ≡ entries k
at_aside key new entries k apart = ap (λ (t : Bool). if t then Some new else entries k) (not_key k key apart)

pub at_here : (key : ℕ) (new : Entry) (entries : ℕ → Option Entry) → at_key key (Some new) entries key ≡ Some new
at_here key new entries = ap (λ (t : Bool). if t then Some new else entries key) (is_key key)

-- the connection is another, of the same peer, on which these bytes are due too where it isn't broken
pub gave_sets : (key : ℕ) (Q : Bool → List ℕ → Type 0) (d new : Entry) (l : Ledger) (hs : List Happening) (l' : Ledger) → l.entries key ≡ Some d → new.progress ≡ d.progress → ReadsOn d new
    → (new.broken ≡ false → (d.broken ≡ false) × ((bytes : List ℕ) × Q (closes_of d.progress) bytes × (new.due ≡ d.due ++ bytes))) → (new.broken ≡ true → d.due ≡ new.due) → run_notes hs ≡ [] → l' ≡ with_entry key new l → Gave [] key Q l hs l'
gave_sets key Q d new l hs l' there progress reads gives breaks silent after = record {
  core = ap (λ (x : Ledger). x.core) after;
  closed = ap (λ (x : Ledger). x.closed) after;
  notes = silent;
  others = λ k apart. subst (λ (o : Option Entry). Ordered (λ device. []) (l.entries k) o) (sym (ap (λ (x : Ledger). x.entries k) after ∙ at_aside key new l.entries k apart)) (ordered_still (l.entries k));
  client = λ is. subst IsClient (sym set) (subst ClientTalk (sym progress) (subst IsClient there is));
  here = λ e is client sound.
      let this : new ≡ e = one_entry new e (sym set ∙ is) in
      let given = gives (ap (λ (x : Entry). x.broken) this ∙ sound) in
      (d, there, sym progress ∙ ap (λ (x : Entry). x.progress) this, given.0, (given.1.0, given.1.1, ap (λ (x : Entry). x.due) (sym this) ∙ given.1.2), subst (λ (x : Entry). ReadsOn d x) this reads);
  halts = λ e is client broken.
      let this : new ≡ e = one_entry new e (sym set ∙ is) in
      (d, there, sym progress ∙ ap (λ (x : Entry). x.progress) this, breaks (ap (λ (x : Entry). x.broken) this ∙ broken) ∙ ap (λ (x : Entry). x.due) this, subst (λ (x : Entry). ReadsOn d x) this reads);
}
  where
    set : l'.entries key ≡ Some new
    set = ap (λ (x : Ledger). x.entries key) after ∙ at_here key new l.entries

-- first a part after which each connection is as it was
pub gave_later : (notified : List Note) (key : ℕ) (Q : Bool → List ℕ → Type 0) (R S : Rel) → ((l : Ledger) (hs : List Happening) (l' : Ledger) → R l hs l' → (run_notes hs ≡ notified) × (l' ≡ l)) → Gives key Q S → (l : Ledger) (hs : List Happening) (l' : Ledger) → Then R S l hs l' → Gave notified key Q l hs l'
gave_later notified key Q R S still gives l hs l' it =
    let first = still l it.prefix it.mid it.first in
    let g = gives it.mid it.back l' it.second in
    let reads_as : run_notes hs ≡ notified = ap run_notes it.whole ∙ (notes_append it.prefix it.back ∙ (ap (λ (ns : List Note). run_notes it.prefix ++ ns) g.notes ∙ (append-nil (run_notes it.prefix) ∙ first.0))) in
    let all : Gave notified key Q it.mid hs l' = record { core = g.core; closed = g.closed; notes = reads_as; others = g.others; client = g.client; here = g.here; halts = g.halts } in
    subst (λ (x : Ledger). Gave notified key Q x hs l') first.1 all

pub gave_after : (key : ℕ) (Q : Bool → List ℕ → Type 0) (R S : Rel) → ((l : Ledger) (hs : List Happening) (l' : Ledger) → R l hs l' → (run_notes hs ≡ []) × (l' ≡ l)) → Gives key Q S → Gives key Q (Then R S)
gave_after key Q R S still gives l hs l' it = gave_later [] key Q R S still gives l hs l' it

pub gave_as : (notified : List Note) (key : ℕ) (Q R : Bool → List ℕ → Type 0) (l : Ledger) (hs : List Happening) (l' : Ledger) → ((d : Entry) (bytes : List ℕ) → l.entries key ≡ Some d → Q (closes_of d.progress) bytes → R (closes_of d.progress) bytes) → Gave notified key Q l hs l' → Gave notified key R l hs l'
gave_as notified key Q R l hs l' weaker g = record {
  core = g.core;
  closed = g.closed;
  notes = g.notes;
  others = g.others;
  client = g.client;
  here = λ e is client sound. let it = g.here e is client sound in (it.0, it.1, it.2, it.3, (it.4.0, weaker it.0 it.4.0 it.1 it.4.1, it.4.2), it.5);
  halts = g.halts;
}

pub still_notifies : (place : AllocationSite) (id : ℕ) → run_notes (Notified (Refused place (Some id)) ∷ []) ≡ Refused place (Some id) ∷ [] → (l : Ledger) (hs : List Happening) (l' : Ledger) → Notifies (Refused place (Some id)) l hs l' → (run_notes hs ≡ Refused place (Some id) ∷ []) × (l' ≡ l)
still_notifies place id notifies l hs l' it = (ap run_notes it.0 ∙ notifies, it.1)

pub still_found : (l : Ledger) (hs : List Happening) (l' : Ledger) → Chooses Found l hs l' → (run_notes hs ≡ []) × (l' ≡ l)
still_found l hs l' it = (ap run_notes it.0, it.1)

-- the connection breaks, and no bytes become due on it
pub gives_breaks_at : (key : ℕ) (Q : Bool → List ℕ → Type 0) (o : Option Entry) (l : Ledger) (hs : List Happening) (l' : Ledger) → l.entries key ≡ o → BreaksAt key o l hs l' → Gave [] key Q l hs l'
gives_breaks_at key Q None l hs l' there it = record {
  core = ap (λ (x : Ledger). x.core) it.1;
  closed = ap (λ (x : Ledger). x.closed) it.1;
  notes = ap run_notes it.0;
  others = λ k apart. subst (λ (x : Ledger). Ordered (λ device. []) (l.entries k) (x.entries k)) (sym it.1) (ordered_still (l.entries k));
  client = λ is. subst (λ (x : Ledger). IsClient (x.entries key)) (sym it.1) is;
  here = λ e is. absurd (nothing (l.entries key) there (subst (λ (x : Ledger). x.entries key ≡ Some e) it.1 is));
  halts = λ e is. absurd (nothing (l.entries key) there (subst (λ (x : Ledger). x.entries key ≡ Some e) it.1 is));
}
  where
    nothing : {e : Entry} → (o : Option Entry) → o ≡ None → o ≡ Some e → ⊥
    nothing o p q = cc
gives_breaks_at key Q (Some d) l hs l' there it = gave_sets key Q d (broken d) l hs l' there refl (reads_still d (broken d) refl refl refl) (λ sound. absurd (no_true true refl sound)) (λ is. refl) (ap run_notes it.0) it.1

pub gives_breaks : (key : ℕ) (Q : Bool → List ℕ → Type 0) → Gives key Q (Breaks key)
gives_breaks key Q l hs l' it = gives_breaks_at key Q (l.entries key) l hs l' refl it

-- exactly these bytes become due
abbrev pub Just_these : List ℕ → Bool → List ℕ → Type 0
Just_these bytes closes given = given ≡ bytes

pub gives_open : (refusable : Bool) (key : ℕ) (bytes : List ℕ) (d : Entry) (l : Ledger) (hs : List Happening) (l' : Ledger) → l.entries key ≡ Some d → d.broken ≡ false → EnqueuesOpen refusable key bytes d l hs l' → Gave [] key (Just_these bytes) l hs l'
gives_open false key bytes d l hs l' there sound it = gave_sets key (Just_these bytes) d (owing bytes d) l hs l' there refl (reads_still d (owing bytes d) refl refl refl) (λ unbroken. (sound, (bytes, refl, refl))) (λ is. absurd (no_true d.broken is sound)) (ap run_notes it.0) it.1
gives_open true key bytes d l hs l' there sound (inl it) =
    gave_sets key (Just_these bytes) d (owing bytes d) l hs l' there refl (reads_still d (owing bytes d) refl refl refl) (λ unbroken. (sound, (bytes, refl, refl))) (λ is. absurd (no_true d.broken is sound))
    (ap run_notes it.whole ∙ (notes_append it.prefix it.back ∙ (ap (λ (ns : List Note). ns ++ run_notes it.back) (ap run_notes it.first.0) ∙ ap run_notes it.second.0))) (it.second.1 ∙ ap (λ (x : Ledger). with_entry key (owing bytes d) x) it.first.1)
gives_open true key bytes d l hs l' there sound (inr it) = gave_sets key (Just_these bytes) d (broken d) l hs l' there refl (reads_still d (broken d) refl refl refl) (λ unbroken. absurd (no_true true refl unbroken)) (λ is. refl) (ap run_notes it.0) it.1

pub gives_if : (t refusable : Bool) (key : ℕ) (bytes : List ℕ) (d : Entry) (l : Ledger) (hs : List Happening) (l' : Ledger) → d.broken ≡ t → l.entries key ≡ Some d → If t Nothing (EnqueuesOpen refusable key bytes d) l hs l' → Gave [] key (Just_these bytes) l hs l'
gives_if false refusable key bytes d l hs l' is there it = gives_open refusable key bytes d l hs l' there is it
gives_if true refusable key bytes d l hs l' is there it = record {
  core = ap (λ (x : Ledger). x.core) it.1;
  closed = ap (λ (x : Ledger). x.closed) it.1;
  notes = ap run_notes it.0;
  others = λ k apart. subst (λ (x : Ledger). Ordered (λ device. []) (l.entries k) (x.entries k)) (sym it.1) (ordered_still (l.entries k));
  client = λ client. subst (λ (x : Ledger). IsClient (x.entries key)) (sym it.1) client;
  here = λ e same client sound.
      let this : d ≡ e = one_entry d e (sym there ∙ subst (λ (x : Ledger). x.entries key ≡ Some e) it.1 same) in
      absurd (no_true d.broken is (ap (λ (x : Entry). x.broken) this ∙ sound));
  halts = λ e same client broken. (e, subst (λ (x : Ledger). x.entries key ≡ Some e) it.1 same, refl, refl, reads_same e);
}

pub gives_at : (refusable : Entry → Bool) (key : ℕ) (bytes : List ℕ) (o : Option Entry) (l : Ledger) (hs : List Happening) (l' : Ledger) → l.entries key ≡ o → EnqueuesAt refusable key bytes o l hs l' → Gave [] key (Just_these bytes) l hs l'
gives_at refusable key bytes None l hs l' there it = gives_breaks_at key (Just_these bytes) None l hs l' there it
gives_at refusable key bytes (Some d) l hs l' there it = gives_if d.broken (refusable d) key bytes d l hs l' refl there it

pub gives_enqueues : (key : ℕ) (bytes : List ℕ) → Gives key (Just_these bytes) (Enqueues key bytes)
gives_enqueues key bytes l hs l' it = gives_at (needs_memory bytes) key bytes (l.entries key) l hs l' refl it

-- by the request's word about closing
abbrev pub By_closing : (Bool → List ℕ) → Bool → List ℕ → Type 0
By_closing bytes closes given = given ≡ bytes closes

pub gives_reply_at : (bytes : Bool → List ℕ) (key : ℕ) (o : Option Entry) (l : Ledger) (hs : List Happening) (l' : Ledger) → l.entries key ≡ o → EnqueuesReplyAt bytes key o l hs l' → Gave [] key (By_closing bytes) l hs l'
gives_reply_at bytes key None l hs l' there it = gives_breaks_at key (By_closing bytes) None l hs l' there it
gives_reply_at bytes key (Some d) l hs l' there it =
    gave_as [] key (Just_these (bytes (closes_of d.progress))) (By_closing bytes) l hs l' (λ e given is these. these ∙ ap (λ (x : Entry). bytes (closes_of x.progress)) (one_entry d e (sym there ∙ is))) (gives_enqueues key (bytes (closes_of d.progress)) l hs l' it)

pub gives_reply : (key : ℕ) (bytes : List ℕ) → Gives key (By_closing (λ closes. http_reply closes bytes)) (EnqueuesResponse key bytes)
gives_reply key bytes l hs l' it = gives_reply_at (λ closes. http_reply closes bytes) key (l.entries key) l hs l' refl it

pub gives_status : (key : ℕ) (status : Status) (request : ℕ) → Gives key (By_closing (λ closes. http_status closes status request)) (EnqueuesStatus key status request)
gives_status key status request l hs l' it = gives_reply_at (λ closes. http_status closes status request) key (l.entries key) l hs l' refl it

-- ---- answers

-- the place at which memory was refused for an answer, and the observer's note of it
abbrev pub notified_of : ℕ → Option AllocationSite → List Note
notified_of id None = []
notified_of id (Some place) = Refused place (Some id) ∷ []

-- the bytes that become due by an answer of any kind, where memory was refused so
abbrev pub LooseIpp : Bool → ℕ → Bool → Response → Option AllocationSite → List ℕ → Type 0
LooseIpp closes request query (answered.Ipp answer) lost bytes =
    ((lost ≡ None) × (spelt : List ℕ) × IsReply answer request spelt × (bytes ≡ http_reply closes spelt)) ⊎ ((query ≡ true) × (lost ≡ Some At.Reply) × (bytes ≡ http_status closes TemporaryError request))
LooseIpp closes request query (answered.Lpd answer) lost bytes = bytes ≡ []
LooseIpp closes request query answered.Nothing lost bytes = bytes ≡ []

abbrev pub LooseText : LpdResponse → List ℕ → Type 0
LooseText (shown.Taken taken) bytes = bytes ≡ ack_of (shown.Taken taken) ∷ []
LooseText (shown.Queue listing) bytes = bytes ≡ text_of (shown.Queue listing)
LooseText shown.NoQueue bytes = bytes ≡ text_of shown.NoQueue

abbrev pub LooseLpd : Response → List ℕ → Type 0
LooseLpd (answered.Lpd answer) bytes = LooseText answer bytes
LooseLpd (answered.Ipp answer) bytes = bytes ≡ []
LooseLpd answered.Nothing bytes = bytes ≡ []

abbrev pub Loose : Bool → Client → Bool → Option Effects → Option AllocationSite → List ℕ → Type 0
Loose closes (client.Ipp request) query (Some reply) lost bytes = LooseIpp closes request query reply.response lost bytes
Loose closes (client.Ipp request) query None lost bytes = (lost ≡ Some At.Event) × (bytes ≡ http_status closes TemporaryError request)
Loose closes client.LpdJob query (Some reply) lost bytes = (lost ≡ None) × LooseLpd reply.response bytes
Loose closes client.LpdJob query None lost bytes = (lost ≡ Some At.Event) × (bytes ≡ 1 ∷ [])
Loose closes client.LpdCommand query (Some reply) lost bytes = (lost ≡ None) × LooseLpd reply.response bytes
Loose closes client.LpdCommand query None lost bytes = ⊥

-- the refusal of memory at a place, as a part of the run: it is asked on the connection under a key
abbrev pub refusal_at : ℕ → ℕ → ℕ → State → Option AllocationSite → List RunPart
refusal_at moment id key state None = []
refusal_at moment id key state (Some place) = record { moment = moment; what = MemoryRefused place (Some id); notes = Refused place (Some id) ∷ []; state = state; named = None; asked = Some key } ∷ []

no_refusal : (moment id key : ℕ) (state : State) (lost : Option AllocationSite) → lost ≡ None → refusal_at moment id key state lost ≡ []
no_refusal moment id key state lost is = ap (refusal_at moment id key state) is

pub one_refusal : (moment id key : ℕ) (state : State) (lost : Option AllocationSite) (place : AllocationSite) → lost ≡ Some place → IsRefusal id place (refusal_at moment id key state lost)
one_refusal moment id key state lost place is =
    (record { moment = moment; what = MemoryRefused place (Some id); notes = Refused place (Some id) ∷ []; state = state; named = None; asked = Some key }, ap (refusal_at moment id key state) is, refl)

-- the same for an answer of the client's kind
pub given_ipp : (moment id key : ℕ) (state : State) (closes : Bool) (request : ℕ) (query : Bool) (answer : Response) (lost : Option AllocationSite) (bytes : List ℕ) → IsTyped (client.Ipp request) answer → LooseIpp closes request query answer lost bytes → GivenIpp id closes request query answer (refusal_at moment id key state lost) bytes
given_ipp moment id key state closes request query (answered.Ipp answer) lost bytes of (inl (none, spelt, is, these)) = inl (no_refusal moment id key state lost none, spelt, is, these)
given_ipp moment id key state closes request query (answered.Ipp answer) lost bytes of (inr (asks, place, these)) = inr (asks, one_refusal moment id key state lost At.Reply place, these)
given_ipp moment id key state closes request query (answered.Lpd answer) lost bytes of it = absurd of
given_ipp moment id key state closes request query answered.Nothing lost bytes of it = absurd of

pub given_job : (answer : Response) (bytes : List ℕ) → IsTyped client.LpdJob answer → LooseLpd answer bytes → GivenJob answer bytes
given_job (answered.Ipp answer) bytes of it = absurd of
given_job (answered.Lpd (shown.Taken taken)) bytes of it = it
given_job (answered.Lpd (shown.Queue listing)) bytes of it = absurd of
given_job (answered.Lpd shown.NoQueue) bytes of it = absurd of
given_job answered.Nothing bytes of it = absurd of

pub given_command : (answer : Response) (bytes : List ℕ) → IsTyped client.LpdCommand answer → LooseLpd answer bytes → GivenCommand answer bytes
given_command (answered.Ipp answer) bytes of it = absurd of
given_command (answered.Lpd (shown.Taken taken)) bytes of it = absurd of
given_command (answered.Lpd (shown.Queue listing)) bytes of it = it
given_command (answered.Lpd shown.NoQueue) bytes of it = it
given_command answered.Nothing bytes of it = it

pub given : (moment id key : ℕ) (state : State) (closes : Bool) (who : Client) (query : Bool) (reply : Option Effects) (lost : Option AllocationSite) (bytes : List ℕ) → IsTypedReply who reply → Loose closes who query reply lost bytes → Given id closes who query reply (refusal_at moment id key state lost) bytes
given moment id key state closes (client.Ipp request) query (Some reply) lost bytes of it = given_ipp moment id key state closes request query reply.response lost bytes of it
given moment id key state closes (client.Ipp request) query None lost bytes of it = (one_refusal moment id key state lost At.Event it.0, it.1)
given moment id key state closes client.LpdJob query (Some reply) lost bytes of it = (no_refusal moment id key state lost it.0, given_job reply.response bytes of it.1)
given moment id key state closes client.LpdJob query None lost bytes of it = (one_refusal moment id key state lost At.Event it.0, it.1)
given moment id key state closes client.LpdCommand query (Some reply) lost bytes of it = (no_refusal moment id key state lost it.0, given_command reply.response bytes of it.1)
given moment id key state closes client.LpdCommand query None lost bytes of it = it

-- the observer is notified that memory was refused, or nothing, and bytes become due as the test has it for that
abbrev pub GivesSome : ℕ → ℕ → (Option AllocationSite → Bool → List ℕ → Type 0) → Rel → Type 0
GivesSome id key Q R = (l : Ledger) (hs : List Happening) (l' : Ledger) → R l hs l' → (lost : Option AllocationSite) × Gave (notified_of id lost) key (Q lost) l hs l'

-- the status that memory was refused
abbrev pub No_memory : ℕ → Bool → List ℕ → Type 0
No_memory request closes given = given ≡ http_status closes TemporaryError request

pub gives_dropped : (key id request : ℕ) (l : Ledger) (hs : List Happening) (l' : Ledger) → Ans.Drops key id request l hs l' → Gave (Refused At.Event (Some id) ∷ []) key (No_memory request) l hs l'
gives_dropped key id request = gave_later (Refused At.Event (Some id) ∷ []) key (No_memory request) (Notifies (Refused At.Event (Some id))) (EnqueuesStatus key TemporaryError request) (still_notifies At.Event id refl) (gives_status key TemporaryError request)

-- the status is given only if the event is a query
abbrev pub Lost_memory : ℕ → Bool → Bool → List ℕ → Type 0
Lost_memory request query closes given = (query ≡ true) × (given ≡ http_status closes TemporaryError request)

gives_by : (t query : Bool) (key request : ℕ) → query ≡ t → Gives key (Lost_memory request query) (If t (EnqueuesStatus key TemporaryError request) (Breaks key))
gives_by true query key request is l hs l' it =
    gave_as [] key (By_closing (λ closes. http_status closes TemporaryError request)) (Lost_memory request query) l hs l' (λ d bytes there these. (is, these)) (gives_status key TemporaryError request l hs l' it)
gives_by false query key request is l hs l' it = gives_breaks key (Lost_memory request query) l hs l' it

pub gives_lost : (key id request : ℕ) (query : Bool) (l : Ledger) (hs : List Happening) (l' : Ledger) → Ans.LosesReply key id request query l hs l' → Gave (Refused At.Reply (Some id) ∷ []) key (Lost_memory request query) l hs l'
gives_lost key id request query =
    gave_later (Refused At.Reply (Some id) ∷ []) key (Lost_memory request query) (Notifies (Refused At.Reply (Some id))) (If query (EnqueuesStatus key TemporaryError request) (Breaks key)) (still_notifies At.Reply id refl)
    (gives_by query query key request refl)

pub gives_replies_with : (key id request : ℕ) (query : Bool) (answer : Response) → GivesSome id key (λ lost closes bytes. LooseIpp closes request query answer lost bytes) (Ans.RepliesWith key id request query answer)
gives_replies_with key id request query (answered.Ipp answer) l hs l' (inl (spelt, is, it)) = (
  None,
  gave_as [] key (By_closing (λ closes. http_reply closes spelt)) (λ closes bytes. LooseIpp closes request query (answered.Ipp answer) None bytes) l hs l' (λ d bytes there these. inl (refl, spelt, is, these))
      (gave_after key (By_closing (λ closes. http_reply closes spelt)) (Chooses Found) (EnqueuesResponse key spelt) still_found (gives_reply key spelt) l hs l' it),
)
gives_replies_with key id request query (answered.Ipp answer) l hs l' (inr it) = (
  Some At.Reply,
  gave_as (Refused At.Reply (Some id) ∷ []) key (Lost_memory request query) (λ closes bytes. LooseIpp closes request query (answered.Ipp answer) (Some At.Reply) bytes) l hs l' (λ d bytes there these. inr (these.0, refl, these.1)) (gives_lost key id request query l hs l' it),
)
gives_replies_with key id request query (answered.Lpd answer) l hs l' it = (None, gives_nothing key (λ closes bytes. LooseIpp closes request query (answered.Lpd answer) None bytes) (λ closes. refl) l hs l' it)
gives_replies_with key id request query answered.Nothing l hs l' it = (None, gives_nothing key (λ closes bytes. LooseIpp closes request query answered.Nothing None bytes) (λ closes. refl) l hs l' it)

pub gives_declines : (place : AllocationSite) (key id : ℕ) → run_notes (Notified (Refused place (Some id)) ∷ []) ≡ Refused place (Some id) ∷ [] → (l : Ledger) (hs : List Happening) (l' : Ledger) → Ans.Declines place key id l hs l' → Gave (Refused place (Some id) ∷ []) key (Just_these (1 ∷ [])) l hs l'
gives_declines place key id notifies = gave_later (Refused place (Some id) ∷ []) key (Just_these (1 ∷ [])) (Notifies (Refused place (Some id))) (Enqueues key (1 ∷ [])) (still_notifies place id notifies) (gives_enqueues key (1 ∷ []))

-- memory wasn't refused
abbrev pub Kept : (List ℕ → Type 0) → Option AllocationSite → Bool → List ℕ → Type 0
Kept P lost closes bytes = (lost ≡ None) × P bytes

pub gives_shows : (key id : ℕ) (text : List ℕ) → GivesSome id key (Kept (λ bytes. bytes ≡ text)) (Ans.Shows key id text)
gives_shows key id text l hs l' (inl it) = (
  None,
  gave_as [] key (Just_these text) (Kept (λ bytes. bytes ≡ text) None) l hs l' (λ d bytes there these. (refl, these)) (gave_after key (Just_these text) (Chooses Found) (Enqueues key text) still_found (gives_enqueues key text) l hs l' it),
)
gives_shows key id text l hs l' (inr it) = (
  Some At.Reply,
  gave_later (Refused At.Reply (Some id) ∷ []) key (Kept (λ bytes. bytes ≡ text) (Some At.Reply)) (Notifies (Refused At.Reply (Some id))) (Breaks key) (still_notifies At.Reply id refl) (gives_breaks key (Kept (λ bytes. bytes ≡ text) (Some At.Reply))) l hs l' it,
)

pub gives_notified : (key id : ℕ) (answer : LpdResponse) → GivesSome id key (Kept (LooseText answer)) (Ans.SendsLpd key id answer)
gives_notified key id (shown.Taken taken) l hs l' it = (
  None,
  gave_as [] key (Just_these (ack_of (shown.Taken taken) ∷ [])) (Kept (LooseText (shown.Taken taken)) None) l hs l' (λ d bytes there these. (refl, these)) (gives_enqueues key (ack_of (shown.Taken taken) ∷ []) l hs l' it),
)
gives_notified key id (shown.Queue listing) l hs l' it = gives_shows key id (text_of (shown.Queue listing)) l hs l' it
gives_notified key id shown.NoQueue l hs l' it = gives_shows key id (text_of shown.NoQueue) l hs l' it

pub gives_shown : (key id : ℕ) (answer : Response) → GivesSome id key (Kept (LooseLpd answer)) (Ans.IsShown key id answer)
gives_shown key id (answered.Lpd answer) l hs l' it = gives_notified key id answer l hs l' it
gives_shown key id (answered.Ipp answer) l hs l' it = (None, gives_nothing key (Kept (LooseLpd (answered.Ipp answer)) None) (λ closes. (refl, refl)) l hs l' it)
gives_shown key id answered.Nothing l hs l' it = (None, gives_nothing key (Kept (LooseLpd answered.Nothing) None) (λ closes. (refl, refl)) l hs l' it)

pub gives_answers : (key id : ℕ) (who : Client) (query : Bool) (reply : Option Effects) → GivesSome id key (λ lost closes bytes. Loose closes who query reply lost bytes) (Ans.Answers key id who query reply)
gives_answers key id (client.Ipp request) query (Some reply) l hs l' it = gives_replies_with key id request query reply.response l hs l' it
gives_answers key id (client.Ipp request) query None l hs l' it = (
  Some At.Event,
  gave_as (Refused At.Event (Some id) ∷ []) key (No_memory request) (λ closes bytes. Loose closes (client.Ipp request) query None (Some At.Event) bytes) l hs l' (λ d bytes there these. (refl, these)) (gives_dropped key id request l hs l' it),
)
gives_answers key id client.LpdJob query (Some reply) l hs l' it = gives_shown key id reply.response l hs l' it
gives_answers key id client.LpdJob query None l hs l' it = (
  Some At.Event,
  gave_as (Refused At.Event (Some id) ∷ []) key (Just_these (1 ∷ [])) (λ closes bytes. Loose closes client.LpdJob query None (Some At.Event) bytes) l hs l' (λ d bytes there these. (refl, these)) (gives_declines At.Event key id refl l hs l' it),
)
gives_answers key id client.LpdCommand query (Some reply) l hs l' it = gives_shown key id reply.response l hs l' it
gives_answers key id client.LpdCommand query None l hs l' it = (
  Some At.Event,
  gave_later (Refused At.Event (Some id) ∷ []) key (λ closes bytes. Loose closes client.LpdCommand query None (Some At.Event) bytes) (Notifies (Refused At.Event (Some id))) (Breaks key) (still_notifies At.Event id refl)
      (gives_breaks key (λ closes bytes. Loose closes client.LpdCommand query None (Some At.Event) bytes)) l hs l' it,
)
