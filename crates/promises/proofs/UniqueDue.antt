-- Bytes become due in one way.
use Rattle.std.proofs.Common.{◌≡◌, ℕ, Bool, true, false, List, [], ◌∷◌, ◌++◌, refl, sym, subst, Option, Some, None, inl, inr}
use Rattle.device_link.specs.Orders.{cancel_line}
use Rattle.print_room.specs.declared.started.Started.{Started}
use Rattle.events.specs.declared.status.Status.{Status}
use Rattle.events.specs.declared.effects.Cancel.{Cancel}
use Rattle.connections.specs.Reply.{http_reply}
use Rattle.dispatcher.specs.declared.observer.AllocationSite.{AllocationSite}
use Rattle.dispatcher.specs.declared.observer.AllocationSite.TheVariants.{Enqueue}
use Rattle.dispatcher.specs.declared.handled.Dispatch.{Dispatch}
use Rattle.dispatcher.specs.declared.handled.Dispatch.TheVariants as dispatch
use Rattle.dispatcher.specs.Notes.{Refused}
use Rattle.connections.specs.Entry.{Entry, closes_of, broken, owing, needs_memory}
use Rattle.connections.specs.Steps.{http_status}
use Rattle.server.specs.Polls.{Happening, Notified, Found}
use Rattle.server.specs.Ledger.{Ledger, with_entry, job_bytes}
use Rattle.server.specs.Rel.{Chooses}
use Rattle.server.specs.Enqueuing.{Sets, BreaksAt, Breaks, Drops, EnqueuesOpen, EnqueuesAt, EnqueuesWhere, Enqueues, EnqueuesReplyAt, EnqueuesResponse, EnqueuesStatus, EnqueuesOn}
use Rattle.server.specs.Happening.{Sends, Starts, StartsAll, StartsBy}
use Rattle.promises.proofs.Lowest.{lowest_one}
use Rattle.promises.proofs.Determined.{Fixed, fixed_just, fixed_nothing, fixed_chooses, alike_then, Begins, begins_just, begins_then, begins_chooses, is_choice, fixed_or, alike_if, fixed_each_of}

pub fixed_sets : (key : ℕ) (e : Entry) → Fixed (Sets key e)
fixed_sets key e = fixed_just (λ l. []) (λ l. with_entry key e l)

pub fixed_drops : (place : AllocationSite) (key : ℕ) (e : Entry) → Fixed (Drops place key e)
fixed_drops place key e = fixed_just (λ l. Notified (Refused place (Some e.id)) ∷ []) (λ l. with_entry key (broken e) l)

pub drops_notifies : (place : AllocationSite) (key : ℕ) (e : Entry) → Begins is_choice false (Drops place key e)
drops_notifies place key e = record { begins = λ l hs a it. begins_just is_choice false (Notified (Refused place (Some e.id))) [] hs refl it.0 }

breaks_at : (key : ℕ) (o : Option Entry) → Fixed (BreaksAt key o)
breaks_at key None = fixed_nothing
breaks_at key (Some e) = fixed_sets key (broken e)

pub fixed_breaks : (key : ℕ) → Fixed (Breaks key)
fixed_breaks key = record { one = λ l hs rest a ks more b e p q. (breaks_at key (l.entries key)).one l hs rest a ks more b e p q }

enqueues_open : (refusable : Bool) (key : ℕ) (bytes : List ℕ) (e : Entry) → Fixed (EnqueuesOpen refusable key bytes e)
enqueues_open refusable key bytes e =
    let kept : Fixed (Sets key (owing bytes e)) = fixed_sets key (owing bytes e) in
    alike_if refusable
    (fixed_or is_choice (begins_then is_choice true (Chooses Found) (Sets key (owing bytes e)) (begins_chooses is_choice true Found refl)) (drops_notifies Enqueue key e) (alike_then (fixed_chooses Found) kept) (fixed_drops Enqueue key e))
    kept

enqueues_at : (refusable : Entry → Bool) (key : ℕ) (bytes : List ℕ) (o : Option Entry) → Fixed (EnqueuesAt refusable key bytes o)
enqueues_at refusable key bytes None = fixed_nothing
enqueues_at refusable key bytes (Some e) = alike_if e.broken fixed_nothing (enqueues_open (refusable e) key bytes e)

pub fixed_enqueues_where : (refusable : Entry → Bool) (key : ℕ) (bytes : List ℕ) → Fixed (EnqueuesWhere refusable key bytes)
fixed_enqueues_where refusable key bytes = record { one = λ l hs rest a ks more b e p q. (enqueues_at refusable key bytes (l.entries key)).one l hs rest a ks more b e p q }

pub fixed_enqueues : (key : ℕ) (bytes : List ℕ) → Fixed (Enqueues key bytes)
fixed_enqueues key bytes = fixed_enqueues_where (needs_memory bytes) key bytes

reply_at : (bytes : Bool → List ℕ) (key : ℕ) (o : Option Entry) → Fixed (EnqueuesReplyAt bytes key o)
reply_at bytes key None = fixed_nothing
reply_at bytes key (Some e) = fixed_enqueues key (bytes (closes_of e.progress))

pub fixed_reply : (key : ℕ) (bytes : List ℕ) → Fixed (EnqueuesResponse key bytes)
fixed_reply key bytes = record { one = λ l hs rest a ks more b e p q. (reply_at (λ closes. http_reply closes bytes) key (l.entries key)).one l hs rest a ks more b e p q }

pub fixed_status : (key : ℕ) (status : Status) (request : ℕ) → Fixed (EnqueuesStatus key status request)
fixed_status key status request = record { one = λ l hs rest a ks more b e p q. (reply_at (λ closes. http_status closes status request) key (l.entries key)).one l hs rest a ks more b e p q }

-- ---- by the device

enqueues_on : (refusable : Entry → Bool) (device : ℕ) (bytes : List ℕ) (l : Ledger) (hs rest : List Happening) (a : Ledger) (ks more : List Happening) (b : Ledger) → hs ++ rest ≡ ks ++ more → EnqueuesOn refusable device bytes l hs a → EnqueuesOn refusable device bytes l ks b → (hs ≡ ks) × (a ≡ b)
enqueues_on refusable device bytes l hs rest a ks more b e (inl (key, is, p)) (inl (other, its, q)) =
    let same : key ≡ other = lowest_one device key other l is its in
    (fixed_enqueues_where refusable key bytes).one l hs rest a ks more b e p (subst (λ (k : ℕ). EnqueuesWhere refusable k bytes l ks b) (sym same) q)
enqueues_on refusable device bytes l hs rest a ks more b e (inl (key, is, p)) (inr (none, q)) = absurd (none key is.0)
enqueues_on refusable device bytes l hs rest a ks more b e (inr (none, p)) (inl (key, is, q)) = absurd (none key is.0)
enqueues_on refusable device bytes l hs rest a ks more b e (inr (none, p)) (inr (nor, q)) = fixed_nothing.one l hs rest a ks more b e p q

pub fixed_enqueues_on : (refusable : Entry → Bool) (device : ℕ) (bytes : List ℕ) → Fixed (EnqueuesOn refusable device bytes)
fixed_enqueues_on refusable device bytes = record { one = enqueues_on refusable device bytes }

pub fixed_sends : (cancel : Cancel) → Fixed (Sends cancel)
fixed_sends cancel = fixed_enqueues_on (needs_memory (cancel_line cancel.job)) cancel.device (cancel_line cancel.job)

pub fixed_starts : (start : Started) → Fixed (Starts start)
fixed_starts start = record { one = λ l hs rest a ks more b e p q. (fixed_enqueues_on (λ x. true) start.device (job_bytes l.core start.job)).one l hs rest a ks more b e p q }

fixed_starts_all : Fixed StartsAll
fixed_starts_all = record { one = λ l hs rest a ks more b e p q. (fixed_each_of l.core.begun Starts fixed_starts).one l hs rest a ks more b e p q }

pub fixed_starts_by : (made : Dispatch) → Fixed (StartsBy made)
fixed_starts_by dispatch.Query = fixed_nothing
fixed_starts_by dispatch.OutOfMemory = fixed_nothing
fixed_starts_by dispatch.Idle = fixed_nothing
fixed_starts_by dispatch.Planned = fixed_starts_all
