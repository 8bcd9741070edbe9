-- Bytes become due on a connection, or memory for them is refused.
use Rattle.std.specs.Prelude.{ℕ, ◌≡◌, ◌<◌, ◌⊎◌, Bool, List, [], ◌∷◌, Option, Some, None}
use Rattle.events.specs.declared.status.Status.{Status}
use Rattle.connections.specs.Reply.{http_reply}
use Rattle.dispatcher.specs.declared.observer.AllocationSite.{AllocationSite}
use Rattle.dispatcher.specs.declared.observer.AllocationSite.TheVariants.{Enqueue}
use Rattle.dispatcher.specs.Notes.{Refused}
use Rattle.connections.specs.Entry.{Entry, device_of, closes_of, broken, owing, needs_memory}
use Rattle.connections.specs.Steps.{http_status}
use Rattle.server.specs.Polls.{Notified, Found}
use Rattle.server.specs.Ledger.{Ledger, with_entry}
use Rattle.server.specs.Rel.{Rel, Nothing, Chooses, Then, If, Or}

-- the connection under a key has this entry from now on
abbrev pub Sets : ℕ → Entry → Rel
Sets key e l hs l' = (hs ≡ []) × (l' ≡ with_entry key e l)

abbrev pub BreaksAt : ℕ → Option Entry → Rel
BreaksAt key None = Nothing
BreaksAt key (Some e) = Sets key (broken e)

abbrev pub Breaks : ℕ → Rel
Breaks key l hs l' = BreaksAt key (l.entries key) l hs l'

-- the allocator refused memory for a growth of the connection under a key, and the connection breaks
abbrev pub Drops : AllocationSite → ℕ → Entry → Rel
Drops place key e l hs l' = (hs ≡ Notified (Refused place (Some e.id)) ∷ []) × (l' ≡ with_entry key (broken e) l)

abbrev pub EnqueuesOpen : Bool → ℕ → List ℕ → Entry → Rel
EnqueuesOpen refusable key bytes e = If refusable (Or (Then (Chooses Found) (Sets key (owing bytes e))) (Drops Enqueue key e)) (Sets key (owing bytes e))

abbrev pub EnqueuesAt : (Entry → Bool) → ℕ → List ℕ → Option Entry → Rel
EnqueuesAt refusable key bytes None = Nothing
EnqueuesAt refusable key bytes (Some e) = If e.broken Nothing (EnqueuesOpen (refusable e) key bytes e)

-- bytes become due on the connection under a key, if a connection is open there and isn't broken; or memory for the
-- bytes is refused, which may happen if `refusable` holds
abbrev pub EnqueuesWhere : (Entry → Bool) → ℕ → List ℕ → Rel
EnqueuesWhere refusable key bytes l hs l' = EnqueuesAt refusable key bytes (l.entries key) l hs l'

-- bytes become due on the connection under a key; memory may be refused only if the bytes need memory
abbrev pub Enqueues : ℕ → List ℕ → Rel
Enqueues key bytes = EnqueuesWhere (needs_memory bytes) key bytes

-- an IPP reply becomes due, and `bytes` takes whether the connection closes after the reply
abbrev pub EnqueuesReplyAt : (Bool → List ℕ) → ℕ → Option Entry → Rel
EnqueuesReplyAt bytes key None = Nothing
EnqueuesReplyAt bytes key (Some e) = Enqueues key (bytes (closes_of e.progress))

abbrev pub EnqueuesResponse : ℕ → List ℕ → Rel
EnqueuesResponse key bytes l hs l' = EnqueuesReplyAt (λ closes. http_reply closes bytes) key (l.entries key) l hs l'

-- an IPP reply of a status alone becomes due
abbrev pub EnqueuesStatus : ℕ → Status → ℕ → Rel
EnqueuesStatus key status request l hs l' = EnqueuesReplyAt (λ closes. http_status closes status request) key (l.entries key) l hs l'

-- ---- the connection of a device

-- a connection is open, and this device gave its name on it
abbrev pub IsDevice : ℕ → Option Entry → Type 0
IsDevice device None = ⊥
IsDevice device (Some e) = device_of e.progress ≡ Some device

abbrev pub IsAbsent : ℕ → Ledger → Type 0
IsAbsent device l = (key : ℕ) → IsDevice device (l.entries key) → ⊥

-- the device's connection is under this key, and under no lower key
abbrev pub IsLowest : ℕ → ℕ → Ledger → Type 0
IsLowest device key l = IsDevice device (l.entries key) × ((lower : ℕ) → lower < key → IsDevice device (l.entries lower) → ⊥)

-- bytes become due on a device's connection, if the device has one; memory may be refused if `refusable` holds
abbrev pub EnqueuesOn : (Entry → Bool) → ℕ → List ℕ → Rel
EnqueuesOn refusable device bytes l hs l' =
    ((key : ℕ) × IsLowest device key l × EnqueuesWhere refusable key bytes l hs l') ⊎ (IsAbsent device l × Nothing l hs l')
