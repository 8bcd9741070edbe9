-- A connection as plain data, and the change that each call makes of it.
use Rattle.std.specs.Prelude.{ℕ, ◌≡◌, ◌⊎◌, ◌||◌, ◌&&◌, ◌==◌, ◌+◌, ◌<◌, not, nat_lt, Bool, true, false, List, ◌++◌, length, if◌then◌else◌}
use Rattle.base_types.specs.declared.limits.TheConstants.Limits.{WAITING_OUTPUT_BYTES}
use Rattle.connections.specs.declared.queue.TheConstants.{RESERVED_BYTES}
use Rattle.connections.specs.Steps.{due_bytes}
use Rattle.connections.specs.Peers.{work, unnamed}
use Rattle.connections.specs.declared.ask.Ask.{Ask}
use Rattle.connections.specs.declared.ask.Ask.TheVariants as ask
use Rattle.connections.specs.declared.ask.AllocFailure.TheVariants as growth
use Rattle.connections.specs.declared.step.Step.{Step}
use Rattle.connections.specs.declared.step.Step.TheVariants as step
use Rattle.connections.specs.declared.peer.Peer.{Peer}

pub record ConnectionState : Type 0 where
  pub id : ℕ
  pub peer : Peer
  pub ended : Bool
  pub draining : Bool
  pub broken : Bool
  -- the bytes that wait to be taken by the wire
  pub output : List ℕ

-- an upper bound on the steps that a connection can still bring: 0 for a connection that is draining or broken
abbrev pub load : ConnectionState → ℕ
load c = if c.draining || c.broken then 0 else 1 + work c.peer

-- the connection's input hasn't ended, and at most WAITING_OUTPUT_BYTES wait
abbrev pub is_read : ConnectionState → Bool
is_read c = not c.ended && not (nat_lt WAITING_OUTPUT_BYTES (length c.output))

abbrev pub is_done : ConnectionState → Bool
is_done c = (c.ended || c.draining) && (length c.output == 0)

abbrev pub with_peer : Peer → ConnectionState → ConnectionState
with_peer peer c = record c { peer = peer }

abbrev pub is_ended : ConnectionState → ConnectionState
is_ended c = record c { ended = true }

abbrev pub is_broken : ConnectionState → ConnectionState
is_broken c = record c { broken = true }

abbrev pub is_kept : List ℕ → ConnectionState → ConnectionState
is_kept bytes c = record c { output = c.output ++ bytes }

abbrev pub is_draining : Bool → ConnectionState → ConnectionState
is_draining last c = record c { draining = last }

-- the device that gave its name on the connection has another connection
abbrev pub superseded : ConnectionState → ConnectionState
superseded c = record c { peer = unnamed c.peer; broken = true }

-- bytes become due: they wait, or memory for them is refused and the connection breaks
abbrev pub Enqueues : List ℕ → ConnectionState → Ask → ConnectionState → Type 0
Enqueues bytes c what d =
    ((what ≡ ask.Nothing) × (d ≡ is_kept bytes c))
    ⊎ ((what ≡ ask.Broke growth.Output) × (RESERVED_BYTES < length (c.output ++ bytes)) × (d ≡ is_broken c))

-- a step is taken
abbrev pub Takes : Step → ConnectionState → Ask → ConnectionState → Type 0
Takes (step.Due due last) c what d = Enqueues (due_bytes due) (is_draining last c) what d
Takes (step.Asks asked last) c what d = (what ≡ asked) × (d ≡ is_draining last c)
Takes (step.Breaks asked) c what d = (what ≡ asked) × (d ≡ is_broken c)

-- the waiting bytes with these bytes exceed what a connection reserves
abbrev pub OutgrowsReserve : List ℕ → ConnectionState → Type 0
OutgrowsReserve bytes c = RESERVED_BYTES < length (c.output ++ bytes)

-- the result of enqueueing bytes: a broken connection is unchanged; else the bytes wait, or the connection breaks
abbrev pub EnqueuesAs : List ℕ → Bool → ConnectionState → ConnectionState → Type 0
EnqueuesAs bytes false c d = ((c.broken ≡ true) × (d ≡ c)) ⊎ ((c.broken ≡ false) × (d ≡ is_kept bytes c))
EnqueuesAs bytes true c d = (c.broken ≡ false) × (d ≡ is_broken c)
