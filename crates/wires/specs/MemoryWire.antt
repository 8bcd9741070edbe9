-- The change that each call makes of a wire in memory.
use Rattle.std.specs.Prelude.{ℕ, ◌≡◌, ◌^◌, nat_le, ◌⊎◌, ◌&&◌, ◌||◌, not, Bool, true, false, List, ◌++◌, take, position, Option, Some, None, slice_get, slice_set}
use Rattle.std.specs.Option.{option_map_or}
use Rattle.wires.specs.declared.wire.Door.{Door}
use Rattle.wires.specs.declared.wire.Door.TheVariants.{Ipp, Lpd, Devices}
use Rattle.wires.specs.declared.wire.Progress.TheVariants.{Done, Waiting, End, Fault}
use Rattle.wires.specs.declared.memory_wire.MemoryWire.{MemoryWire}
use Rattle.wires.specs.Poll.{Poll, Accepts, Reads, Writes, Closes}
use Rattle.wires.specs.MemoryPeer.{PeerState}

abbrev pub is_same_door : Door → Door → Bool
is_same_door Ipp Ipp = true
is_same_door Lpd Lpd = true
is_same_door Devices Devices = true
is_same_door one other = false

-- whether the peer comes in at a door, and isn't accepted yet
abbrev pub comes : Door → PeerState → Bool
comes door peer = not peer.accepted && is_same_door peer.door door

-- the place of the first peer that comes in at a door
abbrev pub next_at : Door → List PeerState → Option ℕ
next_at door peers = position (comes door) peers

-- no peer comes in at the door, or the first has a place above the numbers of 32 bits
abbrev pub none_comes : Door → List PeerState → Bool
none_comes door peers = option_map_or (λ place. nat_le (2 ^ 32) place) (next_at door peers) true

-- whether the peer of a number sends nothing more after its input: its stream ends, or it was closed, or there is no such peer
abbrev pub ends_reading : ℕ → List PeerState → Bool
ends_reading id peers = option_map_or (λ p. p.ended || p.closed) (slice_get peers id) true

-- whether the peer of a number takes no bytes: it was closed, or there is no such peer
abbrev pub ends_writing : ℕ → List PeerState → Bool
ends_writing id peers = option_map_or (λ p. p.closed) (slice_get peers id) true

-- the peer was accepted and not closed
abbrev pub is_open : PeerState → Bool
is_open p = p.accepted && not p.closed

-- an open peer sends these bytes, which are removed from the beginning of its input
pub record Sends (bytes : List ℕ) (p q : PeerState) : Type 0 where
  pub counts : is_open p ≡ true
  pub input : p.input ≡ bytes ++ q.input
  pub rest : q ≡ record p { input = q.input }

-- an open peer has got these bytes
pub record Gets (bytes : List ℕ) (p q : PeerState) : Type 0 where
  pub counts : is_open p ≡ true
  pub taken : q ≡ record p { taken = p.taken ++ bytes }

-- the peer of a number changes, and no other
pub record OnPeer (id : ℕ) (change : PeerState → PeerState → Type 0) (old new : List PeerState) : Type 0 where
  pub before : PeerState
  pub after : PeerState
  pub there : slice_get old id ≡ Some before
  pub changes : change before after
  pub peers : new ≡ slice_set old id after

abbrev pub IsAccepted : PeerState → PeerState → Type 0
IsAccepted p q = q ≡ record p { accepted = true }

-- the peer of a number is closed, if there is one
abbrev pub IsGivenUp : ℕ → List PeerState → List PeerState → Type 0
IsGivenUp id old new = OnPeer id (λ p q. q ≡ record p { closed = true }) old new ⊎ ((slice_get old id ≡ None) × (new ≡ old))

-- a call with its answer, and the peers before and after it
abbrev pub PeersMove : List PeerState → Poll → List PeerState → Type 0
PeersMove old (Accepts door (Done id)) new = (next_at door old ≡ Some id) × OnPeer id IsAccepted old new
PeersMove old (Accepts door Waiting) new = (new ≡ old) × (none_comes door old ≡ true)
PeersMove old (Accepts door End) new = ⊥
PeersMove old (Accepts door Fault) new = new ≡ old
PeersMove old (Reads id (Done bytes)) new = OnPeer id (Sends bytes) old new
PeersMove old (Reads id Waiting) new = (new ≡ old) × (ends_reading id old ≡ false)
PeersMove old (Reads id End) new = (new ≡ old) × (ends_reading id old ≡ true)
PeersMove old (Reads id Fault) new = new ≡ old
PeersMove old (Writes id offered (Done n)) new = OnPeer id (Gets (take n offered)) old new
PeersMove old (Writes id offered Waiting) new = (new ≡ old) × (ends_writing id old ≡ false)
PeersMove old (Writes id offered End) new = (new ≡ old) × (ends_writing id old ≡ true)
PeersMove old (Writes id offered Fault) new = new ≡ old
PeersMove old (Closes id) new = IsGivenUp id old new

-- a call with its answer, and the wire before and after it
abbrev pub MemoryPolls : MemoryWire → Poll → MemoryWire → Type 0
MemoryPolls old poll new = PeersMove old.peers.items poll new.peers.items
