-- The wire of a trace: a wire in memory that moves all bytes that can be moved.
use Rattle.std.specs.Prelude.{ℕ, ◌≡◌, ◌||◌, not, Bool, true, false, List, [], ◌∷◌, slice_get}
use Rattle.std.specs.Option.{option_map_or}
use Rattle.wires.specs.declared.wire.Progress.{Progress}
use Rattle.wires.specs.declared.wire.Progress.TheVariants.{Done, Waiting, End, Fault}
use Rattle.wires.specs.MemoryPeer.{PeerState}
use Rattle.wires.specs.Poll.{Poll, Accepts, Reads, Writes, Closes}
use Rattle.wires.specs.MemoryWire.{PeersMove}
use Rattle.traces.specs.declared.wire.TraceWire.{TraceWire}

-- whether the answer isn't Waiting
abbrev pub is_something : {T : Type 0} → Progress T → Bool
is_something (Done it) = true
is_something Waiting = false
is_something End = true
is_something Fault = true

abbrev pub stirs : Poll → Bool
stirs (Accepts door answer) = is_something answer
stirs (Reads id answer) = is_something answer
stirs (Writes id offered answer) = is_something answer
stirs (Closes id) = false

abbrev pub is_empty : List ℕ → Bool
is_empty [] = true
is_empty (byte ∷ bytes) = false

-- whether the peer of a number has bytes that weren't read
abbrev pub has_input : ℕ → List PeerState → Bool
has_input id peers = option_map_or (λ p. not (is_empty p.input)) (slice_get peers id) false

-- no poll fails, a read waits only if no bytes are there, and no write waits
abbrev pub IsPrompt : List PeerState → Poll → Type 0
IsPrompt peers (Accepts door Fault) = ⊥
IsPrompt peers (Reads id Fault) = ⊥
IsPrompt peers (Reads id Waiting) = has_input id peers ≡ false
IsPrompt peers (Writes id offered Fault) = ⊥
IsPrompt peers (Writes id offered Waiting) = ⊥
IsPrompt peers _ = Unit {0}

-- a call: the wire records whether the answer isn't Waiting, and whether it wasn't prompt
pub record WirePolls (old : TraceWire) (poll : Poll) (new : TraceWire) : Type 0 where
  pub moves : PeersMove old.memory.peers.items poll new.memory.peers.items
  pub stirred : new.stirred ≡ (old.stirred || stirs poll)
  pub prompt : new.failed ≡ false → (old.failed ≡ false) × IsPrompt old.memory.peers.items poll
