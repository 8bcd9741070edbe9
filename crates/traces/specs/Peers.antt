-- The connections of a trace with their peers, and the changes that its lines make of them.
use Rattle.std.specs.Prelude.{ℕ, ◌≡◌, not, Bool, true, false, List, [], ◌∷◌, ◌++◌, length, map}
use Rattle.std.specs.Option.{is_some, option_map_or}
use Rattle.wires.specs.MemoryPeer.{PeerState}
use Rattle.traces.specs.declared.line.Line.{Line}
use Rattle.traces.specs.declared.line.Line.TheVariants as Form
use Rattle.traces.specs.declared.line.Opening.{Opening}
use Rattle.traces.specs.declared.peers.Connection.{Connection}
use Rattle.traces.specs.declared.peers.Peers.{Peers}
use Rattle.traces.specs.Connections.{numbered, with_connection, new_peer, changed_at, is_open, connections_text, seen, emptied}

-- these are the connections and their peers, and whether a poll of the wire failed
pub record Holds (cs : List Connection) (ps : List PeerState) (has_failed : Bool) (p : Peers) : Type 0 where
  pub connections : p.connections.items ≡ cs
  pub peers : p.wire.memory.peers.items ≡ ps
  pub failed : p.wire.failed ≡ has_failed

-- whether a line may come: it opens a connection of a new number, or the peer of its connection may send more
abbrev pub may_come : Line → List Connection → List PeerState → Bool
may_come (Form.At moment) connections peers = true
may_come (Form.Ipp body) connections peers = true
may_come (Form.Device device report) connections peers = true
may_come Form.Tick connections peers = true
may_come (Form.Open opening) connections peers = not (is_some (numbered opening.number connections))
may_come (Form.In input) connections peers = is_open input.number connections peers
may_come (Form.End number) connections peers = is_open number connections peers

-- the connections with a new one of this number, whose peer is after all others
abbrev pub opened : ℕ → List Connection → List PeerState → List Connection
opened number connections peers = with_connection (record { number = number; place = length peers; gone = false }) connections

-- the peer of the connection of a number changes
abbrev pub on_peer : ℕ → (PeerState → PeerState) → List Connection → List PeerState → List PeerState
on_peer number change connections peers = option_map_or (λ c. changed_at c.place change peers) (numbered number connections) peers

-- a connection was opened
abbrev pub Opens : Opening → Peers → Peers → Type 0
Opens opening old = Holds (opened opening.number old.connections.items old.wire.memory.peers.items) (old.wire.memory.peers.items ++ new_peer opening.door ∷ []) old.wire.failed

-- the peer of the connection of a number has changed
abbrev pub ChangesPeer : ℕ → (PeerState → PeerState) → Peers → Peers → Type 0
ChangesPeer number change old = Holds old.connections.items (on_peer number change old.connections.items old.wire.memory.peers.items) old.wire.failed

-- the lines of the connections were appended; their content isn't there to be printed again
pub record Prints (old : Peers) (before : List ℕ) (new : Peers) (after : List ℕ) : Type 0 where
  pub printed : after ≡ before ++ connections_text old.wire.memory.peers.items old.connections.items
  pub leaves : Holds (map (seen old.wire.memory.peers.items) old.connections.items) (map emptied old.wire.memory.peers.items) old.wire.failed new
