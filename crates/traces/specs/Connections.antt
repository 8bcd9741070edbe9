-- The connections of a trace: the bytes that their peers send and get, and the lines that are printed for them.
use Rattle.std.specs.Prelude.{ℕ, ◌==◌, ◌^◌, ◌-◌, ◌&&◌, ◌||◌, not, nat_lt, Bool, true, false, if◌then◌else◌, List, [], ◌∷◌, ◌++◌, find, Option, codes, slice_get, slice_set}
use Rattle.std.specs.Option.{option_map_or}
use Rattle.std.specs.List.{insert, position_or_len}
use Rattle.std.specs.Fmt.{decimal}
use Rattle.hex.specs.Hex.{encode_lower}
use Rattle.wires.specs.MemoryPeer.{PeerState}
use Rattle.wires.specs.declared.wire.Door.{Door}
use Rattle.traces.specs.declared.peers.Connection.{Connection}

-- ---- connections by their numbers

-- the connection of a number
abbrev pub numbered : ℕ → List Connection → Option Connection
numbered number connections = find (λ c. c.number == number) connections

-- the connections with one more, before the first of a greater number
abbrev pub with_connection : Connection → List Connection → List Connection
with_connection added connections = insert connections (position_or_len (λ c. nat_lt added.number c.number) connections) added

-- ---- peers

-- a peer that has sent nothing yet, and takes all bytes that are written to it
abbrev pub new_peer : Door → PeerState
new_peer door = record { door = door; accepted = false; closed = false; input = []; segment = 2 ^ 64 - 1; ended = false; taken = []; most = 2 ^ 64 - 1 }

-- the peer at a place is changed, if there is one
abbrev pub changed_at : ℕ → (PeerState → PeerState) → List PeerState → List PeerState
changed_at place change peers = option_map_or (λ p. slice_set peers place (change p)) (slice_get peers place) peers

-- the peer sends these bytes too
abbrev pub sending : List ℕ → PeerState → PeerState
sending bytes p = record p { input = p.input ++ bytes }

-- the peer sends nothing more
abbrev pub ending : PeerState → PeerState
ending p = record p { ended = true }

-- whether the peer at a place may send more
abbrev pub may_send : ℕ → List PeerState → Bool
may_send place peers = option_map_or (λ p. not p.ended) (slice_get peers place) false

-- whether the peer of the connection of a number may send more
abbrev pub is_open : ℕ → List Connection → List PeerState → Bool
is_open number connections peers = option_map_or (λ c. may_send c.place peers) (numbered number connections) false

-- ---- the printed lines

-- the line of the bytes that a peer got; empty if it got none
abbrev pub out_line : ℕ → List ℕ → List ℕ
out_line number [] = []
out_line number (byte ∷ bytes) = codes "out " ++ (decimal number ++ (codes " " ++ (encode_lower (byte ∷ bytes) ++ codes "\n")))

abbrev pub gone_line : ℕ → List ℕ
gone_line number = codes "gone " ++ (decimal number ++ codes "\n")

-- the lines of a connection: the bytes that its peer got since the last print, and its close since then
abbrev pub peer_text : Connection → PeerState → List ℕ
peer_text c p = out_line c.number p.taken ++ (if p.closed && not c.gone then gone_line c.number else [])

abbrev pub connection_text : List PeerState → Connection → List ℕ
connection_text peers c = option_map_or (peer_text c) (slice_get peers c.place) []

-- the lines of each connection, in the order of their numbers
abbrev pub connections_text : List PeerState → List Connection → List ℕ
connections_text peers [] = []
connections_text peers (c ∷ cs) = connection_text peers c ++ connections_text peers cs

-- whether the connection of the peer at a place was closed
abbrev pub is_closed : List PeerState → ℕ → Bool
is_closed peers place = option_map_or (λ p. p.closed) (slice_get peers place) false

-- the connection after its close, if there was one, was printed
abbrev pub seen : List PeerState → Connection → Connection
seen peers c = record c { gone = c.gone || is_closed peers c.place }

abbrev pub emptied : PeerState → PeerState
emptied p = record p { taken = [] }
