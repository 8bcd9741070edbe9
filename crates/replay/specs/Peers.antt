-- The peers of a trace, over the happenings of the server that polls them.
use Rattle.std.specs.Prelude.{◌≡◌, ◌||◌, Bool, false, List, [], ◌∷◌, ◌++◌}
use Rattle.wires.specs.MemoryPeer.{PeerState}
use Rattle.server.specs.Polls.{Happening, Polled, Notified, Chosen}
use Rattle.wires.specs.MemoryWire.{PeersMove}
use Rattle.traces.specs.Wire.{stirs, IsPrompt}

-- the peers after a happening: a poll moves their bytes, promptly; a note leaves them unchanged
abbrev pub PeersSee : List PeerState → Happening → List PeerState → Type 0
PeersSee old (Polled poll) new = PeersMove old poll new × IsPrompt old poll
PeersSee old (Notified note) new = new ≡ old
PeersSee old (Chosen choice) new = ⊥

abbrev pub happening_stirs : Happening → Bool
happening_stirs (Polled poll) = stirs poll
happening_stirs (Notified note) = false
happening_stirs (Chosen choice) = false

-- whether some poll has an answer other than Waiting
abbrev pub any_stirs : List Happening → Bool
any_stirs [] = false
any_stirs (h ∷ hs) = happening_stirs h || any_stirs hs

-- the happenings of turns, in order
abbrev pub all_turns : List (List Happening) → List Happening
all_turns [] = []
all_turns (turn ∷ turns) = turn ++ all_turns turns
