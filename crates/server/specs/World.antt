-- The world outside the engine: a wire and an observer as one.
use Rattle.std.specs.Prelude.{◌≡◌}
use Rattle.wires.specs.Poll.{Poll}
use Rattle.dispatcher.specs.Notes.{Note}
use Rattle.server.specs.declared.world.World.{World}
use Rattle.server.specs.Polls.{Happening, Polled, Notified, Chosen}

-- a poll and a note move a world that is both a wire and an observer
abbrev pub moved : {S : Type 0} → (S → Poll → S → Type 0) → (S → Note → S → Type 0) → S → Happening → S → Type 0
moved polled notified old (Polled poll) new = polled old poll new
moved polled notified old (Notified note) new = notified old note new
moved polled notified old (Chosen choice) new = ⊥

-- ---- a wire and an observer that are lent

-- the same wire and the same observer are lent
abbrev pub SameLoans : {W N : Type 0} → World W N → World W N → Type 0
SameLoans old new = (new.wire.ghost_name ≡ old.wire.ghost_name) × (new.notes.ghost_name ≡ old.notes.ghost_name)

-- a poll moves the wire, and the observer is unchanged
abbrev pub wire_polled : {W N : Type 0} → (W → Poll → W → Type 0) → World W N → Poll → World W N → Type 0
wire_polled polled old poll new = polled old.wire.now poll new.wire.now × (new.notes.now ≡ old.notes.now) × SameLoans old new

-- a note moves the observer, and the wire is unchanged
abbrev pub observer_notified : {W N : Type 0} → (N → Note → N → Type 0) → World W N → Note → World W N → Type 0
observer_notified notified old note new = notified old.notes.now note new.notes.now × (new.wire.now ≡ old.wire.now) × SameLoans old new
