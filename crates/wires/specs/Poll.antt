-- The calls of a wire, with their answers.
use Rattle.std.specs.Prelude.{ℕ, ◌<◌, ◌≤◌, List, take}
use Rattle.wires.specs.declared.wire.Door.{Door}
use Rattle.wires.specs.declared.wire.Progress.{Progress}
use Rattle.wires.specs.declared.wire.Progress.TheVariants.{Done, Waiting, End, Fault}

-- a call of a wire, with its answer
pub data Poll : Type 0 where
  Accepts : (door : Door) (answer : Progress ℕ) → Poll
  Reads : (id : ℕ) (answer : Progress (List ℕ)) → Poll
  Writes : (id : ℕ) (offered : List ℕ) (answer : Progress ℕ) → Poll
  Closes : (id : ℕ) → Poll

-- the bytes of a read, which are a prefix of the buffer
abbrev pub bytes_read : Progress ℕ → List ℕ → Progress (List ℕ)
bytes_read (Done n) buffer = Done (take n buffer)
bytes_read Waiting buffer = Waiting
bytes_read End buffer = End
bytes_read Fault buffer = Fault

-- a read or a write moves at least one byte, and at most `room` bytes
abbrev pub IsCount : Progress ℕ → ℕ → Type 0
IsCount (Done n) room = (0 < n) × (n ≤ room)
IsCount Waiting room = Unit {0}
IsCount End room = Unit {0}
IsCount Fault room = Unit {0}

-- a fault is answered only if a failure was counted during the call
abbrev pub HasCause : {T : Type 0} → ℕ → ℕ → Progress T → Type 0
HasCause before now Fault = before < now
HasCause before now (Done x) = before ≤ now
HasCause before now Waiting = before ≤ now
HasCause before now End = before ≤ now
