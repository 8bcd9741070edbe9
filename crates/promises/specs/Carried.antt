-- The bytes that a wire carried on each connection, by the wire's calls alone: the open numbers, and the bytes read and taken on each.
use Rattle.std.specs.Prelude.{ℕ, ◌≡◌, ◌==◌, Bool, true, false, if◌then◌else◌, List, [], ◌∷◌, ◌++◌, take, Some}
use Rattle.wires.specs.Poll.{Poll, Accepts, Reads, Writes, Closes}
use Rattle.wires.specs.declared.wire.Progress.TheVariants.{Done, Waiting, End, Fault}
use Rattle.connections.specs.Entry.{Entry, waiting}
use Rattle.server.specs.Polls.{Happening, Polled, Notified, Chosen}
use Rattle.server.specs.Ledger.{Ledger}
use Rattle.server.specs.Law.{happenings_in}
use Rattle.server.specs.Turn.{Trace}

pub record Carried : Type 0 where
  -- whether a connection of the number is open
  pub open_now : ℕ → Bool
  -- the bytes read on the connection since it was accepted, and the bytes taken
  pub read : ℕ → List ℕ
  pub taken : ℕ → List ℕ

-- nothing was carried yet
abbrev pub nothing_carried : Carried
nothing_carried = record { open_now = λ id. false; read = λ id. []; taken = λ id. [] }

-- the table with another value for a number
abbrev pub at_number : {A : Type 0} → ℕ → A → (ℕ → A) → ℕ → A
at_number id value table other = if other == id then value else table other

-- the change of one call of the wire
abbrev pub carry : Carried → Poll → Carried
carry c (Accepts door (Done id)) = record { open_now = at_number id true c.open_now; read = at_number id [] c.read; taken = at_number id [] c.taken }
carry c (Accepts door Waiting) = c
carry c (Accepts door End) = c
carry c (Accepts door Fault) = c
carry c (Reads id (Done bytes)) = record c { read = at_number id (c.read id ++ bytes) c.read }
carry c (Reads id Waiting) = c
carry c (Reads id End) = c
carry c (Reads id Fault) = c
carry c (Writes id offered (Done n)) = record c { taken = at_number id (c.taken id ++ take n offered) c.taken }
carry c (Writes id offered Waiting) = c
carry c (Writes id offered End) = c
carry c (Writes id offered Fault) = c
carry c (Closes id) = record c { open_now = at_number id false c.open_now }

abbrev pub carried : Carried → List Happening → Carried
carried c [] = c
carried c (Polled poll ∷ hs) = carried (carry c poll) hs
carried c (Notified note ∷ hs) = carried c hs
carried c (Chosen choice ∷ hs) = carried c hs

-- an accepted connection gets a number that no open connection has
abbrev pub IsNew : Carried → Poll → Type 0
IsNew c (Accepts door (Done id)) = c.open_now id ≡ false
IsNew c _ = Unit {0}

abbrev pub AreNew : Carried → List Happening → Type 0
AreNew c [] = Unit {0}
AreNew c (Polled poll ∷ hs) = IsNew c poll × AreNew (carry c poll) hs
AreNew c (Notified note ∷ hs) = AreNew c hs
AreNew c (Chosen choice ∷ hs) = AreNew c hs

-- the bytes that were carried in a trace
abbrev pub carried_in : Trace → Carried
carried_in trace = carried nothing_carried (happenings_in trace)

-- the number of an open connection isn't given to another
abbrev pub NumbersDiffer : Trace → Type 0
NumbersDiffer trace = AreNew nothing_carried (happenings_in trace)

-- On each open connection the bytes due are those that the wire took on it, followed by those that wait. A connection that is neither draining nor broken has read exactly the bytes that the wire brought.
pub record IsCarried (trace : Trace) (l : Ledger) : Type 0 where
  pub due : (key : ℕ) (e : Entry) → l.entries key ≡ Some e → e.due ≡ (carried_in trace).taken e.id ++ waiting e
  pub read : (key : ℕ) (e : Entry) → l.entries key ≡ Some e → e.draining ≡ false → e.broken ≡ false → e.read ≡ (carried_in trace).read e.id
