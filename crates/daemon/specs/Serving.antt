-- The turns of a server: each is a turn of its engine, whose calls are those that it made of the sockets.
use Rattle.std.specs.Prelude.{ℕ, ◌≡◌, ◌⊎◌, Bool, false, List, [], ◌∷◌, ◌++◌, None}
use Rattle.wires.specs.Poll.{Poll}
use Rattle.print_room.specs.State.{State}
use Rattle.recordings.specs.Noting.{NoteState, Notes, with_note}
use Rattle.server.specs.Law.{happenings_in}
use Rattle.server.specs.Polls.{Happening, Polled, Notified, Chosen}
use Rattle.server.specs.Ledger.{Ledger}
use Rattle.server.specs.Rel.{Seen}
use Rattle.server.specs.Turn.{Trace, Turn, Turned}
use Rattle.server.specs.Refinement.{Represents, IsAt}
use Rattle.journal.specs.declared.gate.Pass.{Pass}
use Rattle.journal.specs.declared.gate.Pass.TheVariants.{All}
use Rattle.journal.specs.Passing.{calls_in, ArePassed, passed}
use Rattle.daemon.specs.declared.serving.Server.{Server}

-- the calls that were made of a server's sockets, with their answers, in order
abbrev pub calls_of : Server → List Poll
calls_of server = server.wire.wire.wire.history.calls

-- each of these calls is noted, in order
abbrev pub AreNoted : List Poll → NoteState → NoteState → Type 0
AreNoted [] old new = new ≡ old
AreNoted (poll ∷ polls) old new = (mid : NoteState) × Notes poll old mid × AreNoted polls mid new

-- the observer is not notified
abbrev pub HasNoNote : List Happening → Type 0
HasNoNote [] = Unit {0}
HasNoNote (Polled poll ∷ hs) = HasNoNote hs
HasNoNote (Notified note ∷ hs) = ⊥
HasNoNote (Chosen choice ∷ hs) = HasNoNote hs

-- A turn of the engine, of which only some calls reach the sockets. It leads each ledger that represents the old engine to one that represents the new engine. For each trace at which the engine was, it is now at that trace followed by this turn. The calls of the turn that pass are exactly those that were made of the sockets, and all calls are noted. `notified` indicates whether the observer may have been notified.
pub record TakesTurn (pass : Pass) (moment : ℕ) (notified : Bool) (old new : Server) : Type 0 where
  pub happenings : List Happening
  pub turns : (l : Ledger) → Represents l old.engine → (l' : Ledger) × Seen (Turn moment) l happenings l' × Represents l' new.engine
  pub reaches : (opening : State) (trace : Trace) → IsAt opening trace old.engine → IsAt opening (trace ++ Turned moment happenings ∷ []) new.engine
  pub are_passed : ArePassed pass (calls_in happenings)
  pub calls : calls_of new ≡ calls_of old ++ passed pass (calls_in happenings)
  pub notes : AreNoted (calls_in happenings) old.wire.notes new.wire.notes
  pub unnotified : notified ≡ false → HasNoNote happenings
  pub journaled : new.journaled ≡ old.journaled

-- the engine is unchanged, and no call was made of the sockets
abbrev pub Idles : Server → Server → Type 0
Idles old new = (new.engine ≡ old.engine) × (calls_of new ≡ calls_of old) × (new.journaled ≡ old.journaled)

-- as `Idles`, and the notes are unchanged
abbrev pub Rests : Server → Server → Type 0
Rests old new = Idles old new × (new.wire.notes ≡ old.wire.notes)

-- lines are added to the notes, or the notes are lost
abbrev pub AddsLines : NoteState → NoteState → Type 0
AddsLines old new = (new.lines ≡ None) ⊎ ((more : List ℕ) × (new.lines ≡ with_note more old.lines))

-- a turn of the engine, and then lines in the notes that aren't calls
abbrev pub ServesTurn : Pass → ℕ → Server → Server → Type 0
ServesTurn pass moment old new = (notified : Bool) × (turned : Server) × TakesTurn pass moment notified old turned × Idles turned new × AddsLines turned.wire.notes new.wire.notes

-- turns at these moments, in order, in which all calls pass; before, between and after them the server idles
abbrev pub ServesTurns : List ℕ → Server → Server → Type 0
ServesTurns [] old new = Idles old new
ServesTurns (moment ∷ moments) old new = (begun : Server) × (turned : Server) × Idles old begun × ServesTurn All moment begun turned × ServesTurns moments turned new

-- each action is a turn at its moment
abbrev pub AreTurnsAt : List ℕ → Trace → Type 0
AreTurnsAt [] [] = Unit {0}
AreTurnsAt (moment ∷ moments) (Turned at hs ∷ actions) = (at ≡ moment) × AreTurnsAt moments actions
AreTurnsAt _ _ = ⊥

-- If the engine was at the trace before, it is now at that trace followed by turns at exactly these moments. The calls of the turns are exactly those that were made of the sockets, in order.
pub record HasTurned (opening : State) (before : Trace) (moments : List ℕ) (old new : Server) : Type 0 where
  pub turns : Trace
  pub are_at : AreTurnsAt moments turns
  pub reaches : IsAt opening (before ++ turns) new.engine
  pub calls : calls_of new ≡ calls_of old ++ calls_in (happenings_in turns)
