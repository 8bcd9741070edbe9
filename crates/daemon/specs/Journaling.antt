-- A server with a journal: its engine is at the trace of what is stored and of the lines that are kept.
use Rattle.std.specs.Prelude.{ℕ, ◌≡◌, ◌⊎◌, true, false, List, ◌++◌, Some, None}
use Rattle.print_room.specs.State.{State}
use Rattle.recordings.specs.Lines.{turn_line}
use Rattle.recordings.specs.Noting.{NoteState, are_comments, with_note}
use Rattle.server.specs.Polls.{Happening}
use Rattle.server.specs.Ledger.{Ledger, opening_ledger}
use Rattle.server.specs.Turn.{Trace, Allows}
use Rattle.server.specs.Refinement.{IsAt}
use Rattle.journal.specs.declared.gate.Pass.TheVariants.{Outward}
use Rattle.journal.specs.Passing.{calls_in, passed}
use Rattle.journal.specs.Laws.{AreDue}
use Rattle.journal.specs.File.{IsFile}
use Rattle.daemon.specs.declared.serving.Server.{Server}
use Rattle.daemon.specs.Serving.{calls_of}

-- The engine is at this trace, and the trace has a file: the stored lines, and the kept lines after them. If memory for a line was refused, no lines are kept.
pub record IsFiled (opening : State) (trace : Trace) (server : Server) (stored : List ℕ) : Type 0 where
  pub journaled : server.journaled ≡ true
  pub whole : server.wire.notes.heads ≡ false
  pub reaches : IsAt opening trace server.engine
  pub file : (kept : List ℕ) → server.wire.notes.lines ≡ Some kept → IsFile trace (stored ++ kept)

-- wherever the engine was at a filed trace, it is at a filed trace that begins with that trace
abbrev pub KeepsFiled : Server → List ℕ → Server → List ℕ → Type 0
KeepsFiled old before new after = (opening : State) (trace : Trace) → IsFiled opening trace old before → (more : Trace) × IsFiled opening (trace ++ more) new after

-- the same with nothing stored meanwhile
abbrev pub FilesTurn : Server → Server → Type 0
FilesTurn old new = (stored : List ℕ) → KeepsFiled old stored new stored

-- comments are noted, or the notes are lost
abbrev pub AddsComments : NoteState → NoteState → Type 0
AddsComments old new = (new.heads ≡ old.heads) × ((new.lines ≡ None) ⊎ ((comments : List ℕ) × (are_comments comments ≡ true) × (new.lines ≡ with_note comments old.lines)))

-- the end of a turn is noted after comments, or the notes are lost
abbrev pub NotesEnd : ℕ → NoteState → NoteState → Type 0
NotesEnd moment old new = (new.heads ≡ old.heads) × ((new.lines ≡ None) ⊎ ((comments : List ℕ) × (are_comments comments ≡ true) × (new.lines ≡ with_note (comments ++ turn_line moment) old.lines)))

-- The calls that were made of the sockets sent only bytes that were due by a trace whose file is stored.
pub record SendsStored (old : Server) (stored : List ℕ) (new : Server) : Type 0 where
  pub happenings : List Happening
  pub calls : calls_of new ≡ calls_of old ++ passed Outward (calls_in happenings)
  pub decided : (opening : State) (trace : Trace) → IsFiled opening trace old stored → IsFile trace stored × ((l : Ledger) × Allows trace (opening_ledger opening) l × AreDue l (calls_in happenings))
