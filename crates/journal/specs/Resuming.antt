-- A server's engine that takes the turns of a file again, and then loses its connections.
use Rattle.std.specs.Prelude.{ℕ, ◌≡◌, false, List, [], ◌∷◌, ◌++◌, codes, Some, option_map, is_some, count_by}
use Rattle.print_room.specs.State.{State}
use Rattle.recordings.specs.Noting.{NoteState}
use Rattle.server.specs.Polls.{Happening}
use Rattle.server.specs.Ledger.{Ledger, opening_ledger}
use Rattle.server.specs.Law.{happenings_in}
use Rattle.server.specs.State.{EngineState}
use Rattle.server.specs.Turn.{Trace, Turned, Allows}
use Rattle.server.specs.Refinement.{Represents, IsAt}
use Rattle.journal.specs.Passing.{calls_in, AreLost}
use Rattle.journal.specs.Laws.{WaitingStay}
use Rattle.journal.specs.File.{AreLines, restart_line, IsTurnText, IsFile, HasPlayed}
use Rattle.journal.specs.declared.resumption.Resumption.{Resumption}
use Rattle.journal.specs.declared.restarting.Restarted.{Restarted}

-- ---- the turns of a file

-- the lines of the turn that hasn't ended
abbrev pub pending : Resumption → List ℕ
pending r = (r.lines.items ++ r.comments.items) ++ restart_line r.restarted

-- The lines so far are the file of a trace at which the engine is, and lines of a turn that hasn't ended.
pub record Resumes (opening : State) (file : List ℕ) (r : Resumption) : Type 0 where
  pub played : HasPlayed opening r.stored.lines r.engine
  pub is : file ≡ r.stored.lines ++ pending r
  pub noted : r.wire.notes ≡ record { lines = Some []; heads = false }

-- whatever the lines so far are, they now have these bytes after them
abbrev pub Extends : List ℕ → Resumption → Resumption → Type 0
Extends more old new = (opening : State) (file : List ℕ) → Resumes opening file old → Resumes opening (file ++ more) new

-- a turn leads the engine on; where no lines were noted and lines are noted afterwards, these are the notes of its calls
pub record Turns (moment : ℕ) (old : EngineState) (before : NoteState) (new : EngineState) (after : NoteState) : Type 0 where
  pub happenings : List Happening
  pub reaches : (opening : State) (trace : Trace) → IsAt opening trace old → IsAt opening (trace ++ Turned moment happenings ∷ []) new
  pub noted : before ≡ record { lines = Some []; heads = false } → (after.heads ≡ false) × ((lines : List ℕ) → after.lines ≡ Some lines → AreLines (calls_in happenings) lines)

-- the engine takes a turn, and the lines of the turn stay
pub record TakesTurn (moment : ℕ) (old new : Resumption) : Type 0 where
  pub turns : Turns moment old.engine old.wire.notes new.engine new.wire.notes
  pub same : new ≡ record old { engine = new.engine; wire = new.wire }

-- the lines of the turn are stored with this last line, and removed, and their notes
pub record StartsTurn (line : List ℕ) (old new : Resumption) : Type 0 where
  pub stored : new.stored.lines ≡ ((((old.stored.lines ++ old.lines.items) ++ old.comments.items) ++ restart_line old.restarted) ++ line) ++ codes "\n"
  pub engine : new.engine ≡ old.engine
  pub none : pending new ≡ []
  pub notes : new.wire.notes ≡ record old.wire.notes { lines = option_map (λ text. []) old.wire.notes.lines }

-- ---- lost connections

-- The engine is at the trace of a file, or at that trace followed by a turn in which each connection is lost. `text` is the text of that turn, or empty. No connection is open. Each job that waited waits.
pub record HasRestarted (opening : State) (file text : List ℕ) (engine : EngineState) : Type 0 where
  pub trace : Trace
  pub lost : Trace
  pub is_file : IsFile trace file
  pub is_longer : IsFile (trace ++ lost) (file ++ text)
  pub reaches : IsAt opening (trace ++ lost) engine
  pub are_lost : AreLost (calls_in (happenings_in lost))
  pub unconnected : count_by is_some engine.slots ≡ 0
  pub before : Ledger
  pub stood : Allows trace (opening_ledger opening) before
  pub waiting : WaitingStay before.core engine.core

-- a turn in which each connection is lost, with its text
pub record LosesAll (old : EngineState) (text : List ℕ) (new : EngineState) : Type 0 where
  pub moment : ℕ
  pub happenings : List Happening
  pub are_lost : AreLost (calls_in happenings)
  pub is_text : IsTurnText moment (calls_in happenings) text
  pub unconnected : count_by is_some new.slots ≡ 0
  pub reaches : (opening : State) (trace : Trace) → IsAt opening trace old → IsAt opening (trace ++ Turned moment happenings ∷ []) new
  pub waiting : (l : Ledger) → Represents l old → WaitingStay old.core new.core

-- whatever the lines so far are: without those of the turn that hasn't ended they are a file from which the engine was restarted
abbrev pub RestartsAs : Resumption → Restarted → Type 0
RestartsAs r restarted =
    (opening : State) (file : List ℕ) → Resumes opening file r
    → (file ≡ r.stored.lines ++ pending r) × HasRestarted opening r.stored.lines restarted.text.items restarted.engine × (restarted.stored.lines ≡ r.stored.lines ++ restarted.text.items)
