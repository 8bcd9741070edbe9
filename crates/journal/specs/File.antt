-- The file of a trace: turn by turn the notes of its calls, comments, and the line of its end.
use Rattle.std.specs.Prelude.{ℕ, ◌≡◌, Bool, true, if◌then◌else◌, List, [], ◌∷◌, ◌++◌, Option}
use Rattle.wires.specs.Poll.{Poll}
use Rattle.print_room.specs.State.{State}
use Rattle.recordings.specs.Lines.{turn_line}
use Rattle.recordings.specs.Noting.{note_of, are_comments, restarted_line}
use Rattle.server.specs.State.{EngineState}
use Rattle.server.specs.Turn.{Trace, Turned, Served_body, Reported, Ticked}
use Rattle.server.specs.Refinement.{IsAt}
use Rattle.journal.specs.Passing.{calls_in}

-- these lines are the notes of these calls, in order
abbrev pub AreLines : List Poll → List ℕ → Type 0
AreLines [] lines = lines ≡ []
AreLines (poll ∷ polls) lines = (sum : Option ℕ) × (rest : List ℕ) × (lines ≡ note_of poll sum ++ rest) × AreLines polls rest

-- the line before the end of a turn in which a server that had been restarted lost its connections
abbrev pub restart_line : Bool → List ℕ
restart_line restarted = if restarted then restarted_line else []

-- the text of a turn with these calls
pub record IsTurnText (moment : ℕ) (polls : List Poll) (text : List ℕ) : Type 0 where
  pub lines : List ℕ
  pub comments : List ℕ
  pub restarted : Bool
  pub are_lines : AreLines polls lines
  pub are_comments : are_comments comments ≡ true
  pub whole : text ≡ (lines ++ comments) ++ (restart_line restarted ++ turn_line moment)

-- the file of a trace of turns
abbrev pub IsFile : Trace → List ℕ → Type 0
IsFile [] file = file ≡ []
IsFile (Turned moment hs ∷ trace) file = (text : List ℕ) × (rest : List ℕ) × IsTurnText moment (calls_in hs) text × (file ≡ text ++ rest) × IsFile trace rest
IsFile (Served_body moment body answer hs ∷ trace) file = ⊥
IsFile (Reported moment device reported hs ∷ trace) file = ⊥
IsFile (Ticked moment hs ∷ trace) file = ⊥

-- the engine is at a trace that began with this core, and the trace has this file
pub record HasPlayed (opening : State) (file : List ℕ) (engine : EngineState) : Type 0 where
  pub trace : Trace
  pub reaches : IsAt opening trace engine
  pub is_file : IsFile trace file

-- wherever the engine was at the trace of a file of these lines, it is at the trace of one of those
abbrev pub KeepsPlayed : List ℕ → EngineState → List ℕ → EngineState → Type 0
KeepsPlayed before old after new = (opening : State) → HasPlayed opening before old → HasPlayed opening after new
