-- The steps of a program that plays a trace.
use Rattle.std.specs.Prelude.{ℕ, ◌≡◌, Bool, true, false, List, [], ◌∷◌, ◌++◌, map, Option, Some, None}
use Rattle.std.specs.Option.{ForSome}
use Rattle.settings_file.specs.Settings.{ServerSettings, device_names}
use Rattle.print_room.specs.Opening.{opening}
use Rattle.print_room.specs.State.{State}
use Rattle.server.specs.Polls.{Happening, Leads}
use Rattle.server.specs.Turn.{Trace, Turned}
use Rattle.server.specs.State.{EngineState}
use Rattle.server.specs.Refinement.{IsAt}
use Rattle.program.specs.declared.exit_status.ExitStatus.TheVariants as Ends
use Rattle.program.specs.Output.{ProgramOutput, output_after}
use Rattle.replay.specs.declared.play.Play.{Play}
use Rattle.traces.specs.declared.line.Line.{Line}
use Rattle.traces.specs.declared.line_fault.LineFault.{LineFault}
use Rattle.replay.specs.Log.{happenings_text}
use Rattle.replay.specs.Playing.{Standing, IsBad, may_come, Plays, LinesPlay, AreTillQuiet}
use Rattle.replay.specs.Replay.{start}
use Rattle.traces.specs.TraceLine.{IsLine}
use Rattle.replay.specs.Peers.{PeersSee, any_stirs, all_turns}

-- the progress of a play
abbrev pub standing : Play → Standing
standing p = record { moment = p.moment; connections = p.peers.connections.items; peers = p.peers.wire.memory.peers.items }

-- for each trace at which the old engine is, the new one is at that trace with these actions after it
abbrev pub Moves : EngineState → Trace → EngineState → Type 0
Moves old actions new = (opening : State) (trace : Trace) → IsAt opening trace old → IsAt opening (trace ++ actions) new

-- all notes were printed, and no poll of the wire has failed
pub record IsReady (p : Play) : Type 0 where
  pub silent : p.log.observed ≡ Some []
  pub prompt : p.peers.wire.failed ≡ false

-- a server that starts with these settings
pub record IsStart (texts : Bool) (settings : ServerSettings) (p : Play) : Type 0 where
  pub log : p.log ≡ record { texts = texts; names = device_names settings; observed = Some [] }
  pub prompt : p.peers.wire.failed ≡ false
  pub starts : standing p ≡ start
  pub reaches : IsAt (opening settings 1) [] p.engine

-- only the connections and their peers have changed
pub record Becomes (old new : Play) (s : Standing) : Type 0 where
  pub engine : new.engine ≡ old.engine
  pub log : new.log ≡ old.log
  pub prompt : new.peers.wire.failed ≡ old.peers.wire.failed
  pub reaches : standing new ≡ s

-- the play took actions with this property, and printed all notes
pub record TakesActions (old new : Play) (Is : Trace → Type 0) : Type 0 where
  pub actions : Trace
  pub is : Is actions
  pub moves : Moves old.engine actions new.engine
  pub log : new.log ≡ old.log
  pub prompt : new.peers.wire.failed ≡ false

-- the play took one turn; `stirred` indicates whether a poll of it had an answer other than Waiting
pub record TakesTurn (old new : Play) (stirred : Bool) : Type 0 where
  pub turn : List Happening
  pub is : stirred ≡ any_stirs turn
  pub sees : new.peers.wire.failed ≡ false → (old.peers.wire.failed ≡ false) × Leads PeersSee old.peers.wire.memory.peers.items turn new.peers.wire.memory.peers.items
  pub observes : ForSome new.log.observed (λ text. (before : List ℕ) × (old.log.observed ≡ Some before) × (text ≡ before ++ happenings_text old.log.texts old.log.names turn))
  pub log : new.log ≡ record old.log { observed = new.log.observed }
  pub moves : Moves old.engine (Turned old.moment turn ∷ []) new.engine
  pub moment : new.moment ≡ old.moment
  pub connections : new.peers.connections ≡ old.peers.connections

-- the play took turns, one after another
pub record TakesTurns (old : Play) (turns : List (List Happening)) (new : Play) : Type 0 where
  pub sees : new.peers.wire.failed ≡ false → (old.peers.wire.failed ≡ false) × Leads PeersSee old.peers.wire.memory.peers.items (all_turns turns) new.peers.wire.memory.peers.items
  pub observes : ForSome new.log.observed (λ text. (before : List ℕ) × (old.log.observed ≡ Some before) × (text ≡ before ++ happenings_text old.log.texts old.log.names (all_turns turns)))
  pub log : new.log ≡ record old.log { observed = new.log.observed }
  pub moves : Moves old.engine (map (Turned old.moment) turns) new.engine
  pub moment : new.moment ≡ old.moment
  pub connections : new.peers.connections ≡ old.peers.connections

-- the play took turns up to a quiet one
abbrev pub TakesTillQuiet : Play → Play → Type 0
TakesTillQuiet old new = (turns : List (List Happening)) × AreTillQuiet turns × TakesTurns old turns new

-- the bytes are a line that may come, and its text was appended; or they have a fault, and nothing changed
abbrev pub Acts : Play → List ℕ → List ℕ → Option LineFault → Play → List ℕ → Type 0
Acts old bytes output None new output' =
    (line : Line) × (text : List ℕ) × IsLine old.log.names bytes line × (may_come line (standing old) ≡ true)
    × TakesActions old new (λ actions. Plays old.log.texts old.log.names line (standing old) actions text (standing new)) × (output' ≡ output ++ text)
Acts old bytes output (Some fault) new output' = IsBad old.log.names bytes (standing old) × (output' ≡ output)

-- the text and the status of lines, of which the first has this number, for each trace at which the server was before, with the actions of the lines
pub record PlaysAll (old : Play) (number : ℕ) (lines : List (List ℕ)) (before : List ℕ) (all : ProgramOutput) : Type 0 where
  pub actions : Trace
  pub output : ProgramOutput
  pub new : EngineState
  pub plays : LinesPlay old.log.texts old.log.names number lines (standing old) actions output
  pub moves : Moves old.engine actions new
  pub printed : all ≡ output_after before output

-- the text of a prefix of the lines, where memory was refused
pub record PlaysFirst (old : Play) (number : ℕ) (lines : List (List ℕ)) (before left : List ℕ) : Type 0 where
  pub first : List (List ℕ)
  pub others : List (List ℕ)
  pub cut : lines ≡ first ++ others
  pub plays : PlaysAll old number first before (record { text = left; status = Ends.Done })
