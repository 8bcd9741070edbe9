-- The actions of a server for the lines of a trace, and the printed text of each line.
use Rattle.std.specs.Prelude.{ℕ, suc, ◌≡◌, ◌⊎◌, ◌<◌, Bool, true, false, All, List, [], ◌∷◌, ◌++◌, length, map, codes}
use Rattle.std.specs.Fmt.{decimal}
use Rattle.base_types.specs.Report.{report_of}
use Rattle.wires.specs.MemoryPeer.{PeerState}
use Rattle.server.specs.Polls.{Happening, Leads}
use Rattle.server.specs.Turn.{Action, Turned, Served_body, Reported, Ticked, Trace, Outcome, Replied, BadRequest, OutOfMemory, has_refusal}
use Rattle.wires.specs.declared.wire.Door.{Door}
use Rattle.program.specs.declared.exit_status.ExitStatus.TheVariants as Ends
use Rattle.program.specs.Output.{ProgramOutput, refused_as, output_after}
use Rattle.traces.specs.declared.peers.Connection.{Connection}
use Rattle.traces.specs.declared.line.Line.{Line}
use Rattle.traces.specs.declared.line.Line.TheVariants as Form
use Rattle.traces.specs.Connections.{new_peer, sending, ending, connections_text, seen, emptied}
use Rattle.traces.specs.Peers as Peers
use Rattle.replay.specs.Log.{happenings_text}
use Rattle.traces.specs.Printed.{reply_line}
use Rattle.traces.specs.TraceLine.{IsLine}
use Rattle.replay.specs.Peers.{PeersSee, any_stirs, all_turns}

-- the progress of a trace: its current moment, its connections by their numbers, and their peers
pub record Standing : Type 0 where
  pub moment : ℕ
  pub connections : List Connection
  pub peers : List PeerState

-- ---- lines without a connection

-- a call between turns in which no memory is refused, and the text of its notes
pub record Calls (texts : Bool) (names : List (List ℕ)) (action : List Happening → Action) (actions : Trace) (text : List ℕ) : Type 0 where
  pub happenings : List Happening
  pub unrefused : has_refusal happenings ≡ false
  pub does : actions ≡ action happenings ∷ []
  pub printed : text ≡ happenings_text texts names happenings

-- the line of a reply
abbrev pub IsReplyLine : Outcome → List ℕ → Type 0
IsReplyLine (Replied bytes) line = line ≡ reply_line bytes
IsReplyLine BadRequest line = line ≡ codes "http 400\n"
IsReplyLine OutOfMemory line = ⊥

-- a body is served: the text is the line of its reply, and the text of the notes
pub record Serves (texts : Bool) (names : List (List ℕ)) (moment : ℕ) (body : List ℕ) (actions : Trace) (text : List ℕ) : Type 0 where
  pub answer : Outcome
  pub line : List ℕ
  pub happenings : List Happening
  pub replies : IsReplyLine answer line
  pub does : actions ≡ Served_body moment body answer happenings ∷ []
  pub printed : text ≡ line ++ happenings_text texts names happenings

-- ---- lines of a connection

abbrev pub most_turns : ℕ
most_turns = 16777216

-- at most `most_turns` turns, of which each but the last has a poll with an answer other than Waiting
pub record AreTillQuiet (turns : List (List Happening)) : Type 0 where
  pub busy : List (List Happening)
  pub each : All (λ turn. any_stirs turn ≡ true) busy
  pub ends :
      ((quiet : List Happening) × (any_stirs quiet ≡ false) × (length busy < most_turns) × (turns ≡ busy ++ quiet ∷ []))
      ⊎ ((length busy ≡ most_turns) × (turns ≡ busy))

-- turns up to a quiet one; the text is that of the notes, and then that of the connections
pub record Turns (texts : Bool) (names : List (List ℕ)) (old : Standing) (actions : Trace) (text : List ℕ) (new : Standing) : Type 0 where
  pub turns : List (List Happening)
  pub till : AreTillQuiet turns
  pub peers : List PeerState
  pub sees : Leads PeersSee old.peers (all_turns turns) peers
  pub does : actions ≡ map (Turned old.moment) turns
  pub printed : text ≡ happenings_text texts names (all_turns turns) ++ connections_text peers old.connections
  pub after : new ≡ record old { connections = map (seen peers) old.connections; peers = map emptied peers }

-- a connection is opened at a door
abbrev pub opened : ℕ → Door → Standing → Standing
opened number door s = record s { connections = Peers.opened number s.connections s.peers; peers = s.peers ++ new_peer door ∷ [] }

-- the peer of the connection of a number changes
abbrev pub on_peer : ℕ → (PeerState → PeerState) → Standing → Standing
on_peer number change s = record s { peers = Peers.on_peer number change s.connections s.peers }

-- ---- a line

-- the actions of a line, and its printed text
abbrev pub Plays : Bool → List (List ℕ) → Line → Standing → Trace → List ℕ → Standing → Type 0
Plays texts names (Form.At moment) old actions text new = (actions ≡ []) × (text ≡ []) × (new ≡ record old { moment = moment })
Plays texts names (Form.Ipp body) old actions text new = Serves texts names old.moment body.items actions text × (new ≡ old)
Plays texts names (Form.Device device report) old actions text new = Calls texts names (Reported old.moment device (report_of report)) actions text × (new ≡ old)
Plays texts names Form.Tick old actions text new = Calls texts names (Ticked old.moment) actions text × (new ≡ old)
Plays texts names (Form.Open opening) old actions text new = Turns texts names (opened opening.number opening.door old) actions text new
Plays texts names (Form.In input) old actions text new = Turns texts names (on_peer input.number (sending input.bytes.items) old) actions text new
Plays texts names (Form.End number) old actions text new = Turns texts names (on_peer number ending old) actions text new

abbrev pub may_come : Line → Standing → Bool
may_come line s = Peers.may_come line s.connections s.peers

-- ---- all lines

-- the bytes aren't a line of a trace, or are one that may not come now
abbrev pub IsBad : List (List ℕ) → List ℕ → Standing → Type 0
IsBad names bytes s = ((line : Line) → IsLine names bytes line → ⊥) ⊎ ((line : Line) × IsLine names bytes line × (may_come line s ≡ false))

-- the actions and the text of the lines, in order, of which the first has this number, up to a bad one
abbrev pub LinesPlay : Bool → List (List ℕ) → ℕ → List (List ℕ) → Standing → Trace → ProgramOutput → Type 0
LinesPlay texts names number [] old actions output = (actions ≡ []) × (output ≡ record { text = []; status = Ends.Done })
LinesPlay texts names number (bytes ∷ more) old actions output =
    (IsBad names bytes old × (actions ≡ []) × (output ≡ refused_as (codes "line " ++ decimal number)))
    ⊎ ((line : Line) × (here : Trace) × (text : List ℕ) × (new : Standing) × (there : Trace) × (rest : ProgramOutput)
    × IsLine names bytes line × (may_come line old ≡ true) × Plays texts names line old here text new × LinesPlay texts names (suc number) more new there rest
    × (actions ≡ here ++ there) × (output ≡ output_after text rest))
