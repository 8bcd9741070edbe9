-- The printed text of a trace without connections is that of one run of the core over the events of its lines.
use Rattle.std.specs.Prelude.{ℕ, suc, ◌≡◌, ◌⊎◌, Bool, All, List, [], ◌∷◌, ◌++◌, Some, codes}
use Rattle.std.specs.List.{concat}
use Rattle.std.specs.Fmt.{decimal}
use Rattle.settings_file.specs.Settings.{ServerSettings, device_names}
use Rattle.print_room.specs.Opening.{opening}
use Rattle.print_room.specs.State.{State}
use Rattle.events.specs.declared.event.Event.{Event}
use Rattle.events.specs.declared.event.Event.TheVariants as Is
use Rattle.events.specs.declared.effects.Response.{Response}
use Rattle.events.specs.declared.effects.Response.TheVariants as responds
use Rattle.events.specs.declared.effects.Effects.{Effects}
use Rattle.dispatcher.specs.declared.run.Timed.{Timed}
use Rattle.dispatcher.specs.Notes.{Note}
use Rattle.dispatcher.specs.Run.{Outcome, effects_of, Run}
use Rattle.ipp_operations.specs.declared.parsed_request.ParsedRequest.{ParsedRequest}
use Rattle.ipp_operations.specs.declared.parsed_request.ParsedRequest.TheVariants as Body
use Rattle.ipp_operations.specs.ParsedRequest.{Asks}
use Rattle.ipp_operations.specs.Reply.{IsReply, refusal_bytes}
use Rattle.program.specs.declared.exit_status.ExitStatus.TheVariants as Ends
use Rattle.program.specs.Output.{ProgramOutput, refused_as, output_after}
use Rattle.traces.specs.declared.line.Line.{Line}
use Rattle.traces.specs.declared.line.Line.TheVariants as Form
use Rattle.traces.specs.TraceLine.{IsLine}
use Rattle.server.specs.Law.{IsWhole}
use Rattle.traces.specs.Printed.{reply_line}
use Rattle.replay.specs.Log.{note_text}

-- ---- lines without connections

abbrev pub IsOfNoConnection : Line → Type 0
IsOfNoConnection (Form.At moment) = Unit {0}
IsOfNoConnection (Form.Ipp body) = Unit {0}
IsOfNoConnection (Form.Device device report) = Unit {0}
IsOfNoConnection Form.Tick = Unit {0}
IsOfNoConnection (Form.Open connection) = ⊥
IsOfNoConnection (Form.In input) = ⊥
IsOfNoConnection (Form.End number) = ⊥

-- no line opens a connection, or has a connection's bytes or its end
abbrev pub SpeaksOfNoConnection : List (List ℕ) → List (List ℕ) → Type 0
SpeaksOfNoConnection names lines = All (λ bytes. (line : Line) → IsLine names bytes line → IsOfNoConnection line) lines

-- ---- a run and its printed text

-- an observer that stores the text of each note
abbrev pub PrintsEach : Bool → List (List ℕ) → List (List ℕ) → Note → List (List ℕ) → Type 0
PrintsEach texts names before note after = after ≡ before ++ note_text texts names note ∷ []

-- a part of a run: its events, the outcome of each, and the text of each note
pub record Part : Type 0 where
  pub events : List Timed
  pub outcomes : List Outcome
  pub observed : List (List ℕ)

abbrev pub nothing : Part
nothing = record { events = []; outcomes = []; observed = [] }

-- two parts, one after the other
abbrev pub then_part : Part → Part → Part
then_part first later = record { events = first.events ++ later.events; outcomes = first.outcomes ++ later.outcomes; observed = first.observed ++ later.observed }

-- the part of one event with this reply, where no memory was refused
pub record IsOne (event : Event) (moment : ℕ) (reply : Effects) (part : Part) : Type 0 where
  pub outcome : Outcome
  pub observed : List (List ℕ)
  pub answered : effects_of outcome ≡ Some reply
  pub whole : IsWhole outcome
  pub is : part ≡ record { events = record { event = event; moment = moment } ∷ []; outcomes = outcome ∷ []; observed = observed }

-- ---- the event of a line

-- the bytes of the reply to the request with this id
abbrev pub IsReplyOf : Response → ℕ → List ℕ → Type 0
IsReplyOf (responds.Ipp answer) request_id bytes = IsReply answer request_id bytes
IsReplyOf (responds.Lpd answer) request_id bytes = ⊥
IsReplyOf responds.Nothing request_id bytes = ⊥

-- the part of a run for a body, and the printed text of its reply
abbrev pub BodyMeans : ParsedRequest → ℕ → Part → List ℕ → Type 0
BodyMeans Body.TooShort moment part text = (part ≡ nothing) × (text ≡ codes "http 400\n")
BodyMeans (Body.Refused status request_id) moment part text = (part ≡ nothing) × (text ≡ reply_line (refusal_bytes status request_id))
BodyMeans (Body.Event request_id event) moment part text =
    (reply : Effects) × (bytes : List ℕ) × IsOne event moment reply part × IsReplyOf reply.response request_id bytes × (text ≡ reply_line bytes)

-- the part of a run for a line at the current moment of the trace, and the printed text of its reply
abbrev pub Means : Line → ℕ → Part → List ℕ → Type 0
Means (Form.At later) moment part text = (part ≡ nothing) × (text ≡ [])
Means (Form.Ipp body) moment part text = (asked : ParsedRequest) × Asks body.items asked × BodyMeans asked moment part text
Means (Form.Device device report) moment part text = (reply : Effects) × IsOne (Is.Report device report) moment reply part × (text ≡ [])
Means Form.Tick moment part text = (reply : Effects) × IsOne Is.Tick moment reply part × (text ≡ [])
Means (Form.Open connection) moment part text = ⊥
Means (Form.In input) moment part text = ⊥
Means (Form.End number) moment part text = ⊥

-- the current moment of the trace after a line
abbrev pub moment_after : Line → ℕ → ℕ
moment_after (Form.At later) moment = later
moment_after _ moment = moment

-- ---- all lines

-- the bytes aren't a line of a trace
abbrev pub IsNoLine : List (List ℕ) → List ℕ → Type 0
IsNoLine names bytes = (line : Line) → ¬ (IsLine names bytes line)

-- The part of a run for the lines, in order, up to the first bytes that aren't a line; and the text: for each line the text of its reply, and then that of the notes of its event.
abbrev pub LinesMean : List (List ℕ) → ℕ → List (List ℕ) → ℕ → Part → ProgramOutput → Type 0
LinesMean names number [] moment all output = (all ≡ nothing) × (output ≡ record { text = []; status = Ends.Done })
LinesMean names number (bytes ∷ more) moment all output =
    (IsNoLine names bytes × (all ≡ nothing) × (output ≡ refused_as (codes "line " ++ decimal number)))
    ⊎ ((line : Line) × (part : Part) × (text : List ℕ) × (later : Part) × (rest : ProgramOutput)
    × IsLine names bytes line × Means line moment part text × LinesMean names (suc number) more (moment_after line moment) later rest
    × (all ≡ then_part part later) × (output ≡ output_after (text ++ concat part.observed) rest))

-- one run of the core over the events of the lines, from the start of a server with these settings, and its text
pub record IsOneRun (texts : Bool) (settings : ServerSettings) (number : ℕ) (lines : List (List ℕ)) (output : ProgramOutput) : Type 0 where
  pub part : Part
  pub new : State
  pub run : Run (PrintsEach texts (device_names settings)) (opening settings 1) [] part.events part.outcomes new part.observed
  pub printed : LinesMean (device_names settings) number lines 0 part output
