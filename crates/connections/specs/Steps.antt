-- The step for the next item of a peer's stream: for an IPP client an item of HTTP (RFC 9112), for an LPD client an item of RFC 1179, for a device a report.
use Rattle.std.specs.Prelude.{ℕ, ◌≡◌, ◌⊎◌, Bool, true, false, List, [], ◌∷◌, ◌++◌, Option, Some, None}
use Rattle.base_types.specs.declared.report.Report.{Report}
use Rattle.base_types.specs.Report.{ReportRecord, HelloReport, report_of}
use Rattle.http_front.specs.Reply.{continue_head}
use Rattle.http_front.specs.declared.refusal.HttpRejection.TheVariants.{BadRequest}
use Rattle.http_front.specs.declared.item.HttpItem.{HttpItem}
use Rattle.http_front.specs.declared.item.HttpItem.TheVariants as item
use Rattle.lpd.specs.declared.fault.LpdError.{LpdError}
use Rattle.lpd.specs.declared.fault.LpdError.TheVariants as fault
use Rattle.lpd.specs.Items.{ItemRecord, HasCommand, Aborts, Announces, HasFile}
use Rattle.lpd.specs.Session.{SessionState}
use Rattle.events.specs.declared.status.Status.{Status}
use Rattle.ipp_operations.specs.declared.parsed_request.ParsedRequest.{ParsedRequest}
use Rattle.ipp_operations.specs.declared.parsed_request.ParsedRequest.TheVariants as asks
use Rattle.ipp_operations.specs.ParsedRequest.{Asks, request_id_of}
use Rattle.ipp_operations.specs.Reply.{refusal_bytes}
use Rattle.ipp_operations.specs.declared.queue_text.TheConstants.{REFUSED}
use Rattle.connections.specs.Reply.{http_reply, refusal_head}
use Rattle.connections.specs.declared.ask.Ask.TheVariants as ask
use Rattle.connections.specs.declared.ask.Client.TheVariants as client
use Rattle.connections.specs.declared.ask.AllocFailure.TheVariants as growth
use Rattle.connections.specs.declared.ask.Part.TheVariants as part
use Rattle.connections.specs.declared.step.Due.{Due}
use Rattle.connections.specs.declared.step.Due.TheVariants as due
use Rattle.connections.specs.declared.step.Step.{Step}
use Rattle.connections.specs.declared.step.Step.TheVariants as step
use Rattle.connections.specs.Session.{ItemResult, Goes, Stops, Submits, Commands, result_of, file_lost}
use Rattle.connections.specs.Commands.{SubmitsJob, IsCommand}

-- ---- bytes

-- the reply of a status without attributes
unfoldable pub http_status : Bool → Status → ℕ → List ℕ
http_status closes status request = http_reply closes (refusal_bytes status request)

abbrev pub due_bytes : Due → List ℕ
due_bytes due.Nothing = []
due_bytes (due.Byte byte) = byte ∷ []
due_bytes due.Continue = continue_head
due_bytes (due.Refusal refusal) = refusal_head refusal
due_bytes (due.Status closes status request) = http_status closes status request

-- nothing becomes due, and the server isn't asked
abbrev pub silent : Step
silent = step.Due due.Nothing false

-- memory to keep the input is refused
abbrev pub no_memory : Step
no_memory = step.Breaks (ask.Broke growth.Input)

-- ---- an IPP client

-- the step for a parsed request; after a body under 8 bytes, which has no header, the connection drains (RFC 8010, section 3.1.1)
abbrev pub asked_step : Bool → ParsedRequest → Step
asked_step closes asks.TooShort = step.Due (due.Refusal BadRequest) true
asked_step closes (asks.Refused status request) = step.Due (due.Status closes status request) closes
asked_step closes (asks.Event request event) = step.Asks (ask.Event (client.Ipp request) event) closes

-- the step for a whole body: that of its parsed request, or memory to read it is refused
abbrev pub EndsBody : Bool → List ℕ → Step → Type 0
EndsBody closes body what =
    ((asked : ParsedRequest) × Asks body asked × (what ≡ asked_step closes asked))
    ⊎ ((request : ℕ) × (request_id_of body ≡ Some request) × (what ≡ step.Asks (ask.Unread request) closes))

-- the step for an item, where the body so far has these bytes
abbrev pub StepsIpp : HttpItem → Bool → List ℕ → Step → Type 0
StepsIpp (item.Head next) closes body what = what ≡ silent
StepsIpp item.Continue closes body what = what ≡ step.Due due.Continue false
StepsIpp item.BodyPart closes body what = (what ≡ silent) ⊎ (what ≡ no_memory)
StepsIpp item.BodyEnd closes body what = EndsBody closes body what
StepsIpp (item.Refuse refusal) closes body what = what ≡ step.Due (due.Refusal refusal) true

-- whether the connection closes after the reply to the current request
abbrev pub closes_after : HttpItem → Bool → Bool
closes_after (item.Head next) closes = next
closes_after item.Continue closes = closes
closes_after item.BodyPart closes = closes
closes_after item.BodyEnd closes = closes
closes_after (item.Refuse refusal) closes = closes

-- the body after a part: with the part, unless the connection breaks
abbrev pub grown : Step → List ℕ → List ℕ → List ℕ
grown (step.Due due last) part body = body ++ part
grown (step.Asks ask last) part body = body ++ part
grown (step.Breaks ask) part body = body

-- the body so far, after an item
abbrev pub body_after : HttpItem → Step → List ℕ → List ℕ → List ℕ
body_after (item.Head next) what part body = []
body_after item.Continue what part body = body
body_after item.BodyPart what part body = grown what part body
body_after item.BodyEnd what part body = []
body_after (item.Refuse refusal) what part body = body

-- ---- an LPD client

abbrev pub byte_due : Option ℕ → Due
byte_due None = due.Nothing
byte_due (Some byte) = due.Byte byte

-- a fault of the stream is refused, and the connection drains (RFC 1179, section 3)
abbrev pub refused : Step
refused = step.Due (due.Byte REFUSED) true

abbrev pub step_of : LpdError → Step
step_of (fault.Fault it) = refused
step_of fault.OutOfMemory = no_memory

-- the step for an item of LPD, and the session after it; memory for a job may be refused
abbrev pub AsksAs : ItemResult → Step → Option SessionState → Type 0
AsksAs (Goes answer next) (step.Due what last) after = (what ≡ byte_due answer) × (last ≡ false) × (after ≡ next)
AsksAs (Stops answer) (step.Due what last) after = (what ≡ byte_due answer) × (last ≡ true) × (after ≡ None)
AsksAs (Submits job next) (step.Asks (ask.Event client.LpdJob event) last) after = SubmitsJob job event × (last ≡ false) × (after ≡ Some next)
AsksAs (Submits job next) (step.Asks (ask.Lost part.Job) last) after = (last ≡ false) × (after ≡ Some next)
AsksAs (Commands command) (step.Asks (ask.Event client.LpdCommand event) last) after = IsCommand command event × (last ≡ true) × (after ≡ None)
AsksAs _ _ _ = ⊥

-- memory for a file is refused: the file isn't kept
abbrev pub IsFileLost : Option SessionState → Step → Option SessionState → Type 0
IsFileLost before what after = (what ≡ step.Asks (ask.Lost part.File) false) × (after ≡ file_lost before)

abbrev pub AsksForFile : ItemResult → Option SessionState → Step → Option SessionState → Type 0
AsksForFile result before what after = IsFileLost before what after ⊎ AsksAs result what after

-- the step for an item, and the session after it, where is_queue states which queues there are
abbrev pub StepsLpd : (List ℕ → Bool) → Option SessionState → ItemRecord → Step → Option SessionState → Type 0
StepsLpd is_queue before (HasFile contents) what after = AsksForFile (result_of is_queue before (HasFile contents)) before what after
StepsLpd is_queue before (HasCommand command) what after = AsksAs (result_of is_queue before (HasCommand command)) what after
StepsLpd is_queue before Aborts what after = AsksAs (result_of is_queue before Aborts) what after
StepsLpd is_queue before (Announces head) what after = AsksAs (result_of is_queue before (Announces head)) what after

-- ---- a device

-- the step for a name: that of a known device, or of a unknown_device
abbrev pub StepsHello : List ℕ → Option ℕ → Step → Option ℕ → Type 0
StepsHello name None what after = (what ≡ step.Breaks (ask.UnknownDevice name)) × (after ≡ None)
StepsHello name (Some device) what after = (what ≡ step.Asks (ask.Hello device name) false) × (after ≡ Some device)

-- the step for a report, and the device that has given its name after it; the first report is a name, and no later report is
abbrev pub StepsDevice : (List ℕ → Option ℕ) → Option ℕ → ReportRecord → Step → Option ℕ → Type 0
StepsDevice named None (HelloReport name) what after = StepsHello name (named name) what after
StepsDevice named None _ what after = ⊥
StepsDevice named (Some device) parsed what after = ((it : Report) × (report_of it ≡ parsed) × (what ≡ step.Asks (ask.Report device it) false)) × (after ≡ Some device)

-- the step for a fault of a device's stream
abbrev pub faulty : Option ℕ → Step
faulty device = step.Breaks (ask.Fault device)
