-- A client's event has an answer of its kind: requests of IPP have answers of IPP, jobs and commands of LPD have answers of LPD.
use Rattle.std.proofs.Common.{◌≡◌, ℕ, Bool, true, false, List, [], ◌∷◌, sym, subst, Option, Some, None, Result, Ok, Err, inl, inr}
use Rattle.std.specs.Prelude.{if◌then◌else◌, not, drop, MatchOption, MatchResult}
use Rattle.std.specs.Option.{option_map_or}
use Rattle.ipp_codec.specs.Message.{IppAttribute, IppGroup}
use Rattle.printer_objects.specs.declared.operation.Operation.{Operation}
use Rattle.printer_objects.specs.declared.operation.Operation.TheVariants as operation
use Rattle.print_room.specs.State.{State}
use Rattle.lpd.specs.Items.{CommandRecord, PrintsWaiting, ReceivesJob, ListsShort, ListsLong, RemovesJobs}
use Rattle.lpd.specs.Session.{SentRecord}
use Rattle.events.specs.declared.event.Event.{Event}
use Rattle.events.specs.declared.event.Event.TheVariants as Is
use Rattle.events.specs.declared.effects.Response.{Response}
use Rattle.events.specs.declared.effects.Response.TheVariants as responds
use Rattle.events.specs.declared.effects.LpdResponse.TheVariants as Shown
use Rattle.events.specs.declared.effects.Effects.{Effects}
use Rattle.events.specs.declared.status.Status.{Status}
use Rattle.events.specs.Effects.{IsResponse}
use Rattle.events.specs.declared.event.HoldUntil.{HoldUntil}
use Rattle.events.specs.declared.event.HoldUntil.TheVariants as hold
use Rattle.events.specs.declared.event.JobRequest.{JobRequest}
use Rattle.events.specs.declared.queue.ListQueue.{ListQueue}
use Rattle.job_objects.specs.declared.job_change.JobChange.TheVariants.{Hold, Release}
use Rattle.listings.specs.Groups.{printer_group, job_group, job_groups}
use Rattle.dispatcher.specs.Answers.{Refuses, Shows}
use Rattle.dispatcher.specs.PrintJob.{TakesJob}
use Rattle.dispatcher.specs.ValidateJob.{Validates}
use Rattle.dispatcher.specs.CreateJob.{CreatesIt}
use Rattle.dispatcher.specs.SendDocument.{SendsIt}
use Rattle.dispatcher.specs.CancelJob.{CancelsIt}
use Rattle.dispatcher.specs.HoldJob.{HoldsUntil, ChangesIt}
use Rattle.dispatcher.specs.PausePrinter.{PausesIt}
use Rattle.dispatcher.specs.SubmitFiles.{FilesJob, FilesNothing}
use Rattle.dispatcher.specs.ListQueue.{IsListed, ListsIt, ListsNothing}
use Rattle.dispatcher.specs.Notes.{Note}
use Rattle.dispatcher.specs.Run.{Outcome, effects_of, Handles}
use Rattle.dispatcher.specs.Step.{StepAt}
use Rattle.ipp_operations.specs.declared.parsed_request.ParsedRequest.TheVariants as asked
use Rattle.ipp_operations.specs.ParsedRequest.{header_of, operation_of, Requests, AsksBy, AsksUnder, Asks}
use Rattle.events.specs.declared.status.Status.TheVariants as status
use Rattle.ipp_operations.specs.Request.{operation_group, job_attributes, is_utf8}
use Rattle.ipp_operations.specs.Event.{is_complete, are_tagged, event_of_group, checked_event}
use Rattle.connections.specs.declared.ask.Client.{Client}
use Rattle.connections.specs.declared.ask.Client.TheVariants as client
use Rattle.connections.specs.Commands.{SubmitsJob, IsCommand}

-- ---- whose event it is

abbrev pub IsIppEvent : Event → Type 0
IsIppEvent (Is.PrintJob request) = Unit {0}
IsIppEvent (Is.ValidateJob request) = Unit {0}
IsIppEvent (Is.CreateJob request) = Unit {0}
IsIppEvent (Is.SendDocument request) = Unit {0}
IsIppEvent (Is.CancelJob request) = Unit {0}
IsIppEvent (Is.GetJobAttributes request) = Unit {0}
IsIppEvent (Is.GetJobs request) = Unit {0}
IsIppEvent (Is.GetPrinterAttributes request) = Unit {0}
IsIppEvent (Is.HoldJob request) = Unit {0}
IsIppEvent (Is.ReleaseJob request) = Unit {0}
IsIppEvent (Is.PausePrinter request) = Unit {0}
IsIppEvent (Is.ResumePrinter request) = Unit {0}
IsIppEvent (Is.SubmitFiles request) = ⊥
IsIppEvent (Is.ListQueue request) = ⊥
IsIppEvent (Is.RemoveJobs request) = ⊥
IsIppEvent (Is.Report device report) = ⊥
IsIppEvent Is.Tick = ⊥

abbrev pub IsJobEvent : Event → Type 0
IsJobEvent (Is.PrintJob request) = ⊥
IsJobEvent (Is.ValidateJob request) = ⊥
IsJobEvent (Is.CreateJob request) = ⊥
IsJobEvent (Is.SendDocument request) = ⊥
IsJobEvent (Is.CancelJob request) = ⊥
IsJobEvent (Is.GetJobAttributes request) = ⊥
IsJobEvent (Is.GetJobs request) = ⊥
IsJobEvent (Is.GetPrinterAttributes request) = ⊥
IsJobEvent (Is.HoldJob request) = ⊥
IsJobEvent (Is.ReleaseJob request) = ⊥
IsJobEvent (Is.PausePrinter request) = ⊥
IsJobEvent (Is.ResumePrinter request) = ⊥
IsJobEvent (Is.SubmitFiles request) = Unit {0}
IsJobEvent (Is.ListQueue request) = ⊥
IsJobEvent (Is.RemoveJobs request) = ⊥
IsJobEvent (Is.Report device report) = ⊥
IsJobEvent Is.Tick = ⊥

abbrev pub IsQueueEvent : Event → Type 0
IsQueueEvent (Is.PrintJob request) = ⊥
IsQueueEvent (Is.ValidateJob request) = ⊥
IsQueueEvent (Is.CreateJob request) = ⊥
IsQueueEvent (Is.SendDocument request) = ⊥
IsQueueEvent (Is.CancelJob request) = ⊥
IsQueueEvent (Is.GetJobAttributes request) = ⊥
IsQueueEvent (Is.GetJobs request) = ⊥
IsQueueEvent (Is.GetPrinterAttributes request) = ⊥
IsQueueEvent (Is.HoldJob request) = ⊥
IsQueueEvent (Is.ReleaseJob request) = ⊥
IsQueueEvent (Is.PausePrinter request) = ⊥
IsQueueEvent (Is.ResumePrinter request) = ⊥
IsQueueEvent (Is.SubmitFiles request) = ⊥
IsQueueEvent (Is.ListQueue request) = Unit {0}
IsQueueEvent (Is.RemoveJobs request) = Unit {0}
IsQueueEvent (Is.Report device report) = ⊥
IsQueueEvent Is.Tick = ⊥

abbrev pub EventOf : Client → Event → Type 0
EventOf (client.Ipp request) event = IsIppEvent event
EventOf client.LpdJob event = IsJobEvent event
EventOf client.LpdCommand event = IsQueueEvent event

-- ---- a whole body asks an event of IPP

ipp_event_in : (asked : Operation) (group : IppGroup) (template : List IppAttribute) (document : List ℕ) → IsIppEvent (event_of_group asked group template document)
ipp_event_in operation.PrintJob group template document = tt
ipp_event_in operation.ValidateJob group template document = tt
ipp_event_in operation.CreateJob group template document = tt
ipp_event_in operation.SendDocument group template document = tt
ipp_event_in operation.CancelJob group template document = tt
ipp_event_in operation.GetJobAttributes group template document = tt
ipp_event_in operation.GetJobs group template document = tt
ipp_event_in operation.GetPrinterAttributes group template document = tt
ipp_event_in operation.HoldJob group template document = tt
ipp_event_in operation.ReleaseJob group template document = tt
ipp_event_in operation.PausePrinter group template document = tt
ipp_event_in operation.ResumePrinter group template document = tt

if_ok : (t : Bool) (status : Status) (r : Result Event Status) (event : Event) → (if t then Err status else r) ≡ Ok event → r ≡ Ok event
if_ok true status r event is = cc
if_ok false status r event is = is

one_event : (event other : Event) → ◌≡◌ {A = Result Event Status} (Ok event) (Ok other) → event ≡ other
one_event event other same = cc

asked_event : (o : Operation) (group : IppGroup) (template : List IppAttribute) (document : List ℕ) (event : Event) → checked_event o group template document ≡ Ok event → IsIppEvent event
asked_event o group template document event is = subst IsIppEvent (one_event found event complete) (ipp_event_in o group template document)
  where
    found : Event
    found = event_of_group o group template document

    last : Result Event Status
    last = Ok found

    tagged : Result Event Status
    tagged = if not (is_complete o group) then Err status.BadRequest else Ok found

    worded : Result Event Status
    worded = if not (are_tagged o group) then Err status.BadRequest else if not (is_complete o group) then Err status.BadRequest else Ok found

    complete : ◌≡◌ {A = Result Event Status} (Ok found) (Ok event)
    complete = if_ok (not (is_complete o group)) status.BadRequest last event (if_ok (not (are_tagged o group)) status.BadRequest tagged event (if_ok (not (is_utf8 group)) status.CharsetNotSupported worded event is))

group_event : (o : Operation) (document : List ℕ) (template : List IppAttribute) (found : Option IppGroup) (event : Event) → option_map_or (λ group. checked_event o group template document) found (Err status.BadRequest) ≡ Ok event → IsIppEvent event
group_event o document template None event is = cc
group_event o document template (Some group) event is = asked_event o group template document event is

requested : (o : Operation) (body : List ℕ) (event : Event) → Requests o body (Ok event) → IsIppEvent event
requested o body event (inl it) = cc
requested o body event (inr (n, message, within, spells, is)) = group_event o (drop n body) (job_attributes message) (operation_group message) event (sym is)

same_asked : (request other : ℕ) (event given : Event) → asked.Event request event ≡ asked.Event other given → event ≡ given
same_asked request other event given same = cc

by_operation : (o : Operation) (id request : ℕ) (body : List ℕ) (event : Event) → AsksBy o id body (asked.Event request event) → IsIppEvent event
by_operation o id request body event (Ok given, requests, same) = subst IsIppEvent (sym (same_asked request id event given same)) (requested o body given requests)
by_operation o id request body event (Err status, requests, same) = cc

under : (r : Result Operation Status) (id request : ℕ) (body : List ℕ) (event : Event) → MatchResult r (λ o. AsksBy o id body (asked.Event request event)) (λ status. asked.Event request event ≡ asked.Refused status id) → IsIppEvent event
under (Ok o) id request body event it = by_operation o id request body event it
under (Err status) id request body event it = cc

pub asks_ipp : (body : List ℕ) (request : ℕ) (event : Event) → Asks body (asked.Event request event) → IsIppEvent event
asks_ipp body request event it = by (header_of body) it
  where
    by : (o : Option _) → MatchOption o (asked.Event request event ≡ asked.TooShort) (λ header. AsksUnder header body (asked.Event request event)) → IsIppEvent event
    by None is = cc
    by (Some header) is = under (operation_of header) header.request_id request body event is

-- ---- an LPD client's job and command

pub submits_job : (job : SentRecord) (event : Event) → SubmitsJob job event → IsJobEvent event
submits_job job (Is.PrintJob request) is = absurd is
submits_job job (Is.ValidateJob request) is = absurd is
submits_job job (Is.CreateJob request) is = absurd is
submits_job job (Is.SendDocument request) is = absurd is
submits_job job (Is.CancelJob request) is = absurd is
submits_job job (Is.GetJobAttributes request) is = absurd is
submits_job job (Is.GetJobs request) is = absurd is
submits_job job (Is.GetPrinterAttributes request) is = absurd is
submits_job job (Is.HoldJob request) is = absurd is
submits_job job (Is.ReleaseJob request) is = absurd is
submits_job job (Is.PausePrinter request) is = absurd is
submits_job job (Is.ResumePrinter request) is = absurd is
submits_job job (Is.SubmitFiles request) is = tt
submits_job job (Is.ListQueue request) is = absurd is
submits_job job (Is.RemoveJobs request) is = absurd is
submits_job job (Is.Report device report) is = absurd is
submits_job job Is.Tick is = absurd is

pub commands : (command : CommandRecord) (event : Event) → IsCommand command event → IsQueueEvent event
commands (PrintsWaiting queue) (Is.PrintJob request) is = absurd is
commands (PrintsWaiting queue) (Is.ValidateJob request) is = absurd is
commands (PrintsWaiting queue) (Is.CreateJob request) is = absurd is
commands (PrintsWaiting queue) (Is.SendDocument request) is = absurd is
commands (PrintsWaiting queue) (Is.CancelJob request) is = absurd is
commands (PrintsWaiting queue) (Is.GetJobAttributes request) is = absurd is
commands (PrintsWaiting queue) (Is.GetJobs request) is = absurd is
commands (PrintsWaiting queue) (Is.GetPrinterAttributes request) is = absurd is
commands (PrintsWaiting queue) (Is.HoldJob request) is = absurd is
commands (PrintsWaiting queue) (Is.ReleaseJob request) is = absurd is
commands (PrintsWaiting queue) (Is.PausePrinter request) is = absurd is
commands (PrintsWaiting queue) (Is.ResumePrinter request) is = absurd is
commands (PrintsWaiting queue) (Is.SubmitFiles request) is = absurd is
commands (PrintsWaiting queue) (Is.ListQueue request) is = absurd is
commands (PrintsWaiting queue) (Is.RemoveJobs request) is = absurd is
commands (PrintsWaiting queue) (Is.Report device report) is = absurd is
commands (PrintsWaiting queue) Is.Tick is = absurd is
commands (ReceivesJob queue) (Is.PrintJob request) is = absurd is
commands (ReceivesJob queue) (Is.ValidateJob request) is = absurd is
commands (ReceivesJob queue) (Is.CreateJob request) is = absurd is
commands (ReceivesJob queue) (Is.SendDocument request) is = absurd is
commands (ReceivesJob queue) (Is.CancelJob request) is = absurd is
commands (ReceivesJob queue) (Is.GetJobAttributes request) is = absurd is
commands (ReceivesJob queue) (Is.GetJobs request) is = absurd is
commands (ReceivesJob queue) (Is.GetPrinterAttributes request) is = absurd is
commands (ReceivesJob queue) (Is.HoldJob request) is = absurd is
commands (ReceivesJob queue) (Is.ReleaseJob request) is = absurd is
commands (ReceivesJob queue) (Is.PausePrinter request) is = absurd is
commands (ReceivesJob queue) (Is.ResumePrinter request) is = absurd is
commands (ReceivesJob queue) (Is.SubmitFiles request) is = absurd is
commands (ReceivesJob queue) (Is.ListQueue request) is = absurd is
commands (ReceivesJob queue) (Is.RemoveJobs request) is = absurd is
commands (ReceivesJob queue) (Is.Report device report) is = absurd is
commands (ReceivesJob queue) Is.Tick is = absurd is
commands (ListsShort queue operands) (Is.PrintJob request) is = absurd is
commands (ListsShort queue operands) (Is.ValidateJob request) is = absurd is
commands (ListsShort queue operands) (Is.CreateJob request) is = absurd is
commands (ListsShort queue operands) (Is.SendDocument request) is = absurd is
commands (ListsShort queue operands) (Is.CancelJob request) is = absurd is
commands (ListsShort queue operands) (Is.GetJobAttributes request) is = absurd is
commands (ListsShort queue operands) (Is.GetJobs request) is = absurd is
commands (ListsShort queue operands) (Is.GetPrinterAttributes request) is = absurd is
commands (ListsShort queue operands) (Is.HoldJob request) is = absurd is
commands (ListsShort queue operands) (Is.ReleaseJob request) is = absurd is
commands (ListsShort queue operands) (Is.PausePrinter request) is = absurd is
commands (ListsShort queue operands) (Is.ResumePrinter request) is = absurd is
commands (ListsShort queue operands) (Is.SubmitFiles request) is = absurd is
commands (ListsShort queue operands) (Is.ListQueue request) is = tt
commands (ListsShort queue operands) (Is.RemoveJobs request) is = absurd is
commands (ListsShort queue operands) (Is.Report device report) is = absurd is
commands (ListsShort queue operands) Is.Tick is = absurd is
commands (ListsLong queue operands) (Is.PrintJob request) is = absurd is
commands (ListsLong queue operands) (Is.ValidateJob request) is = absurd is
commands (ListsLong queue operands) (Is.CreateJob request) is = absurd is
commands (ListsLong queue operands) (Is.SendDocument request) is = absurd is
commands (ListsLong queue operands) (Is.CancelJob request) is = absurd is
commands (ListsLong queue operands) (Is.GetJobAttributes request) is = absurd is
commands (ListsLong queue operands) (Is.GetJobs request) is = absurd is
commands (ListsLong queue operands) (Is.GetPrinterAttributes request) is = absurd is
commands (ListsLong queue operands) (Is.HoldJob request) is = absurd is
commands (ListsLong queue operands) (Is.ReleaseJob request) is = absurd is
commands (ListsLong queue operands) (Is.PausePrinter request) is = absurd is
commands (ListsLong queue operands) (Is.ResumePrinter request) is = absurd is
commands (ListsLong queue operands) (Is.SubmitFiles request) is = absurd is
commands (ListsLong queue operands) (Is.ListQueue request) is = tt
commands (ListsLong queue operands) (Is.RemoveJobs request) is = absurd is
commands (ListsLong queue operands) (Is.Report device report) is = absurd is
commands (ListsLong queue operands) Is.Tick is = absurd is
commands (RemovesJobs queue agent operands) (Is.PrintJob request) is = absurd is
commands (RemovesJobs queue agent operands) (Is.ValidateJob request) is = absurd is
commands (RemovesJobs queue agent operands) (Is.CreateJob request) is = absurd is
commands (RemovesJobs queue agent operands) (Is.SendDocument request) is = absurd is
commands (RemovesJobs queue agent operands) (Is.CancelJob request) is = absurd is
commands (RemovesJobs queue agent operands) (Is.GetJobAttributes request) is = absurd is
commands (RemovesJobs queue agent operands) (Is.GetJobs request) is = absurd is
commands (RemovesJobs queue agent operands) (Is.GetPrinterAttributes request) is = absurd is
commands (RemovesJobs queue agent operands) (Is.HoldJob request) is = absurd is
commands (RemovesJobs queue agent operands) (Is.ReleaseJob request) is = absurd is
commands (RemovesJobs queue agent operands) (Is.PausePrinter request) is = absurd is
commands (RemovesJobs queue agent operands) (Is.ResumePrinter request) is = absurd is
commands (RemovesJobs queue agent operands) (Is.SubmitFiles request) is = absurd is
commands (RemovesJobs queue agent operands) (Is.ListQueue request) is = absurd is
commands (RemovesJobs queue agent operands) (Is.RemoveJobs request) is = tt
commands (RemovesJobs queue agent operands) (Is.Report device report) is = absurd is
commands (RemovesJobs queue agent operands) Is.Tick is = absurd is

-- ---- how it is answered

abbrev pub IsTyped : Client → Response → Type 0
IsTyped (client.Ipp request) (responds.Ipp answer) = Unit {0}
IsTyped (client.Ipp request) (responds.Lpd answer) = ⊥
IsTyped (client.Ipp request) responds.Nothing = ⊥
IsTyped client.LpdJob (responds.Ipp answer) = ⊥
IsTyped client.LpdJob (responds.Lpd (Shown.Taken taken)) = Unit {0}
IsTyped client.LpdJob (responds.Lpd (Shown.Queue listing)) = ⊥
IsTyped client.LpdJob (responds.Lpd Shown.NoQueue) = ⊥
IsTyped client.LpdJob responds.Nothing = ⊥
IsTyped client.LpdCommand (responds.Ipp answer) = ⊥
IsTyped client.LpdCommand (responds.Lpd (Shown.Taken taken)) = ⊥
IsTyped client.LpdCommand (responds.Lpd (Shown.Queue listing)) = Unit {0}
IsTyped client.LpdCommand (responds.Lpd Shown.NoQueue) = Unit {0}
IsTyped client.LpdCommand responds.Nothing = Unit {0}

ipp_answer : (id : ℕ) (status : Status) (unsupported : List IppAttribute) (groups : List IppGroup) (answer : Response) → IsResponse status unsupported groups answer → IsTyped (client.Ipp id) answer
ipp_answer id status unsupported groups (responds.Ipp answer) is = tt
ipp_answer id status unsupported groups (responds.Lpd answer) is = absurd is
ipp_answer id status unsupported groups responds.Nothing is = absurd is

-- by either of two
result_by : {A B : Type 0} {P : Type 0} (r : Result A B) (Q : A → Type 0) (R : B → Type 0) → ((a : A) → Q a → P) → ((b : B) → R b → P) → MatchResult r Q R → P
result_by (Ok a) Q R q r it = q a it
result_by (Err b) Q R q r it = r b it

option_by : {A : Type 0} {P : Type 0} (o : Option A) (N : Type 0) (Q : A → Type 0) → (N → P) → ((a : A) → Q a → P) → MatchOption o N Q → P
option_by None N Q n q it = n it
option_by (Some a) N Q n q it = q a it

lpd_taken : (taken : Bool) (answer : Response) → answer ≡ responds.Lpd (Shown.Taken taken) → IsTyped client.LpdJob answer
lpd_taken taken answer is = subst (λ (a : Response). IsTyped client.LpdJob a) (sym is) tt

lpd_none : (answer : Response) → answer ≡ responds.Lpd Shown.NoQueue → IsTyped client.LpdCommand answer
lpd_none answer is = subst (λ (a : Response). IsTyped client.LpdCommand a) (sym is) tt

lpd_nothing : (answer : Response) → answer ≡ responds.Nothing → IsTyped client.LpdCommand answer
lpd_nothing answer is = subst (λ (a : Response). IsTyped client.LpdCommand a) (sym is) tt

lpd_listed : (now place : ℕ) (request : ListQueue) (state : State) (answer : Response) → IsListed now place request state answer → IsTyped client.LpdCommand answer
lpd_listed now place request state (responds.Ipp answer) is = absurd is
lpd_listed now place request state (responds.Lpd (Shown.Taken taken)) is = absurd is
lpd_listed now place request state (responds.Lpd (Shown.Queue listing)) is = tt
lpd_listed now place request state (responds.Lpd Shown.NoQueue) is = absurd is
lpd_listed now place request state responds.Nothing is = absurd is

held : (id now : ℕ) (until : HoldUntil) (request : JobRequest) (old : State) (reply : Effects) (new : State) → HoldsUntil now request until old reply new → IsTyped (client.Ipp id) reply.response
held id now hold.NoHold request old reply new it = result_by _ _ _ (λ a (done : ChangesIt now old Release [] a reply new). ipp_answer id _ _ _ reply.response done.replies.response) (λ b (refused : Refuses now old b reply new). ipp_answer id _ _ _ reply.response refused.replies.response) it
held id now hold.Indefinite request old reply new it = result_by _ _ _ (λ a (done : ChangesIt now old Hold [] a reply new). ipp_answer id _ _ _ reply.response done.replies.response) (λ b (refused : Refuses now old b reply new). ipp_answer id _ _ _ reply.response refused.replies.response) it
held id now (hold.Unsupported attribute) request old reply new it = result_by _ _ _ (λ a (done : ChangesIt now old Hold attribute a reply new). ipp_answer id _ _ _ reply.response done.replies.response) (λ b (refused : Refuses now old b reply new). ipp_answer id _ _ _ reply.response refused.replies.response) it

ipp_step : (id : ℕ) (event : Event) (now : ℕ) (old : State) (reply : Effects) (new : State) → IsIppEvent event → StepAt event now old reply new → IsTyped (client.Ipp id) reply.response
ipp_step id (Is.PrintJob request) now old reply new of it = result_by _ _ _ (λ a (done : TakesJob now old a reply new). ipp_answer id _ _ _ reply.response done.replies.response) (λ b (refused : Refuses now old b reply new). ipp_answer id _ _ _ reply.response refused.replies.response) it
ipp_step id (Is.ValidateJob request) now old reply new of it = result_by _ _ _ (λ a (done : Validates now old a reply new). ipp_answer id _ _ _ reply.response done.replies.response) (λ b (refused : Refuses now old b reply new). ipp_answer id _ _ _ reply.response refused.replies.response) it
ipp_step id (Is.CreateJob request) now old reply new of it = result_by _ _ _ (λ a (done : CreatesIt now old a reply new). ipp_answer id _ _ _ reply.response done.replies.response) (λ b (refused : Refuses now old b reply new). ipp_answer id _ _ _ reply.response refused.replies.response) it
ipp_step id (Is.SendDocument request) now old reply new of it = result_by _ _ _ (λ a (done : SendsIt now old request a reply new). ipp_answer id _ _ _ reply.response done.replies.response) (λ b (refused : Refuses now old b reply new). ipp_answer id _ _ _ reply.response refused.replies.response) it
ipp_step id (Is.CancelJob request) now old reply new of it = result_by _ _ _ (λ a (done : CancelsIt now old request.user a reply new). ipp_answer id _ _ _ reply.response done.response) (λ b (refused : Refuses now old b reply new). ipp_answer id _ _ _ reply.response refused.replies.response) it
ipp_step id (Is.GetJobAttributes request) now old reply new of it = result_by _ _ _ (λ a (done : Shows now old (job_group now request.requested old a ∷ []) reply new). ipp_answer id _ _ _ reply.response done.replies.response) (λ b (refused : Refuses now old b reply new). ipp_answer id _ _ _ reply.response refused.replies.response) it
ipp_step id (Is.GetJobs request) now old reply new of it = result_by _ _ _ (λ a (done : Shows now old (job_groups a now request.requested old) reply new). ipp_answer id _ _ _ reply.response done.replies.response) (λ b (refused : Refuses now old b reply new). ipp_answer id _ _ _ reply.response refused.replies.response) it
ipp_step id (Is.GetPrinterAttributes request) now old reply new of it = result_by _ _ _ (λ a (done : Shows now old (printer_group a.id a.offer now request.requested old ∷ []) reply new). ipp_answer id _ _ _ reply.response done.replies.response) (λ b (refused : Refuses now old b reply new). ipp_answer id _ _ _ reply.response refused.replies.response) it
ipp_step id (Is.HoldJob request) now old reply new of it = held id now request.until request.job old reply new it
ipp_step id (Is.ReleaseJob request) now old reply new of it = result_by _ _ _ (λ a (done : ChangesIt now old Release [] a reply new). ipp_answer id _ _ _ reply.response done.replies.response) (λ b (refused : Refuses now old b reply new). ipp_answer id _ _ _ reply.response refused.replies.response) it
ipp_step id (Is.PausePrinter request) now old reply new of it = result_by _ _ _ (λ a (done : PausesIt now old true a reply new). ipp_answer id _ _ _ reply.response done.replies.response) (λ b (refused : Refuses now old b reply new). ipp_answer id _ _ _ reply.response refused.replies.response) it
ipp_step id (Is.ResumePrinter request) now old reply new of it = result_by _ _ _ (λ a (done : PausesIt now old false a reply new). ipp_answer id _ _ _ reply.response done.replies.response) (λ b (refused : Refuses now old b reply new). ipp_answer id _ _ _ reply.response refused.replies.response) it
ipp_step id (Is.SubmitFiles request) now old reply new of it = absurd of
ipp_step id (Is.ListQueue request) now old reply new of it = absurd of
ipp_step id (Is.RemoveJobs request) now old reply new of it = absurd of
ipp_step id (Is.Report device report) now old reply new of it = absurd of
ipp_step id Is.Tick now old reply new of it = absurd of

job_step : (event : Event) (now : ℕ) (old : State) (reply : Effects) (new : State) → IsJobEvent event → StepAt event now old reply new → IsTyped client.LpdJob reply.response
job_step (Is.PrintJob request) now old reply new of it = absurd of
job_step (Is.ValidateJob request) now old reply new of it = absurd of
job_step (Is.CreateJob request) now old reply new of it = absurd of
job_step (Is.SendDocument request) now old reply new of it = absurd of
job_step (Is.CancelJob request) now old reply new of it = absurd of
job_step (Is.GetJobAttributes request) now old reply new of it = absurd of
job_step (Is.GetJobs request) now old reply new of it = absurd of
job_step (Is.GetPrinterAttributes request) now old reply new of it = absurd of
job_step (Is.HoldJob request) now old reply new of it = absurd of
job_step (Is.ReleaseJob request) now old reply new of it = absurd of
job_step (Is.PausePrinter request) now old reply new of it = absurd of
job_step (Is.ResumePrinter request) now old reply new of it = absurd of
job_step (Is.SubmitFiles request) now old reply new of it = option_by _ _ _ (λ (none : FilesNothing now old reply new). lpd_taken false reply.response none.answers.response) (λ job (done : FilesJob now old job reply new). lpd_taken true reply.response done.answers.response) it
job_step (Is.ListQueue request) now old reply new of it = absurd of
job_step (Is.RemoveJobs request) now old reply new of it = absurd of
job_step (Is.Report device report) now old reply new of it = absurd of
job_step Is.Tick now old reply new of it = absurd of

queue_step : (event : Event) (now : ℕ) (old : State) (reply : Effects) (new : State) → IsQueueEvent event → StepAt event now old reply new → IsTyped client.LpdCommand reply.response
queue_step (Is.PrintJob request) now old reply new of it = absurd of
queue_step (Is.ValidateJob request) now old reply new of it = absurd of
queue_step (Is.CreateJob request) now old reply new of it = absurd of
queue_step (Is.SendDocument request) now old reply new of it = absurd of
queue_step (Is.CancelJob request) now old reply new of it = absurd of
queue_step (Is.GetJobAttributes request) now old reply new of it = absurd of
queue_step (Is.GetJobs request) now old reply new of it = absurd of
queue_step (Is.GetPrinterAttributes request) now old reply new of it = absurd of
queue_step (Is.HoldJob request) now old reply new of it = absurd of
queue_step (Is.ReleaseJob request) now old reply new of it = absurd of
queue_step (Is.PausePrinter request) now old reply new of it = absurd of
queue_step (Is.ResumePrinter request) now old reply new of it = absurd of
queue_step (Is.SubmitFiles request) now old reply new of it = absurd of
queue_step (Is.ListQueue request) now old reply new of it = option_by _ _ _ (λ (none : ListsNothing now old reply new). lpd_none reply.response none.answers.response) (λ place (done : ListsIt now old request place reply new). lpd_listed now place request old reply.response done.response) it
queue_step (Is.RemoveJobs request) now old reply new of it = lpd_nothing reply.response it.unanswered
queue_step (Is.Report device report) now old reply new of it = absurd of
queue_step Is.Tick now old reply new of it = absurd of

typed_step : (who : Client) (event : Event) (now : ℕ) (old : State) (reply : Effects) (new : State) → EventOf who event → StepAt event now old reply new → IsTyped who reply.response
typed_step (client.Ipp id) event now old reply new of it = ipp_step id event now old reply new of it
typed_step client.LpdJob event now old reply new of it = job_step event now old reply new of it
typed_step client.LpdCommand event now old reply new of it = queue_step event now old reply new of it

abbrev pub IsTypedReply : Client → Option Effects → Type 0
IsTypedReply who None = Unit {0}
IsTypedReply who (Some reply) = IsTyped who reply.response

pub typed : (who : Client) (moment : ℕ) (event : Event) (old : State) (outcome : Outcome) (notes : List Note) (new : State) → EventOf who event → Handles moment event old outcome notes new → IsTypedReply who (effects_of outcome)
typed who moment event old (Some handled) notes new of it = typed_step who event _ old handled.effects it.mid of it.step
typed who moment event old None notes new of it = tt
