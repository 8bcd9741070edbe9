-- The event of a body is answered by a message.
use Rattle.std.proofs.Common.{◌≡◌, ℕ, Bool, true, false, cond, not, List, [], ◌∷◌, Option, Some, None, MatchOption, Result, Ok, Err, MatchResult, subst, inl, inr, max, sym}
use Rattle.std.specs.Option.{option_map_or}
use Rattle.ipp_codec.specs.Message.{IppAttribute, IppGroup, IppMessage}
use Rattle.printer_objects.specs.declared.operation.Operation.{Operation}
use Rattle.printer_objects.specs.declared.operation.Operation.TheVariants as operation
use Rattle.events.specs.declared.event.Event.{Event}
use Rattle.events.specs.declared.event.Event.TheVariants as Is
use Rattle.events.specs.declared.effects.Response.{Response}
use Rattle.events.specs.declared.effects.Response.TheVariants as responds
use Rattle.events.specs.declared.effects.Effects.{Effects}
use Rattle.events.specs.declared.status.Status.{Status}
use Rattle.events.specs.declared.status.Status.TheVariants as Went
use Rattle.job_objects.specs.declared.job_change.JobChange.{JobChange}
use Rattle.job_objects.specs.declared.job_change.JobChange.TheVariants as Change
use Rattle.listings.specs.Groups.{printer_group, job_group, job_groups}
use Rattle.events.specs.declared.event.JobRequest.{JobRequest}
use Rattle.events.specs.declared.event.PrinterRequest.{PrinterRequest}
use Rattle.events.specs.declared.event.HoldUntil.{HoldUntil}
use Rattle.events.specs.declared.event.HoldUntil.TheVariants.{NoHold, Indefinite, Unsupported}
use Rattle.events.specs.Effects.{IsResponse, Replies}
use Rattle.dispatcher.specs.Answers.{Refuses, Shows}
use Rattle.dispatcher.specs.Checks.{named_job, named_printer}
use Rattle.dispatcher.specs.PrintJob.{TakesJob, checked_of}
use Rattle.dispatcher.specs.ValidateJob.{Validates, validated_of}
use Rattle.dispatcher.specs.CreateJob.{CreatesIt, created_of}
use Rattle.dispatcher.specs.SendDocument.{SendsIt, sent_of}
use Rattle.dispatcher.specs.CancelJob.{CancelsIt, canceled_of}
use Rattle.dispatcher.specs.HoldJob.{ChangesIt, ChangesJob, HoldsUntil, changed_of}
use Rattle.dispatcher.specs.PausePrinter.{PausesIt, SetsPaused, paused_of}
use Rattle.dispatcher.specs.GetJobs.{wanted_of}
use Rattle.print_room.specs.State.{State}
use Rattle.dispatcher.specs.Step.{StepAt}
use Rattle.ipp_operations.specs.declared.parsed_request.ParsedRequest.TheVariants as Body
use Rattle.ipp_operations.specs.ParsedRequest.{Asks, AsksUnder, Requests, answered, header_of, operation_of}
use Rattle.ipp_operations.specs.Event.{event_of, checked_event, event_of_group, are_tagged, is_complete}
use Rattle.ipp_operations.specs.Request.{operation_group, job_attributes, is_utf8}
use Rattle.dispatcher.specs.Notes.{Note}
use Rattle.dispatcher.specs.Run.{Outcome, effects_of, Handles}
use Rattle.std.proofs.lemmas.Option.{none-some}
use Rattle.server.specs.Turn.{IsBytes}
use Rattle.replay.specs.OneRun.{IsReplyOf}

-- an answer to a request of IPP
abbrev IsOfIpp : Response → Type 0
IsOfIpp (responds.Ipp answer) = Unit {0}
IsOfIpp (responds.Lpd answer) = ⊥
IsOfIpp responds.Nothing = ⊥

-- an event that is a request of IPP
abbrev IsRequest : Event → Type 0
IsRequest (Is.PrintJob request) = Unit {0}
IsRequest (Is.ValidateJob request) = Unit {0}
IsRequest (Is.CreateJob request) = Unit {0}
IsRequest (Is.SendDocument request) = Unit {0}
IsRequest (Is.CancelJob request) = Unit {0}
IsRequest (Is.GetJobAttributes request) = Unit {0}
IsRequest (Is.GetJobs request) = Unit {0}
IsRequest (Is.GetPrinterAttributes request) = Unit {0}
IsRequest (Is.HoldJob request) = Unit {0}
IsRequest (Is.ReleaseJob request) = Unit {0}
IsRequest (Is.PausePrinter request) = Unit {0}
IsRequest (Is.ResumePrinter request) = Unit {0}
IsRequest (Is.SubmitFiles request) = ⊥
IsRequest (Is.ListQueue request) = ⊥
IsRequest (Is.RemoveJobs request) = ⊥
IsRequest (Is.Report device report) = ⊥
IsRequest Is.Tick = ⊥

-- ---- the answer to a request

answers_so : (status : Status) (unsupported : List IppAttribute) (groups : List IppGroup) (answer : Response) → IsResponse status unsupported groups answer → IsOfIpp answer
answers_so status unsupported groups (responds.Ipp answer) is = tt
answers_so status unsupported groups (responds.Lpd answer) is = is
answers_so status unsupported groups responds.Nothing is = is

is_answer : (status : Status) (unsupported : List IppAttribute) (groups : List IppGroup) (reply : Effects) → IsResponse status unsupported groups reply.response → IsOfIpp reply.response
is_answer status unsupported groups reply answer = answers_so status unsupported groups reply.response answer

is_answered : (status : Status) (unsupported : List IppAttribute) (groups : List IppGroup) (reply : Effects) → Replies status unsupported groups reply → IsOfIpp reply.response
is_answered status unsupported groups reply replies = is_answer status unsupported groups reply replies.response

-- the result of checks has an answer, if the result without a failed check has an answer
answers : {A : Type 0} (Done : A → Type 0) (now : ℕ) (old : State) (reply : Effects) (new : State) → ((a : A) → Done a → IsOfIpp reply.response)
    → (asked : Result A _) → MatchResult asked Done (λ refusal. Refuses now old refusal reply new) → IsOfIpp reply.response
answers Done now old reply new each (Ok a) is = each a is
answers Done now old reply new each (Err refusal) refused = is_answered _ _ _ reply refused.replies

changed_answer : (request : JobRequest) (change : JobChange) (unsupported : List IppAttribute) (now : ℕ) (old : State) (reply : Effects) (new : State) → ChangesJob now request change unsupported old reply new → IsOfIpp reply.response
changed_answer request change unsupported now old reply new step =
    answers (λ id. ChangesIt now old change unsupported id reply new) now old reply new (λ id is. is_answered _ _ _ reply is.replies) (changed_of request change now old) step

held_answer : (request : JobRequest) (until : HoldUntil) (now : ℕ) (old : State) (reply : Effects) (new : State) → HoldsUntil now request until old reply new → IsOfIpp reply.response
held_answer request NoHold now old reply new step = changed_answer request Change.Release [] now old reply new step
held_answer request Indefinite now old reply new step = changed_answer request Change.Hold [] now old reply new step
held_answer request (Unsupported attribute) now old reply new step = changed_answer request Change.Hold attribute now old reply new step

paused_answer : (request : PrinterRequest) (paused : Bool) (now : ℕ) (old : State) (reply : Effects) (new : State) → SetsPaused now request paused old reply new → IsOfIpp reply.response
paused_answer request paused now old reply new step =
    answers (λ place. PausesIt now old paused place reply new) now old reply new (λ place is. is_answered _ _ _ reply is.replies) (paused_of request old) step

shown_answer : {A : Type 0} (groups : A → List IppGroup) (now : ℕ) (old : State) (reply : Effects) (new : State) (asked : Result A _) → MatchResult asked (λ a. Shows now old (groups a) reply new) (λ refusal. Refuses now old refusal reply new) → IsOfIpp reply.response
shown_answer groups now old reply new asked step =
    answers (λ a. Shows now old (groups a) reply new) now old reply new (λ a is. is_answered _ _ _ reply is.replies) asked step

stepped_answer : (event : Event) (now : ℕ) (old : State) (reply : Effects) (new : State) → IsRequest event → StepAt event now old reply new → IsOfIpp reply.response
stepped_answer (Is.PrintJob request) now old reply new is step = answers (λ accepted. TakesJob now old accepted reply new) now old reply new (λ accepted done. is_answered _ _ _ reply done.replies) (checked_of request now old) step
stepped_answer (Is.ValidateJob request) now old reply new is step = answers (λ unsupported. Validates now old unsupported reply new) now old reply new (λ unsupported done. is_answered _ _ _ reply done.replies) (validated_of request old) step
stepped_answer (Is.CreateJob request) now old reply new is step = answers (λ accepted. CreatesIt now old accepted reply new) now old reply new (λ accepted done. is_answered _ _ _ reply done.replies) (created_of request now old) step
stepped_answer (Is.SendDocument request) now old reply new is step = answers (λ sent. SendsIt now old request sent reply new) now old reply new (λ sent done. is_answered _ _ _ reply done.replies) (sent_of request old) step
stepped_answer (Is.CancelJob request) now old reply new is step = answers (λ id. CancelsIt now old request.user id reply new) now old reply new (λ id done. is_answer _ _ _ reply done.response) (canceled_of request old) step
stepped_answer (Is.GetJobAttributes request) now old reply new is step = shown_answer (λ job. job_group now request.requested old job ∷ []) now old reply new (named_job request.target old) step
stepped_answer (Is.GetJobs request) now old reply new is step = shown_answer (λ wanted. job_groups wanted now request.requested old) now old reply new (wanted_of request old) step
stepped_answer (Is.GetPrinterAttributes request) now old reply new is step = shown_answer (λ printer. printer_group printer.id printer.offer now request.requested old ∷ []) now old reply new (named_printer request.target old) step
stepped_answer (Is.HoldJob request) now old reply new is step = held_answer request.job request.until now old reply new step
stepped_answer (Is.ReleaseJob request) now old reply new is step = changed_answer request Change.Release [] now old reply new step
stepped_answer (Is.PausePrinter request) now old reply new is step = paused_answer request true now old reply new step
stepped_answer (Is.ResumePrinter request) now old reply new is step = paused_answer request false now old reply new step
stepped_answer (Is.SubmitFiles request) now old reply new is step = absurd is
stepped_answer (Is.ListQueue request) now old reply new is step = absurd is
stepped_answer (Is.RemoveJobs request) now old reply new is step = absurd is
stepped_answer (Is.Report device report) now old reply new is step = absurd is
stepped_answer Is.Tick now old reply new is step = absurd is

-- the reply that was given
is_given : (given reply : Effects) → Some given ≡ Some reply → IsOfIpp given.response → IsOfIpp reply.response
is_given given reply same is = let one : given ≡ reply = cc same in subst (λ (r : Effects). IsOfIpp r.response) one is

-- a request that is answered is answered by a message
request_is_answered : (moment : ℕ) (event : Event) (outcome : Outcome) (reply : Effects) (old : State) (notes : List Note) (new : State) → IsRequest event → effects_of outcome ≡ Some reply → Handles moment event old outcome notes new → IsOfIpp reply.response
request_is_answered moment event (Some handled) reply old notes new is answered it = is_given handled.effects reply answered (stepped_answer event (max moment old.last) old handled.effects it.mid is it.step)
request_is_answered moment event None reply old notes new is answered it = absurd (none-some reply answered)

-- ---- the event of a body

-- an event that is given, if any, is a request
abbrev GivesRequest : Result Event Status → Type 0
GivesRequest result = MatchResult result IsRequest (λ status. Unit {0})

gives_in : (asked : Operation) (group : IppGroup) (template : List IppAttribute) (document : List ℕ) → IsRequest (event_of_group asked group template document)
gives_in operation.PrintJob group template document = tt
gives_in operation.ValidateJob group template document = tt
gives_in operation.CreateJob group template document = tt
gives_in operation.SendDocument group template document = tt
gives_in operation.CancelJob group template document = tt
gives_in operation.GetJobAttributes group template document = tt
gives_in operation.GetJobs group template document = tt
gives_in operation.GetPrinterAttributes group template document = tt
gives_in operation.HoldJob group template document = tt
gives_in operation.ReleaseJob group template document = tt
gives_in operation.PausePrinter group template document = tt
gives_in operation.ResumePrinter group template document = tt

gives_or : {A : Type 0} (f : A → Result Event Status) (o : Option A) (status : Status) → ((a : A) → GivesRequest (f a)) → GivesRequest (option_map_or f o (Err status))
gives_or f None status each = tt
gives_or f (Some a) status each = each a

gives_if : (b : Bool) (status : Status) (result : Result Event Status) → GivesRequest result → GivesRequest (cond b (Err status) result)
gives_if true status result is = tt
gives_if false status result is = is

gives_asked : (asked : Operation) (group : IppGroup) (template : List IppAttribute) (document : List ℕ) → GivesRequest (checked_event asked group template document)
gives_asked asked group template document =
    let event : Result Event Status = Ok (event_of_group asked group template document) in
    let complete : Result Event Status = cond (not (is_complete asked group)) (Err Went.BadRequest) event in
    let tagged : Result Event Status = cond (not (are_tagged asked group)) (Err Went.BadRequest) complete in
    gives_if (not (is_utf8 group)) Went.CharsetNotSupported tagged
    (gives_if (not (are_tagged asked group)) Went.BadRequest complete
    (gives_if (not (is_complete asked group)) Went.BadRequest event (gives_in asked group template document)))

gives_event : (asked : Operation) (message : IppMessage) (document : List ℕ) → GivesRequest (event_of asked message document)
gives_event asked message document =
    gives_or (λ group. checked_event asked group (job_attributes message) document) (operation_group message) Went.BadRequest (λ group. gives_asked asked group (job_attributes message) document)

given : (asked : Operation) (body : List ℕ) (result : Result Event Status) → Requests asked body result → GivesRequest result
given asked body result (inl fault) = subst GivesRequest (sym fault.2) tt
given asked body result (inr spelt) = subst GivesRequest (sym spelt.4) (gives_event asked spelt.1 _)

of_answered : (header_id id : ℕ) (event : Event) (result : Result Event Status) → GivesRequest result → Body.Event id event ≡ answered header_id result → IsRequest event
of_answered header_id id event (Ok other) is e = let same : event ≡ other = cc in subst IsRequest (sym same) is
of_answered header_id id event (Err status) is e = absurd (cc)

of_requests : (body : List ℕ) (header_id id : ℕ) (event : Event) (asked : Result Operation Status)
    → MatchResult asked (λ o. (result : Result Event Status) × Requests o body result × (Body.Event id event ≡ answered header_id result)) (λ status. Body.Event id event ≡ Body.Refused status header_id)
    → IsRequest event
of_requests body header_id id event (Ok o) asks = of_answered header_id id event asks.0 (given o body asks.0 asks.1) asks.2
of_requests body header_id id event (Err status) e = absurd (cc)

of_body : (body : List ℕ) (id : ℕ) (event : Event) (header : Option _) → MatchOption header (Body.Event id event ≡ Body.TooShort) (λ h. AsksUnder h body (Body.Event id event)) → IsRequest event
of_body body id event None e = absurd (cc)
of_body body id event (Some header) asks = of_requests body header.request_id id event (operation_of header) asks

-- the event of a body is a request
body_is_request : (body : List ℕ) (id : ℕ) (event : Event) → Asks body (Body.Event id event) → IsRequest event
body_is_request body id event asks = of_body body id event (header_of body) asks

-- ---- the bytes of a body's answer

are_of_reply : (request : ℕ) (answer : Response) (bytes : List ℕ) → IsOfIpp answer → IsBytes request answer bytes → IsReplyOf answer request bytes
are_of_reply request (responds.Ipp answer) bytes is are = are
are_of_reply request (responds.Lpd answer) bytes is are = absurd is
are_of_reply request responds.Nothing bytes is are = absurd is

pub body_replied : (body : List ℕ) (moment request : ℕ) (event : Event) (outcome : Outcome) (reply : Effects) (bytes : List ℕ) (old : State) (notes : List Note) (new : State) → Asks body (Body.Event request event) → effects_of outcome ≡ Some reply → Handles moment event old outcome notes new → IsBytes request reply.response bytes → IsReplyOf reply.response request bytes
body_replied body moment request event outcome reply bytes old notes new asks answered handled are =
    are_of_reply request reply.response bytes (request_is_answered moment event outcome reply old notes new (body_is_request body request event asks) answered handled) are
