-- The answers to an IPP client, exchange by exchange of its stream: `100 Continue` if its head invites it, and one answer after its body. The answer is the reply that the run gave to the event of the body, or a status alone.
use Rattle.std.specs.Prelude.{ℕ, ◌≡◌, ◌⊎◌, Bool, true, false, if◌then◌else◌, List, [], ◌∷◌, ◌++◌, map, All, Option, Some, None}
use Rattle.std.specs.List.{flat_map}
use Rattle.print_room.specs.State.{State}
use Rattle.http_front.specs.declared.refusal.HttpRejection.{HttpRejection}
use Rattle.http_front.specs.declared.refusal.HttpRejection.TheVariants.{BadRequest}
use Rattle.http_front.specs.declared.item.HttpItem.{HttpItem}
use Rattle.http_front.specs.Reply.{continue_head}
use Rattle.http_front.specs.Stream.{HttpElement, HasHead, Invites, HasByte, EndsBody, IsRefused, elements_of}
use Rattle.http_front.specs.Order.{Between, in_order}
use Rattle.events.specs.declared.status.Status.TheVariants.{TemporaryError}
use Rattle.dispatcher.specs.declared.observer.AllocationSite.TheVariants as At
use Rattle.ipp_operations.specs.declared.parsed_request.ParsedRequest.{ParsedRequest}
use Rattle.ipp_operations.specs.declared.parsed_request.ParsedRequest.TheVariants as asks
use Rattle.ipp_operations.specs.ParsedRequest.{Asks, request_id_of}
use Rattle.connections.specs.Reply.{refusal_head}
use Rattle.connections.specs.declared.ask.Client.TheVariants as client
use Rattle.connections.specs.Steps.{http_status}
use Rattle.connections.specs.Entry.{PeerRecord, Http, Entry, opening_peer}
use Rattle.connections.specs.Asking.{IsActedOn}
use Rattle.server.specs.Ledger.{Ledger, Fate}
use Rattle.server.specs.Turn.{Trace}
use Rattle.server.specs.Law.{happenings_in}
use Rattle.wires.specs.declared.wire.Door.TheVariants.{Ipp}
use Rattle.promises.specs.Orders.{RunPart, AreHandled, AreOf, run_notes}
use Rattle.promises.specs.Answers.{Act, AreActs, IsRefusal, IsGivenTo, asked_by, IsOneAtMost, IsFirst}

-- ---- one exchange

-- a request, from its head to the end of its body (RFC 9112, section 2.1), with the part of the run that it asked for, which is the event of it that the core handled and that memory was refused, and its answer
pub record Exchange : Type 0 where
  -- whether the connection closes after the exchange (RFC 9112, section 9.3)
  pub closes : Bool
  -- whether the head expects `100-continue` (RFC 9110, section 10.1.1)
  pub invites : Bool
  pub body : List ℕ
  pub asked : List RunPart
  pub answer : List ℕ

-- a head, the invitation that it waits for, and a prefix of a body
abbrev pub elements_of_begun : Bool → Bool → List ℕ → List HttpElement
elements_of_begun closes invites body = HasHead closes ∷ ((if invites then Invites ∷ [] else []) ++ map HasByte body)

abbrev pub elements_of_exchange : Exchange → List HttpElement
elements_of_exchange x = elements_of_begun x.closes x.invites x.body ++ EndsBody ∷ []

-- A body without a whole header (RFC 8010, section 3.1.1) is answered by the head of a refusal, and a refused body by its status; no event is asked. For a body with an event, the core handles exactly that event, and the answer is the reply that it gave. It is the status that memory was refused only if the observer was notified of that: memory for the event, or for the reply to a query (RFC 8011, section 4.1).
abbrev pub IsAnswerTo : ℕ → Bool → ParsedRequest → List RunPart → List ℕ → Type 0
IsAnswerTo id closes asks.TooShort asked answer = (asked ≡ []) × (answer ≡ refusal_head BadRequest)
IsAnswerTo id closes (asks.Refused status request) asked answer = (asked ≡ []) × (answer ≡ http_status closes status request)
IsAnswerTo id closes (asks.Event request event) asked answer = IsGivenTo id closes (client.Ipp request) event asked answer

-- if memory to read a body was refused, and the observer was notified, no event is asked, and the answer is the status TemporaryError
abbrev pub IsUnread : ℕ → Bool → List ℕ → List RunPart → List ℕ → Type 0
IsUnread id closes body asked answer = (request : ℕ) × (request_id_of body ≡ Some request) × IsRefusal id At.Event asked × (answer ≡ http_status closes TemporaryError request)

-- an exchange on the connection of this number
abbrev pub IsExchange : ℕ → Exchange → Type 0
IsExchange id x = ((it : ParsedRequest) × Asks x.body it × IsAnswerTo id x.closes it x.asked x.answer) ⊎ IsUnread id x.closes x.body x.asked x.answer

-- the bytes of an exchange: the interim response if its head invites it (RFC 9110, section 15.2.1), and the answer
abbrev pub invitation : Bool → List ℕ
invitation invites = if invites then continue_head else []

abbrev pub due_in : Exchange → List ℕ
due_in x = invitation x.invites ++ x.answer

-- ---- the part after the whole exchanges

-- nothing, or the beginning of one more exchange
pub data Prefix : Type 0 where
  Nothing : Prefix
  Begun : (closes invites : Bool) (body : List ℕ) → Prefix

abbrev pub elements_of_prefix : Prefix → List HttpElement
elements_of_prefix Nothing = []
elements_of_prefix (Begun closes invites body) = elements_of_begun closes invites body

abbrev pub due_prefix : Prefix → List ℕ
due_prefix Nothing = []
due_prefix (Begun closes invites body) = invitation invites

-- the rest may be refused
abbrev pub elements_of_refusal : Option HttpRejection → List HttpElement
elements_of_refusal None = []
elements_of_refusal (Some refusal) = IsRefused refusal ∷ []

abbrev pub due_refusal : Option HttpRejection → List ℕ
due_refusal None = []
due_refusal (Some refusal) = refusal_head refusal

-- ---- the law

-- A client's stream is whole exchanges, one after the other, and then at most the beginning of one more, or a refusal. Nothing follows an exchange that closes, one with too short a body, or a refusal. The bytes due are those of the exchanges, and the events asked, and the refusals of memory for them, are exactly theirs, in order.
pub record AreExchanges (id : ℕ) (acted_on : List HttpElement) (handled : List RunPart) (bytes : List ℕ) : Type 0 where
  pub order : in_order Between acted_on ≡ true
  pub exchanges : List Exchange
  pub each : All (λ (x : Exchange). IsExchange id x) exchanges
  pub prefix : Prefix
  pub refusal : Option HttpRejection
  pub parsed : acted_on ≡ flat_map elements_of_exchange exchanges ++ (elements_of_prefix prefix ++ elements_of_refusal refusal)
  pub asked : handled ≡ flat_map (λ (x : Exchange). x.asked) exchanges
  pub due : bytes ≡ flat_map due_in exchanges ++ (due_prefix prefix ++ due_refusal refusal)

-- all acts of an IPP client are such exchanges
abbrev pub ActsAreExchanges : Type 0
ActsAreExchanges =
    (id : ℕ) (acts : List Act) (parsed : List HttpElement) (closes : Bool) (body : List ℕ) → AreActs id (opening_peer Ipp) acts (Http parsed closes body)
    → AreExchanges id parsed (flat_map (λ (a : Act). a.asked) acts) (flat_map (λ (a : Act). a.bytes) acts)

-- the events asked on a connection since it was accepted, and the bytes due on it, are those of exchanges
pub record ByExchanges (key : ℕ) (handled : List RunPart) (parsed : List HttpElement) (e : Entry) : Type 0 where
  pub earlier : List RunPart
  pub since : List RunPart
  pub whole : handled ≡ earlier ++ since
  pub are : AreExchanges e.id parsed (asked_by key since) e.due

-- at most one more item was acted on
abbrev pub IsOneMore : List HttpElement → List HttpElement → Type 0
IsOneMore until parsed = (parsed ≡ until) ⊎ ((item : HttpItem) × (part : List ℕ) × (parsed ≡ until ++ elements_of item part))

-- A connection broke: the bytes due are those of the exchanges before, and at most one more event was asked, which has no answer, with at most one more refusal of memory.
pub record UntilBroken (key : ℕ) (handled : List RunPart) (parsed : List HttpElement) (e : Entry) : Type 0 where
  pub earlier : List RunPart
  pub since : List RunPart
  pub whole : handled ≡ earlier ++ since
  pub until : List HttpElement
  pub last : IsOneMore until parsed
  pub answered : List RunPart
  pub unanswered : List RunPart
  pub asked : asked_by key since ≡ answered ++ unanswered
  pub one : IsOneAtMost unanswered
  pub are : AreExchanges e.id until answered e.due

abbrev pub IsByExchanges : ℕ → List RunPart → PeerRecord → Entry → Type 0
IsByExchanges key handled (Http parsed closes body) e = (e.broken ≡ false → ByExchanges key handled parsed e) × (e.broken ≡ true → UntilBroken key handled parsed e)
IsByExchanges key handled progress e = Unit {0}

-- a connection that was closed has this property, by the events before
abbrev pub WasByExchanges : List RunPart → Entry → Type 0
WasByExchanges handled e = (key : ℕ) × (before : List RunPart) × (tail : List RunPart) × (handled ≡ before ++ tail) × IsByExchanges key before e.progress e

-- The events of a trace are one run of the core, whose parts give the observer's notes, and by which each IPP client is answered exchange by exchange, even if its connection was closed. On each connection the exchanges are a prefix of the exchanges that its bytes contain. On an open connection they are all of these, unless the connection is draining or broken.
pub record AreByExchanges (opening : State) (trace : Trace) (l : Ledger) : Type 0 where
  pub handled : List RunPart
  pub timed : AreOf trace handled
  pub run : AreHandled opening handled l.core
  pub notified : run_notes (happenings_in trace) ≡ flat_map (λ (it : RunPart). it.notes) handled
  pub each : (key : ℕ) (e : Entry) → l.entries key ≡ Some e → IsByExchanges key handled e.progress e
  pub closed : All (λ (it : Entry × Fate). WasByExchanges handled it.0) l.closed
  pub first : (key : ℕ) (e : Entry) → l.entries key ≡ Some e → IsFirst e.read e.progress
  pub closed_first : All (λ (it : Entry × Fate). IsFirst it.0.read it.0.progress) l.closed
  pub acted_on : (key : ℕ) (e : Entry) → l.entries key ≡ Some e → IsActedOn e
