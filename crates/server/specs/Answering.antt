-- The replies to the events of clients: of IPP over HTTP (RFC 9112; RFC 8011, section 4.1), and of LPD (RFC 1179).
use Rattle.std.specs.Prelude.{ℕ, ◌⊎◌, Bool, List, [], ◌∷◌, Option, Some, None}
use Rattle.events.specs.declared.event.Event.{Event}
use Rattle.events.specs.declared.effects.Effects.{Effects}
use Rattle.events.specs.declared.effects.Response.{Response}
use Rattle.events.specs.declared.effects.Response.TheVariants as responds
use Rattle.events.specs.declared.effects.LpdResponse.{LpdResponse}
use Rattle.events.specs.declared.effects.LpdResponse.TheVariants as Shown
use Rattle.events.specs.declared.status.Status.TheVariants.{TemporaryError}
use Rattle.events.specs.Event.{is_query}
use Rattle.dispatcher.specs.declared.observer.AllocationSite.{AllocationSite}
use Rattle.dispatcher.specs.declared.observer.AllocationSite.TheVariants as At
use Rattle.dispatcher.specs.Notes.{Refused}
use Rattle.dispatcher.specs.Run.{Outcome, effects_of}
use Rattle.ipp_operations.specs.Reply.{IsReply}
use Rattle.ipp_operations.specs.QueueText.{ack_of, text_of}
use Rattle.ipp_operations.specs.declared.queue_text.TheConstants.{REFUSED}
use Rattle.connections.specs.declared.ask.Client.{Client}
use Rattle.connections.specs.declared.ask.Client.TheVariants as client
use Rattle.server.specs.Polls.{Found}
use Rattle.server.specs.Rel.{Rel, Nothing, Notifies, Chooses, Then, If, Or}
use Rattle.server.specs.Enqueuing.{Breaks, Enqueues, EnqueuesResponse, EnqueuesStatus}
use Rattle.server.specs.Happening.{Happens}

-- ---- an IPP client

-- a request was dropped, out of memory, and its reply is the status of a temporary error
abbrev pub Drops : ℕ → ℕ → ℕ → Rel
Drops key id request = Then (Notifies (Refused At.Event (Some id))) (EnqueuesStatus key TemporaryError request)

-- Memory for the bytes of a reply is refused, and the event isn't undone. The reply to a query is then the status of a
-- temporary error. After any other event the connection breaks.
abbrev pub LosesReply : ℕ → ℕ → ℕ → Bool → Rel
LosesReply key id request query = Then (Notifies (Refused At.Reply (Some id))) (If query (EnqueuesStatus key TemporaryError request) (Breaks key))

-- the bytes of a response become due, or memory for them is refused
abbrev pub RepliesWith : ℕ → ℕ → ℕ → Bool → Response → Rel
RepliesWith key id request query (responds.Ipp answer) l hs l' =
    ((bytes : List ℕ) × IsReply answer request bytes × Then (Chooses Found) (EnqueuesResponse key bytes) l hs l') ⊎ LosesReply key id request query l hs l'
RepliesWith key id request query (responds.Lpd answer) l hs l' = Nothing l hs l'
RepliesWith key id request query responds.Nothing l hs l' = Nothing l hs l'

-- the reply to an event becomes due, or the request was dropped
abbrev pub Replies : ℕ → ℕ → ℕ → Bool → Option Effects → Rel
Replies key id request query (Some reply) = RepliesWith key id request query reply.response
Replies key id request query None = Drops key id request

-- ---- an LPD client

-- memory for a file or for a job is refused, and the client gets the refusal, the byte 01 (RFC 1179, section 6)
abbrev pub Declines : AllocationSite → ℕ → ℕ → Rel
Declines place key id = Then (Notifies (Refused place (Some id))) (Enqueues key (REFUSED ∷ []))

-- a text becomes due; if memory for the text is refused, the connection breaks without a byte of the text
abbrev pub Shows : ℕ → ℕ → List ℕ → Rel
Shows key id text = Or (Then (Chooses Found) (Enqueues key text)) (Then (Notifies (Refused At.Reply (Some id))) (Breaks key))

abbrev pub SendsLpd : ℕ → ℕ → LpdResponse → Rel
SendsLpd key id (Shown.Taken taken) = Enqueues key (ack_of (Shown.Taken taken) ∷ [])
SendsLpd key id (Shown.Queue listing) = Shows key id (text_of (Shown.Queue listing))
SendsLpd key id Shown.NoQueue = Shows key id (text_of Shown.NoQueue)

-- A job is acknowledged, and takes no memory for a reply. A queue is shown. A removal of jobs has no response.
abbrev pub IsShown : ℕ → ℕ → Response → Rel
IsShown key id (responds.Lpd answer) = SendsLpd key id answer
IsShown key id (responds.Ipp answer) = Nothing
IsShown key id responds.Nothing = Nothing

-- the acknowledgement of a job becomes due; if the event was dropped, the refusal becomes due
abbrev pub Acknowledges : ℕ → ℕ → Option Effects → Rel
Acknowledges key id (Some reply) = IsShown key id reply.response
Acknowledges key id None = Declines At.Event key id

-- the response to a command becomes due; if the event was dropped, the connection breaks
abbrev pub Responds : ℕ → ℕ → Option Effects → Rel
Responds key id (Some reply) = IsShown key id reply.response
Responds key id None = Then (Notifies (Refused At.Event (Some id))) (Breaks key)

-- ---- any client

abbrev pub Answers : ℕ → ℕ → Client → Bool → Option Effects → Rel
Answers key id (client.Ipp request) query reply = Replies key id request query reply
Answers key id client.LpdJob query reply = Acknowledges key id reply
Answers key id client.LpdCommand query reply = Responds key id reply

-- the event of a client comes, and then its reply becomes due
abbrev pub IsAnswered : ℕ → ℕ → ℕ → Client → Event → Rel
IsAnswered moment key id who event l hs l' =
    (outcome : Outcome) × Then (Happens moment event outcome) (Answers key id who (is_query event) (effects_of outcome)) l hs l'
