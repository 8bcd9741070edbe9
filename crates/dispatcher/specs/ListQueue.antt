-- The step of an LPD client's request to list a queue (RFC 1179, sections 5.3 and 5.4).
use Rattle.std.specs.Prelude.{ℕ, ◌≡◌, [], MatchOption}
use Rattle.events.specs.declared.effects.Response.{Response}
use Rattle.events.specs.declared.effects.Response.TheVariants.{Ipp, Lpd, Nothing}
use Rattle.events.specs.declared.effects.LpdResponse.{LpdResponse}
use Rattle.events.specs.declared.effects.LpdResponse.TheVariants.{Taken, Queue, NoQueue}
use Rattle.events.specs.declared.effects.Effects.{Effects}
use Rattle.events.specs.Effects.{AnswersLpd}
use Rattle.events.specs.declared.queue.ListQueue.{ListQueue}
use Rattle.listings.specs.Queue.{queue_of}
use Rattle.listings.specs.QueueListing.{ShowsQueue}
use Rattle.print_room.specs.State.{State}

-- the listing of the printer at a place
abbrev pub IsListing : ℕ → ℕ → ListQueue → State → LpdResponse → Type 0
IsListing now place request state (Queue listing) = ShowsQueue now place request state listing
IsListing now place request state (Taken taken) = ⊥
IsListing now place request state NoQueue = ⊥

-- a response with such a listing
abbrev pub IsListed : ℕ → ℕ → ListQueue → State → Response → Type 0
IsListed now place request state (Lpd answer) = IsListing now place request state answer
IsListed now place request state (Ipp answer) = ⊥
IsListed now place request state Nothing = ⊥

-- the queue is listed, and only the last moment changes
pub record ListsIt (now : ℕ) (old : State) (request : ListQueue) (place : ℕ) (effects : Effects) (new : State) : Type 0 where
  pub response : IsListed now place request old effects.response
  pub cancels : effects.cancels.items ≡ []
  pub documents : effects.documents.items ≡ []
  pub state : new ≡ record old { last = now }

-- the queue isn't known, and only the last moment changes
pub record ListsNothing (now : ℕ) (old : State) (effects : Effects) (new : State) : Type 0 where
  pub answers : AnswersLpd NoQueue effects
  pub state : new ≡ record old { last = now }

-- the relation has at most one result: effects and a state
abbrev pub ListsQueue : ℕ → ListQueue → State → Effects → State → Type 0
ListsQueue now request old effects new =
    MatchOption (queue_of request.queue old) (ListsNothing now old effects new) (λ place. ListsIt now old request place effects new)
