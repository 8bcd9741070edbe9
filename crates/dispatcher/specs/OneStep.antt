-- Replies with the same content, and ends of a step with the same state and the same effects.
use Rattle.std.specs.Prelude.{◌≡◌}
use Rattle.events.specs.declared.effects.Response.{Response}
use Rattle.events.specs.declared.effects.Response.TheVariants.{Ipp, Lpd, Nothing}
use Rattle.events.specs.declared.effects.IppResponse.{IppResponse}
use Rattle.events.specs.declared.effects.LpdResponse.{LpdResponse}
use Rattle.events.specs.declared.effects.LpdResponse.TheVariants.{Taken, Queue, NoQueue}
use Rattle.events.specs.declared.effects.Effects.{Effects}
use Rattle.events.specs.declared.queue.QueueListing.{QueueListing}
use Rattle.print_room.specs.State.{State}

pub record SameListing (one other : QueueListing) : Type 0 where
  pub form : one.form ≡ other.form
  pub name : one.name ≡ other.name
  pub state : one.state ≡ other.state
  pub jobs : one.jobs.items ≡ other.jobs.items

abbrev pub SameLpdAnswer : LpdResponse → LpdResponse → Type 0
SameLpdAnswer (Taken one) (Taken other) = one ≡ other
SameLpdAnswer (Queue one) (Queue other) = SameListing one other
SameLpdAnswer NoQueue NoQueue = Unit {0}
SameLpdAnswer _ _ = ⊥

pub record SameIppAnswer (one other : IppResponse) : Type 0 where
  pub status : one.status ≡ other.status
  pub unsupported : one.unsupported ≡ other.unsupported
  pub groups : one.groups ≡ other.groups

abbrev pub SameAnswer : Response → Response → Type 0
SameAnswer (Ipp one) (Ipp other) = SameIppAnswer one other
SameAnswer (Lpd one) (Lpd other) = SameLpdAnswer one other
SameAnswer Nothing Nothing = Unit {0}
SameAnswer _ _ = ⊥

pub record SameReply (one other : Effects) : Type 0 where
  pub response : SameAnswer one.response other.response
  pub cancels : one.cancels.items ≡ other.cancels.items
  pub documents : one.documents.items ≡ other.documents.items

-- the same state, and replies with the same content
pub record SameEnd (effects : Effects) (new : State) (effects' : Effects) (new' : State) : Type 0 where
  pub state : new ≡ new'
  pub effects_are : SameReply effects effects'
