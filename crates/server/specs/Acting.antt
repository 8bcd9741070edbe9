-- The asks of a connection, and the happenings that they bring.
use Rattle.std.specs.Prelude.{ℕ, ◌≡◌, List, [], ◌∷◌, Some}
use Rattle.events.specs.declared.event.Event.TheVariants as Is
use Rattle.dispatcher.specs.declared.observer.DeviceRefusal.TheVariants as why
use Rattle.dispatcher.specs.declared.observer.AllocationSite.{AllocationSite}
use Rattle.dispatcher.specs.declared.observer.AllocationSite.TheVariants as At
use Rattle.dispatcher.specs.Notes.{Refused, DeviceRefused}
use Rattle.connections.specs.declared.ask.Ask.{Ask}
use Rattle.connections.specs.declared.ask.Ask.TheVariants as ask
use Rattle.connections.specs.declared.ask.AllocFailure.{AllocFailure}
use Rattle.connections.specs.declared.ask.AllocFailure.TheVariants.{Input, Output}
use Rattle.connections.specs.declared.ask.Part.{Part}
use Rattle.connections.specs.declared.ask.Part.TheVariants.{File, Job}
use Rattle.connections.specs.Entry.{Entry}
use Rattle.connections.specs.Asking.{AsksNext}
use Rattle.connections.specs.Choice.{part_of, lost_of}
use Rattle.server.specs.Polls.{Happening, Asked, Chosen}
use Rattle.server.specs.Ledger.{Ledger, with_entry}
use Rattle.server.specs.Rel.{Rel, Nothing, Notifies, Then}
use Rattle.server.specs.Happening.{Unanswered}
use Rattle.server.specs.Answering.{IsAnswered, Drops, Declines}
use Rattle.server.specs.Hello.{HandlesHello}

-- the allocation site at which the allocator refused memory for a growth of a connection
abbrev pub place_of : AllocFailure → AllocationSite
place_of Input = At.Feed
place_of Output = At.Enqueue

abbrev pub place_of_part : Part → AllocationSite
place_of_part File = At.File
place_of_part Job = At.Event

-- the connection under a key has this number at the wire, and asks this
pub record Asks (key id : ℕ) (what : Ask) (l : Ledger) (hs : List Happening) (l' : Ledger) : Type 0 where
  pub entry : Entry
  pub new : Entry
  pub there : l.entries key ≡ Some entry
  pub its : id ≡ entry.id
  pub asks : AsksNext l.core.settings what entry new
  pub chosen : hs ≡ Chosen (Asked (part_of asks) (lost_of what)) ∷ []
  pub after : l' ≡ with_entry key new l

-- what the connection under a key asks happens
abbrev pub ActsOn : ℕ → ℕ → ℕ → Ask → Rel
ActsOn moment key id ask.Nothing = Nothing
ActsOn moment key id (ask.Broke growth) = Notifies (Refused (place_of growth) (Some id))
ActsOn moment key id (ask.Event client event) = IsAnswered moment key id client event
ActsOn moment key id (ask.Unread request) = Drops key id request
ActsOn moment key id (ask.Lost part) = Declines (place_of_part part) key id
ActsOn moment key id (ask.Hello device name) = HandlesHello moment key id device name
ActsOn moment key id (ask.Report device report) = Unanswered moment (Is.Report device report)
ActsOn moment key id (ask.UnknownDevice name) = Notifies (DeviceRefused id (why.UnknownName name))
ActsOn moment key id (ask.Fault device) = Notifies (DeviceRefused id (why.Fault device))

-- the connection asks something, and what it asks happens
abbrev pub ActsNext : ℕ → ℕ → Rel
ActsNext moment key l hs l' = (id : ℕ) × (what : Ask) × Then (Asks key id what) (ActsOn moment key id what) l hs l'
