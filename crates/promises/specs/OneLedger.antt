-- One trace leads to one ledger: with all choices in it, the bytes due on each connection are determined, and the state of the core with them.
use Rattle.std.specs.Prelude.{ℕ, ◌≡◌, List}
use Rattle.print_room.specs.State.{State}
use Rattle.events.specs.declared.event.Event.{Event}
use Rattle.events.specs.declared.effects.Effects.{Effects}
use Rattle.events.specs.Event.{is_query}
use Rattle.dispatcher.specs.OneStep.{SameEnd}
use Rattle.dispatcher.specs.Step.{Step}
use Rattle.ipp_operations.specs.declared.parsed_request.ParsedRequest.{ParsedRequest}
use Rattle.ipp_operations.specs.ParsedRequest.{Asks}
use Rattle.events.specs.SameEvent.{SameEvent}
use Rattle.server.specs.Ledger.{Ledger}
use Rattle.server.specs.Turn.{Trace, Runs}

-- two events with the same content lead a state to the same end
abbrev pub StepsOnce : Type 0
StepsOnce = (old : State) (one other : Event) (moment : ℕ) (reply : Effects) (new : State) (parsed : Effects) (after : State) → SameEvent one other → Step old one moment reply new → Step old other moment parsed after → SameEnd reply new parsed after

-- two events with the same content both are queries, or neither is
abbrev pub SameQueries : Type 0
SameQueries = (one other : Event) → SameEvent one other → is_query one ≡ is_query other

-- two parsed requests of one body are equal
abbrev pub AsksOnce : Type 0
AsksOnce = (body : List ℕ) (given parsed : ParsedRequest) → Asks body given → Asks body parsed → given ≡ parsed

-- two ledgers to which a trace leads from one ledger are equal
abbrev pub LeadsToOne : Type 0
LeadsToOne = (trace : Trace) (old one other : Ledger) → Runs trace old one → Runs trace old other → one ≡ other
