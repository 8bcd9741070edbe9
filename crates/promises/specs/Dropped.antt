-- The notes of a trace's events. For an event that was dropped, the note is that memory for it was refused.
use Rattle.std.specs.Prelude.{ℕ, ◌≡◌, not, Bool, true, false, List, [], ◌∷◌, ◌++◌, Option, Some, None}
use Rattle.std.specs.List.{flat_map}
use Rattle.print_room.specs.State.{State}
use Rattle.dispatcher.specs.declared.observer.AllocationSite.{AllocationSite}
use Rattle.dispatcher.specs.declared.observer.AllocationSite.TheVariants as At
use Rattle.dispatcher.specs.declared.run.Timed.{Timed}
use Rattle.dispatcher.specs.Notes.{Note, Refused}
use Rattle.dispatcher.specs.Run.{Outcome, Handles}
use Rattle.connections.specs.declared.ask.Part.TheVariants.{File, Job}
use Rattle.connections.specs.Choice.{Loss, OfGrowth, OfPart, OfBody}
use Rattle.server.specs.Polls.{Happening, Notified, Asked, Chosen}
use Rattle.server.specs.Turn.{Action, Served_body, Trace}
use Rattle.server.specs.Law.{refusal_note, core_note, happenings_of, IsOneRun}

-- ---- the notes of events

-- memory to make an event of the input was refused: of a request's body, or of a job's files
abbrev pub is_unmade : Loss → Bool
is_unmade OfBody = true
is_unmade (OfPart Job) = true
is_unmade (OfPart File) = false
is_unmade (OfGrowth growth) = false

-- whether a refusal directly after this happening may be that of an event: it isn't if no event could be made
abbrev pub brings_event : Happening → Bool
brings_event (Chosen (Asked part (Some loss))) = not (is_unmade loss)
brings_event _ = true

-- the note of a refusal, if it is that of an event, which may have come, or that of an event's dispatch
abbrev pub refusal_notified : AllocationSite → Bool → Option ℕ → List Note
refusal_notified At.Event true id = Refused At.Event id ∷ []
refusal_notified place came id = refusal_note place id

-- the part of a happening that is about events: all notes of the core, and that memory for an event was refused
abbrev pub event_note : Bool → Happening → List Note
event_note came (Notified (Refused place id)) = refusal_notified place came id
event_note came h = core_note h

-- all of these notes, in order; `came` indicates whether an event may have come before the first happening
abbrev pub event_notes : Bool → List Happening → List Note
event_notes came [] = []
event_notes came (h ∷ hs) = event_note came h ++ event_notes (brings_event h) hs

-- whether a refusal at the beginning of an action may be that of an event: not if a body is served, which is read first
abbrev pub begins_event : Action → Bool
begins_event (Served_body moment body answer hs) = false
begins_event _ = true

-- all of these notes of a trace, action by action
abbrev pub events_notified : Trace → List Note
events_notified trace = flat_map (λ (action : Action). event_notes (begins_event action) (happenings_of action)) trace

-- ---- the law

-- an event, and the observer's notes of it: that memory for it was refused, or the notes of the core
abbrev pub IsNotifiedOf : Timed → State → Outcome → List Note → State → Type 0
IsNotifiedOf timed old (Some handled) notified new = Handles timed.moment timed.event old (Some handled) notified new
IsNotifiedOf timed old None notified new = (id : Option ℕ) × (notified ≡ Refused At.Event id ∷ []) × Handles timed.moment timed.event old None [] new

-- the events in order, and the observer has no other notes of events
abbrev pub AreNotifiedOf : State → List Timed → List Outcome → List Note → State → Type 0
AreNotifiedOf old [] [] notified new = (new ≡ old) × (notified ≡ [])
AreNotifiedOf old (timed ∷ events) (outcome ∷ outcomes) notified new =
    (mid : State) × (first : List Note) × (later : List Note) × (notified ≡ first ++ later) × IsNotifiedOf timed old outcome first mid × AreNotifiedOf mid events outcomes later new
AreNotifiedOf old [] (outcome ∷ outcomes) notified new = ⊥
AreNotifiedOf old (timed ∷ events) [] notified new = ⊥

-- The happenings of a trace are one run of the core. For each event of it, in order, the observer has notes: for an event that was dropped, that memory for it was refused; for any other, its cancels and its dispatch, or that memory for the dispatch was refused. Hence the dropped events, and the dispatches that were not made, are exactly those of which the observer was notified.
pub record NotifiesDropped (trace : Trace) (old new : State) : Type 0 where
  pub one : IsOneRun trace old new
  pub notified : AreNotifiedOf old one.events one.outcomes (events_notified trace) new
