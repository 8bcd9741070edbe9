-- An event at the core: a step, the cancels of its effects, and a dispatch unless the event is a query. A run is a list of events, one after the other.
use Rattle.std.specs.Prelude.{ℕ, ◌≡◌, max, List, [], ◌∷◌, ◌++◌, map, option_map, Option, Some, None}
use Rattle.events.specs.declared.event.Event.{Event}
use Rattle.events.specs.declared.effects.Effects.{Effects}
use Rattle.events.specs.Event.{is_query}
use Rattle.dispatcher.specs.declared.handled.Handled.{Handled}
use Rattle.dispatcher.specs.declared.run.Timed.{Timed}
use Rattle.print_room.specs.State.{State}
use Rattle.dispatcher.specs.Notes.{Note, Canceled, Notifies}
use Rattle.dispatcher.specs.Following.{Follows}
use Rattle.dispatcher.specs.Step.{Step, TakesNoMemory}

-- the outcome of an event: what the core did; none if memory was refused, and the event was dropped
abbrev pub Outcome : Type 0
Outcome = Option Handled

-- the effects of an event, unless it was dropped
abbrev pub effects_of : Outcome → Option Effects
effects_of outcome = option_map (λ (it : Handled). it.effects) outcome

-- the notes for the cancels of effects
abbrev pub cancel_notes : Effects → List Note
cancel_notes effects = map Canceled effects.cancels.items

-- an event was handled: its step and the dispatch after it, and the notes: the cancels of its effects, and then the dispatch
pub record HandledAs (moment : ℕ) (event : Event) (old : State) (handled : Handled) (notes : List Note) (new : State) : Type 0 where
  pub mid : State
  pub later : List Note
  pub step : Step old event moment handled.effects mid
  pub follows : Follows (is_query event) (max moment mid.last) mid handled.dispatch later new
  pub notes_are : notes ≡ cancel_notes handled.effects ++ later

-- An event was handled, or it was dropped, out of memory. An event that takes no memory isn't dropped.
abbrev pub Handles : ℕ → Event → State → Outcome → List Note → State → Type 0
Handles moment event old (Some handled) notes new = HandledAs moment event old handled notes new
Handles moment event old None notes new = (new ≡ old) × (notes ≡ []) × (TakesNoMemory event moment old → ⊥)

-- as `Handles`, with an observer that gets the notes
abbrev pub Comes : {L : Type 0} → (L → Note → L → Type 0) → State → L → Timed → Outcome → State → L → Type 0
Comes notified old observer timed outcome new observer' = (notes : List Note) × Handles timed.moment timed.event old outcome notes new × Notifies notified observer notes observer'

-- each event in turn
abbrev pub Run : {L : Type 0} → (L → Note → L → Type 0) → State → L → List Timed → List Outcome → State → L → Type 0
Run notified old observer [] [] new observer' = (new ≡ old) × (observer' ≡ observer)
Run {L} notified old observer (timed ∷ events) (outcome ∷ outcomes) new observer' =
    (mid : State) × (noted : L) × Comes notified old observer timed outcome mid noted × Run notified mid noted events outcomes new observer'
Run notified old observer [] (outcome ∷ outcomes) new observer' = ⊥
Run notified old observer (timed ∷ events) [] new observer' = ⊥
