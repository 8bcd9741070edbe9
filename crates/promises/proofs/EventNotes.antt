-- The observer's notes of an event, by any table of the notes that are taken from happenings.
use Rattle.std.proofs.Common.{◌≡◌, ℕ, Bool, List, [], ◌∷◌, ◌++◌, refl, sym, ◌∙◌, ap, subst, Option, Some, None}
use Rattle.std.specs.Prelude.{map}
use Rattle.std.specs.List.{flat_map}
use Rattle.std.proofs.lemmas.Grind.{flat_map-append}
use Rattle.plan_prices.specs.Plan.{PlanRecord}
use Rattle.print_room.specs.declared.started.Started.{Started}
use Rattle.print_room.specs.State.{State}
use Rattle.events.specs.declared.event.Event.{Event}
use Rattle.events.specs.declared.effects.Cancel.{Cancel}
use Rattle.events.specs.Event.{is_query}
use Rattle.dispatcher.specs.declared.observer.AllocationSite.TheVariants as At
use Rattle.dispatcher.specs.Notes.{Note, Planned, Canceled, Refused}
use Rattle.dispatcher.specs.declared.handled.Dispatch.{Dispatch}
use Rattle.dispatcher.specs.declared.handled.Dispatch.TheVariants as dispatch
use Rattle.dispatcher.specs.Following.{Follows}
use Rattle.dispatcher.specs.Run.{Outcome, cancel_notes, Handles}
use Rattle.server.specs.Polls.{Happening, Notified}

map_notified : (notes more : List Note) → map Notified (notes ++ more) ≡ map Notified notes ++ map Notified more
map_notified [] more = refl
map_notified (note ∷ notes) more = ap (λ (hs : List Happening). Notified note ∷ hs) (map_notified notes more)

-- a table that takes each note of the core
module _ (note_of : Happening → List Note) (of_cancel : (cancel : Cancel) → note_of (Notified (Canceled cancel)) ≡ Canceled cancel ∷ []) (of_plan : (plan : Option PlanRecord) (started : List Started) → note_of (Notified (Planned plan started)) ≡ Planned plan started ∷ []) (of_refusal : note_of (Notified (Refused At.Dispatch None)) ≡ Refused At.Dispatch None ∷ []) where
  notified_cancels : (cancels : List Cancel) → flat_map note_of (map Notified (map Canceled cancels)) ≡ map Canceled cancels
  notified_cancels [] = refl
  notified_cancels (cancel ∷ cancels) = ap (λ (ns : List Note). ns ++ flat_map note_of (map Notified (map Canceled cancels))) (of_cancel cancel) ∙ ap (λ (ns : List Note). Canceled cancel ∷ ns) (notified_cancels cancels)

  notified_then : (cancels : List Cancel) (later : List Note) → flat_map note_of (map Notified later) ≡ later → flat_map note_of (map Notified (map Canceled cancels ++ later)) ≡ map Canceled cancels ++ later
  notified_then cancels later is =
      ap (λ (hs : List Happening). flat_map note_of hs) (map_notified (map Canceled cancels) later)
      ∙ (flat_map-append note_of (map Notified (map Canceled cancels)) (map Notified later)
      ∙ (ap (λ (ns : List Note). ns ++ flat_map note_of (map Notified later)) (notified_cancels cancels) ∙ ap (λ (ns : List Note). map Canceled cancels ++ ns) is))

  notified_as : (notes parsed : List Note) → notes ≡ parsed → flat_map note_of (map Notified parsed) ≡ parsed → flat_map note_of (map Notified notes) ≡ notes
  notified_as notes parsed same is = subst (λ (ns : List Note). flat_map note_of (map Notified ns) ≡ ns) (sym same) is

  notified_one : (note : Note) → note_of (Notified note) ≡ note ∷ [] → flat_map note_of (map Notified (note ∷ [])) ≡ note ∷ []
  notified_one note is = ap (λ (ns : List Note). ns ++ []) is

  follows_notified : (query : Bool) (now : ℕ) (old : State) (made : Dispatch) (notes : List Note) (new : State) → Follows query now old made notes new → flat_map note_of (map Notified notes) ≡ notes
  follows_notified query now old dispatch.Query notes new (is, same, none) = notified_as notes [] none refl
  follows_notified query now old dispatch.OutOfMemory notes new (is, ready, same, one) = notified_as notes (Refused At.Dispatch None ∷ []) one (notified_one (Refused At.Dispatch None) of_refusal)
  follows_notified query now old dispatch.Idle notes new (is, made, one) = notified_as notes (Planned None [] ∷ []) one (notified_one (Planned None []) (of_plan None []))
  follows_notified query now old dispatch.Planned notes new (is, plan, made, one) = notified_as notes (Planned (Some plan) new.begun ∷ []) one (notified_one (Planned (Some plan) new.begun) (of_plan (Some plan) new.begun))

  pub notified_all : (moment : ℕ) (event : Event) (old : State) (outcome : Outcome) (notes : List Note) (new : State) → Handles moment event old outcome notes new → flat_map note_of (map Notified notes) ≡ notes
  notified_all moment event old (Some handled) notes new it =
      notified_as notes (cancel_notes handled.effects ++ it.later) it.notes_are (notified_then handled.effects.cancels.items it.later (follows_notified (is_query event) _ it.mid handled.dispatch it.later new it.follows))
  notified_all moment event old None notes new it = notified_as notes [] it.1 refl
