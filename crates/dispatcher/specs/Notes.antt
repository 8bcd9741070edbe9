-- The notes that an observer gets, in order.
use Rattle.std.specs.Prelude.{ℕ, ◌≡◌, List, [], ◌∷◌, Option}
use Rattle.plan_prices.specs.Plan.{PlanRecord}
use Rattle.print_room.specs.declared.started.Started.{Started}
use Rattle.events.specs.declared.effects.Cancel.{Cancel}
use Rattle.dispatcher.specs.declared.observer.AllocationSite.{AllocationSite}
use Rattle.dispatcher.specs.declared.observer.DeviceRefusal.{DeviceRefusal}

-- a dispatch, with its plan if a job was ready, and the jobs that began; a cancel for a device; a device's connection that is refused; memory that was refused
pub data Note : Type 0 where
  Planned : (plan : Option PlanRecord) (started : List Started) → Note
  Canceled : (cancel : Cancel) → Note
  DeviceRefused : (id : ℕ) (why : DeviceRefusal) → Note
  Refused : (place : AllocationSite) (id : Option ℕ) → Note

-- the observer is led through these notes, one after the other
abbrev pub Notifies : {L : Type 0} → (L → Note → L → Type 0) → L → List Note → L → Type 0
Notifies notified old [] new = new ≡ old
Notifies {L} notified old (note ∷ notes) new = (mid : L) × notified old note mid × Notifies notified mid notes new
