-- What turns do of which only some calls pass.
use Rattle.std.specs.Prelude.{ℕ, ◌≡◌, ◌≢◌, ◌⊎◌, false, Bool, List, [], Contains, Some, slice_get}
use Rattle.base_types.specs.Device.{Device}
use Rattle.job_objects.specs.declared.job_state.JobState.TheVariants.{Pending, PendingHeld}
use Rattle.spool.specs.Spooled.{SpooledRecord}
use Rattle.spool.specs.Jobs.{spooled_at}
use Rattle.print_room.specs.State.{State}
use Rattle.print_room.specs.Activity.{job_on}
use Rattle.dispatcher.specs.Notes.{Note, Planned}
use Rattle.wires.specs.declared.wire.Progress.TheVariants.{Done}
use Rattle.wires.specs.Poll.{Poll, Writes}
use Rattle.connections.specs.SendQueue.{IsPrefix}
use Rattle.connections.specs.Entry.{Entry, waiting}
use Rattle.server.specs.Polls.{Happening, Notified}
use Rattle.server.specs.Ledger.{Ledger}
use Rattle.server.specs.Rel.{Seen}
use Rattle.server.specs.Turn.{Turn, is_tick_due}

-- the turn leads from one ledger to another as a wire and an observer see it, and no tick is due in it
pub record TurnsUnticked (moment : ℕ) (old : Ledger) (hs : List Happening) (new : Ledger) : Type 0 where
  pub turns : Seen (Turn moment) old hs new
  pub unticked : is_tick_due moment old ≡ false

-- ---- what is sent

-- these bytes are a prefix of the bytes that wait on the open connection of this number
abbrev pub IsDue : Ledger → ℕ → List ℕ → Type 0
IsDue l id offered = (key : ℕ) × (e : Entry) × (l.entries key ≡ Some e) × (e.id ≡ id) × IsPrefix offered (waiting e)

-- whatever was offered to a write that took bytes was due in this ledger
abbrev pub AreDue : Ledger → List Poll → Type 0
AreDue l polls = (id : ℕ) (offered : List ℕ) (count : ℕ) → Contains polls (Writes id offered (Done count)) → IsDue l id offered

-- ---- jobs that wait

-- a job that no device has, complete or not, held or not
pub record Waits (id : ℕ) (spooled : SpooledRecord) (state : State) : Type 0 where
  pub there : spooled_at id state.spool.jobs ≡ Some spooled
  pub unfinished : (spooled.job.state ≡ Pending) ⊎ (spooled.job.state ≡ PendingHeld)
  pub apart : (place : ℕ) (device : Device) → slice_get state.devices place ≡ Some device → job_on device.activity ≢ Some id

-- the job with another mark, which indicates whether the last plan found no device for it
abbrev pub marked_as : Bool → SpooledRecord → SpooledRecord
marked_as stranded spooled = record spooled { job = record spooled.job { stranded = stranded } }

-- Each job that waits waits as before: only its mark may be another. The next job gets the id that it would have got.
pub record WaitingStay (old new : State) : Type 0 where
  pub waits : (id : ℕ) (spooled : SpooledRecord) → Waits id spooled old → (stranded : Bool) × Waits id (marked_as stranded spooled) new
  pub next : new.spool.next ≡ old.spool.next

-- no job begins
abbrev pub BeginsNone : Note → Type 0
BeginsNone (Planned plan started) = started ≡ []
BeginsNone _ = Unit {0}

abbrev pub NoneBegins : List Happening → Type 0
NoneBegins hs = (note : Note) → Contains hs (Notified note) → BeginsNone note
