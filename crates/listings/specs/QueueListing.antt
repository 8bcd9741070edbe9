-- The listing of a queue for an LPD client (RFC 1179, sections 5.3 and 5.4).
use Rattle.std.specs.Prelude.{ℕ, ◌≡◌, false, if◌then◌else◌, List, [], ◌∷◌, map, filter, None}
use Rattle.job_objects.specs.Job.{JobRecord}
use Rattle.job_objects.specs.Reasons.{reasons_of}
use Rattle.spool.specs.Calls.{paused_at}
use Rattle.print_room.specs.State.{State}
use Rattle.listings.specs.Listing.{WantedJobs, listing}
use Rattle.listings.specs.Groups.{state_of_printer}
use Rattle.events.specs.declared.queue.QueueEntry.{QueueEntry}
use Rattle.events.specs.declared.queue.QueueListing.{QueueListing}
use Rattle.events.specs.declared.queue.ListQueue.{ListQueue}
use Rattle.listings.specs.Operand.{is_shown}

-- the entry of a job
abbrev pub entry_of : State → JobRecord → QueueEntry
entry_of state job = record {
  id = job.id;
  state = job.state;
  reasons = reasons_of job (paused_at state.paused job.needs.printer);
  owner = job.owner;
  octets = job.octets;
  impressions = job.needs.impressions;
  copies = job.needs.copies;
  name = job.name;
}

-- the unfinished jobs of the printer at a place
abbrev pub queued : ℕ → WantedJobs
queued place = record { printer = place; finished = false; owner = None; limit = None }

-- the entries of the unfinished jobs that the operands name, in the order of Get-Jobs
abbrev pub entries_of : ℕ → ℕ → List (List ℕ) → State → List QueueEntry
entries_of now place operands state = map (entry_of state) (filter (is_shown operands) (listing now state (queued place)))

-- the entries for one job
abbrev pub shown_of : List (List ℕ) → State → JobRecord → List QueueEntry
shown_of operands state job = if is_shown operands job then entry_of state job ∷ [] else []

-- the listing of a queue, which is the printer at a place
pub record ShowsQueue (now place : ℕ) (request : ListQueue) (state : State) (listing : QueueListing) : Type 0 where
  pub form : listing.form ≡ request.form
  pub name : listing.name ≡ request.queue
  pub state_is : listing.state ≡ state_of_printer place state
  pub jobs : listing.jobs.items ≡ entries_of now place request.operands.items state
