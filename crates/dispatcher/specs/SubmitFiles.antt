-- The step of an LPD client's job of files (RFC 1179, section 6): the job is taken with the defaults of its printer, or it isn't taken.
use Rattle.std.specs.Prelude.{ℕ, ◌≡◌, true, false, List, [], Option, Some, None, is_some, if◌then◌else◌, slice_get, MatchOption}
use Rattle.std.specs.Option.{option_and_then, option_map_or}
use Rattle.base_types.specs.declared.limits.TheConstants.Limits.{DEFAULT_PRIORITY}
use Rattle.base_types.specs.declared.needs.Sides.TheVariants.{One}
use Rattle.base_types.specs.Finishings.{no_finishings}
use Rattle.spool.specs.Calls.{new_refusal}
use Rattle.spool.specs.Submission.{Submission}
use Rattle.events.specs.declared.event.SubmitFiles.{SubmitFiles}
use Rattle.events.specs.declared.effects.LpdResponse.TheVariants.{Taken}
use Rattle.events.specs.declared.effects.Effects.{Effects}
use Rattle.events.specs.Effects.{AnswersLpd}
use Rattle.listings.specs.Queue.{queue_of}
use Rattle.print_room.specs.State.{State}
use Rattle.print_room.specs.Jobs.{with_job_taken}

-- the default medium of the printer at a place
abbrev pub default_medium : ℕ → State → List ℕ
default_medium place state = option_map_or (λ printer. printer.media_default) (slice_get state.settings.printers place) []

-- the job of the files: one copy, one-sided, on the default medium, of normal priority, not held
abbrev pub job_of_files : SubmitFiles → ℕ → State → ℕ → Submission
job_of_files request now state place = record {
  created = now;
  printer = place;
  owner = request.owner;
  name = request.name;
  priority = DEFAULT_PRIORITY;
  sides = One;
  finishings = no_finishings;
  media = default_medium place state;
  copies = 1;
  held = false;
  impressions = None;
  documents = request.documents.items;
}

-- the job, if its queue is known and there is room for it
abbrev pub filed_of : SubmitFiles → ℕ → State → Option Submission
filed_of request now old =
    if is_some (new_refusal old.spool request.documents.items) then None
    else option_and_then (λ place. Some (job_of_files request now old place)) (queue_of request.queue old)

-- the job is kept under the next id
pub record FilesJob (now : ℕ) (old : State) (job : Submission) (effects : Effects) (new : State) : Type 0 where
  pub answers : AnswersLpd (Taken true) effects
  pub state : new ≡ with_job_taken now job false old

-- the job isn't taken, and only the last moment changes
pub record FilesNothing (now : ℕ) (old : State) (effects : Effects) (new : State) : Type 0 where
  pub answers : AnswersLpd (Taken false) effects
  pub state : new ≡ record old { last = now }

-- the relation has at most one result: effects and a state
abbrev pub SubmitsFiles : ℕ → SubmitFiles → State → Effects → State → Type 0
SubmitsFiles now request old effects new =
    MatchOption (filed_of request now old) (FilesNothing now old effects new) (λ job. FilesJob now old job effects new)
