-- Jobs that were submitted again.
use Rattle.std.specs.Prelude.{◌≡◌, Some, option_map}
use Rattle.std.specs.Option.{ForSome}
use Rattle.spool.specs.Jobs.{spooled_at}
use Rattle.print_room.specs.State.{State}
use Rattle.journal.specs.Saved.{saved_of}
use Rattle.journal.specs.declared.resubmitted.Resubmitted.{Resubmitted}

-- where the job got another id, the core has under that id the same job
abbrev pub IsKept : State → Resubmitted → Type 0
IsKept core resubmitted = ForSome resubmitted.new (λ id. option_map (saved_of core.settings) (spooled_at id core.spool.jobs) ≡ Some (record resubmitted.job { id = id }))
