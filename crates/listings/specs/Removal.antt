-- The jobs that an LPD client removes (RFC 1179, section 5.5). The operators of the settings have no special right here.
use Rattle.std.specs.Prelude.{ℕ, ◌==◌, ◌&&◌, not, Bool, if◌then◌else◌, List, [], length, map, filter, find, Option, option_map, option_to_list, codes}
use Rattle.std.specs.List.{list_any}
use Rattle.std.specs.Option.{option_map_or}
use Rattle.std.specs.Str.{bytes_eq}
use Rattle.text.specs.Digits.{decimal_in}
use Rattle.job_objects.specs.Job.{JobRecord}
use Rattle.job_objects.specs.JobState.{is_finished}
use Rattle.printer_objects.specs.PrinterState.{is_busy_with}
use Rattle.spool.specs.Requester.{RequesterRecord, may_change}
use Rattle.print_room.specs.State.{State}
use Rattle.listings.specs.Queue.{queue_of}
use Rattle.events.specs.declared.queue.RemoveJobs.{RemoveJobs}

abbrev pub is_root : List ℕ → Bool
is_root agent = bytes_eq agent (codes "root")

-- root removes as an operator does
abbrev pub remover : List ℕ → RequesterRecord
remover agent = record { name = agent; is_operator = is_root agent }

-- root may remove any job, others their own
abbrev pub may_remove : List ℕ → JobRecord → Bool
may_remove agent job = may_change (remover agent) job

-- an operand of digits names the job of that id; any other operand names the jobs of that owner, if the agent is root
abbrev pub names_for : List ℕ → List ℕ → JobRecord → Bool
names_for agent operand job = option_map_or (λ id. id == job.id) (decimal_in operand) (is_root agent && bytes_eq operand job.owner)

-- whether a removal from the printer at a place names an unfinished job
abbrev pub is_named : ℕ → RemoveJobs → JobRecord → Bool
is_named place request job =
    (job.needs.printer == place) && not (is_finished job.state) && may_remove request.agent job
    && list_any (λ operand. names_for request.agent operand job) request.operands.items

-- the jobs that a removal names, by rising id
abbrev pub named_jobs : ℕ → RemoveJobs → State → List ℕ
named_jobs place request state = map (λ s. s.job.id) (filter (λ s. is_named place request s.job) state.spool.jobs)

-- whether a device has the job for the printer at a place, running or stopped, and the agent may remove it
abbrev pub is_active : ℕ → List ℕ → JobRecord → Bool
is_active place agent job = is_busy_with place job && may_remove agent job

-- the least id among such jobs
abbrev pub active_job : ℕ → List ℕ → State → Option ℕ
active_job place agent state = option_map (λ s. s.job.id) (find (λ s. is_active place agent s.job) state.spool.jobs)

-- the jobs that are removed from the printer at a place: the active job if the request has no operands
abbrev pub removed_from : ℕ → RemoveJobs → State → List ℕ
removed_from place request state =
    if length request.operands.items == 0 then option_to_list (active_job place request.agent state)
    else named_jobs place request state

-- the removed jobs, by rising id; none if the queue isn't known
abbrev pub removed_jobs : RemoveJobs → State → List ℕ
removed_jobs request state = option_map_or (λ place. removed_from place request state) (queue_of request.queue state) []
