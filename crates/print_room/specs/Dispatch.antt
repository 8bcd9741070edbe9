-- A dispatch: a good plan is kept, and each free device begins a job.
use Rattle.std.specs.Prelude.{ℕ, suc, ◌≡◌, ◌≢◌, ◌==◌, ◌&&◌, ◌+◌, Bool, true, false, if◌then◌else◌, List, [], ◌∷◌, ◌++◌, map, Option, Some, None, option_to_list}
use Rattle.base_types.specs.Device.{Device}
use Rattle.base_types.specs.declared.device.Activity.{Activity}
use Rattle.base_types.specs.declared.device.Activity.TheVariants.{Running}
use Rattle.plan_prices.specs.declared.plan.PlannedClass.{PlannedClass}
use Rattle.plan_prices.specs.Plan.{PlanRecord}
use Rattle.plan_prices.specs.Way.{queue_of}
use Rattle.plan_prices.specs.Total.{time_on}
use Rattle.spool.specs.Jobs.{with_job}
use Rattle.job_objects.specs.declared.job_change.JobChange.TheVariants.{Begin}
use Rattle.spool.specs.Spooled.{changed}
use Rattle.spool.specs.Calls.{marked_by}
use Rattle.print_room.specs.declared.started.Started.{Started}
use Rattle.print_room.specs.Activity.{wait_of}
use Rattle.print_room.specs.State.{State, with_device, doing}
use Rattle.print_room.specs.Ready.{ready_of}
use Rattle.print_room.specs.GoodPlan.{IsGoodPlan}

-- whether a device runs and has no job
abbrev pub runs_idle : Activity → Bool
runs_idle (Running None) = true
runs_idle _ = false

-- whether a device can begin a job at a moment: it runs, has no job, and its moment to begin has come
abbrev pub is_free : ℕ → Device → Bool
is_free now device = runs_idle device.activity && (wait_of now device == 0)

-- the first of the jobs that a class has for a device, and its time there
abbrev pub first_of_queue : PlannedClass → ℕ → List ℕ → Option Started
first_of_queue class place [] = None
first_of_queue class place (job ∷ jobs) = Some (record { job = job; device = place; time = time_on class.problem job place })

-- the first, or the next if there is no first
abbrev pub or_next : Option Started → Option Started → Option Started
or_next (Some first) next = Some first
or_next None next = next

-- the first job of a device's list, the lists of the classes joined from the highest down
abbrev pub first_of : List PlannedClass → ℕ → Option Started
first_of [] place = None
first_of (class ∷ classes) place = or_next (first_of_queue class place (queue_of class.priced.way place)) (first_of classes place)

-- the jobs that these devices begin at a moment, where the first device is at `place`: each free device begins the first job of its list
abbrev pub starts_from : ℕ → List PlannedClass → ℕ → List Device → List Started
starts_from now classes place [] = []
starts_from now classes place (device ∷ devices) = option_to_list (if is_free now device then first_of classes place else None) ++ starts_from now classes (suc place) devices

-- the jobs that begin under a plan, by device
abbrev pub starts_of : ℕ → State → PlanRecord → List Started
starts_of now state plan = starts_from now plan.classes 0 state.devices

-- a device begins a job, whose end is estimated by its time
abbrev pub beginning : ℕ → Started → State → State
beginning now start state = record state {
  devices = with_device start.device (doing (Running (Some (record { job = start.job; end = now + start.time })))) state.devices;
  spool = record state.spool { jobs = with_job start.job (changed Begin now) state.spool.jobs };
}

-- the jobs begin, one after the other
abbrev pub beginning_all : ℕ → List Started → State → State
beginning_all now [] state = state
beginning_all now (start ∷ starts) state = beginning_all now starts (beginning now start state)

-- the plan is kept, and the ready jobs are marked as stranded or not
abbrev pub marked_state : ℕ → PlanRecord → State → State
marked_state now plan state = record state {
  last = now;
  plan = Some plan;
  spool = record state.spool { jobs = map (marked_by state.paused plan.stranded) state.spool.jobs };
}

-- A dispatch: if no job is ready, no plan is made and nothing changes. Otherwise some good plan is kept, the ready jobs are marked, and each free device begins the first job of its list.
abbrev pub Dispatches : ℕ → State → Option PlanRecord → List Started → State → Type 0
Dispatches now old None started new = (ready_of old ≡ []) × (started ≡ []) × (new ≡ old)
Dispatches now old (Some plan) started new =
    (ready_of old ≢ []) × IsGoodPlan now old plan × (started ≡ starts_of now old plan)
    × (new ≡ record (beginning_all now started (marked_state now plan old)) { begun = started })

-- a dispatch, by whether a plan was made
abbrev pub DispatchedAs : ℕ → State → Bool → State → Type 0
DispatchedAs now old false new = Dispatches now old None [] new
DispatchedAs now old true new = (plan : PlanRecord) × (new.plan ≡ Some plan) × Dispatches now old (Some plan) new.begun new
